use Rattle.std.proofs.Common.{◌+◌, drop, sym, ap, ◌∙◌}
use Rattle.objects.specs.linking.ClassesFaults.{member_fault}
use Rattle.hierarchy.proofs.Each.{item_is}
use Rattle.hierarchy.proofs.FirstFault.{found, passed}
use Rattle.hierarchy.proofs.InOrder.{seen}
use Rattle.hierarchy.proofs.member_faults.members_fault.Goals as goal

pub returns-in-Some : goal.returns-in-Some
returns-in-Some c =
    let classes = c.args.classes.now in
    let at = c.loop-class.class-index in
    let item = ap seen (item_is classes at c.class-item.result c.loop-class-test.true c.class-item.is) in
    found member_fault (seen (drop at classes)) c.class-item.result.now (seen (drop (at + 1) classes)) c.in-Some.fault _ item (sym c.in_ok-fault.ensures ∙ c.in-Some.is) c.loop-class.invariant

pub loop-class-preserved : goal.loop-class-preserved
loop-class-preserved c =
    let classes = c.args.classes.now in
    let at = c.loop-class.class-index in
    let item = ap seen (item_is classes at c.class-item.result c.loop-class-test.true c.class-item.is) in
    passed member_fault (seen (drop at classes)) c.class-item.result.now (seen (drop (at + 1) classes)) _ item (sym c.in_ok-fault.ensures ∙ c.in_default.is) c.loop-class.invariant
