use Rattle.std.proofs.Common.{◌+◌, drop, sym, ap, ◌∙◌}
use Rattle.objects.specs.linking.ClassesFaults.{reserved_fault}
use Rattle.hierarchy.proofs.Each.{item_is}
use Rattle.hierarchy.proofs.FirstFault.{found, passed}
use Rattle.hierarchy.proofs.reserved.reserved_class.Goals as goal

pub returns-in-Some : goal.returns-in-Some
returns-in-Some c =
    let files = c.args.files.now in
    let at = c.loop-file.file-index in
    let item = item_is files at c.file-item.result c.loop-file-test.true c.file-item.is in
    found reserved_fault (drop at files) c.file-item.result (drop (at + 1) files) c.in-Some.fault _ item (sym c.in_ok-fault.ensures ∙ c.in-Some.is) c.loop-file.invariant

pub loop-file-preserved : goal.loop-file-preserved
loop-file-preserved c =
    let files = c.args.files.now in
    let at = c.loop-file.file-index in
    let item = item_is files at c.file-item.result c.loop-file-test.true c.file-item.is in
    passed reserved_fault (drop at files) c.file-item.result (drop (at + 1) files) _ item (sym c.in_ok-fault.ensures ∙ c.in_default.is) c.loop-file.invariant
