use Rattle.std.proofs.Common.{sym, ◌∙◌}
use Rattle.bytecode.proofs.Walks.{targets_on, targets_stop, targets_end}
use Rattle.bytecode.proofs.targets.targets_fit.Goals as goal

pub returns-then-not-leads_on : goal.returns-then-not-leads_on
returns-then-not-leads_on c =
    rw c.bad_target.ensures (targets_stop c.args.instrs.now c.args.instrs.now c.loop-i.i-index c.i-item.result c.loop-i-test.true c.i-item.is (sym (c.leads_on.ensures c.args.instrs.now c.requires) ∙ c.if-not-leads_on.true) c.loop-i.invariant)

pub loop-i-preserved : goal.loop-i-preserved
loop-i-preserved c =
    targets_on c.args.instrs.now c.args.instrs.now c.loop-i.i-index c.i-item.result c.loop-i-test.true c.i-item.is (sym (c.leads_on.ensures c.args.instrs.now c.requires) ∙ c.if-not-leads_on.false) c.loop-i.invariant

pub returns : goal.returns
returns c = targets_end c.args.instrs.now c.args.instrs.now c.loop-i.i-index c.loop-i-test.false c.loop-i.invariant
