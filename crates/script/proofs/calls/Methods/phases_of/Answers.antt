use Rattle.std.proofs.lemmas.Result.{err_from_is_err_and}
use Rattle.script.specs.Script.{phase_of}
use Rattle.script.specs.Seen.{lists}
use Rattle.script.proofs.Each.{next, fails}
use Rattle.script.proofs.calls.Methods.phases_of.Goals as goal

pub returns-in_err-phase_at : goal.returns-in_err-phase_at
returns-in_err-phase_at c =
    let p = err_from_is_err_and c.from_residual.result c.from_residual.ensures.1 in
    rw (p.1, p.2) (fails (phase_of c.args.self.now.classes c.args.self.now.program c.args.lanes) lists c.args.lists.now c.loop-index.index c.index-lists-index.result c.in_err-phase_at.field-0.0 c.loop-index.phases.items _
    c.loop-index-test.true c.index-lists-index.is c.in_err-phase_at.ensures c.loop-index.invariant)

pub loop-index-preserved : goal.loop-index-preserved
loop-index-preserved c =
    next (phase_of c.args.self.now.classes c.args.self.now.program c.args.lanes) lists c.args.lists.now c.loop-index.index c.index-lists-index.result c.loop-index.phases.items c.push.new.self.items c.in_ok-phase_at.field-0 _
    c.loop-index-test.true c.index-lists-index.is c.in_ok-phase_at.ensures c.in_ok-push.ensures.items c.loop-index.invariant
