use Rattle.machine.proofs.Turning.{lands_as, with_turns_depth}
use Rattle.machine.proofs.running.Running.throw.Goals as goal

pub returns-in-Turn-clause-run : goal.returns-in-Turn-clause-run
returns-in-Turn-clause-run c = λ B w r.
    let e = rw c.in-Turn.is at c.in_ok-unwind.ensures.step in
    lands_as B _ _ c.count.new.self c.count.result r w (rw e (with_turns_depth B c.args.self.now.turns _ _ w r)) (rw c.requires.stage at (c.count.ensures.run B r w))
