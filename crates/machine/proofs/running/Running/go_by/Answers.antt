use Rattle.machine.proofs.Turning.{followed_asks}
use Rattle.machine.proofs.running.Running.go_by.Goals as goal

pub returns-in_default-clause-run : goal.returns-in_default-clause-run
returns-in_default-clause-run c = λ w r.
    followed_asks _ c.in_ok-asking.asking (record c.args.self.now { frame = c.told.new.frame; callers = c.told.new.callers }) w r c.in_default.not-Go c.in_ok-asking.ensures.on c.in_ok-asking.ensures.step
