use Rattle.std.proofs.Common.{[]}
use Rattle.objects.specs.rewriting.Attempt.{Gives}
use Rattle.machine.specs.Running.{frames, meter}
use Rattle.machine.proofs.Ways.{grows_same}
use Rattle.machine.proofs.Turning.{head_outside, head_outside_tells}
use Rattle.machine.proofs.running.Running.head.Goals as goal

pub returns-in-Open-clause-run : goal.returns-in-Open-clause-run
returns-in-Open-clause-run g c = λ h n r w k used a s B.
    rw c.in-Open.is (c.head_open.ensures.run h n r w k used a (rw c.in-Open.is at s))

pub returns-in-Ready-clause-run : goal.returns-in-Ready-clause-run
returns-in-Ready-clause-run g c = λ h n r w k used a s B.
    (r, w, s, (Gives 0, head_outside c.args.self.now.stage (Gives 0) c.args.program.now c.args.how c.args.object (frames c.args.self.now) (meter c.args.self.now) w r c.in-Ready.is, ([], head_outside_tells c.args.program.now B c.args.self.now.stage c.args.object c.args.how (Gives 0) (meter c.args.self.now) c.in-Ready.is, tt, grows_same (g.G.Gate.told c.args.gate.now))))
