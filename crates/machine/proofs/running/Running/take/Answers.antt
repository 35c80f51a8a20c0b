use Rattle.std.proofs.Common.{[]}
use Rattle.objects.specs.rewriting.Attempt.{Gives}
use Rattle.machine.specs.Machine.{bounds_of}
use Rattle.machine.specs.Running.{frames, meter}
use Rattle.machine.proofs.Ways.{grows_same}
use Rattle.machine.proofs.Turning.{make_outside, make_outside_tells}
use Rattle.machine.proofs.running.Running.take.Goals as goal

pub returns-in-Open-clause-run : goal.returns-in-Open-clause-run
returns-in-Open-clause-run g c = λ h n r w k used a s.
    rw c.in-Open.is (c.make.ensures.run h n r w k used a (rw c.in-Open.is at s))

pub returns-in-Ready-clause-run : goal.returns-in-Ready-clause-run
returns-in-Ready-clause-run g c = λ h n r w k used a s.
    (r, w, s, (Gives 0, make_outside c.args.self.now.stage c.args.making.of c.args.making.length c.args.making.made (Gives 0) c.args.program.now (bounds_of c.args.limits) (frames c.args.self.now) (meter c.args.self.now) w r c.in-Ready.is, ([], make_outside_tells c.args.program.now (bounds_of c.args.limits) c.args.self.now.stage c.args.making.of c.args.making.length c.args.making.made (Gives 0) (meter c.args.self.now) c.in-Ready.is, tt, grows_same (g.G.Gate.told c.args.gate.now))))
