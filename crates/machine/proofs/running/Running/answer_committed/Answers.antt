use Rattle.std.proofs.Common.{refl}
use Rattle.machine.specs.Running.{meter}
use Rattle.machine.proofs.running.Running.answer_committed.Goals as goal

pub returns-clause-answer : goal.returns-clause-answer
returns-clause-answer c = λ B w r. rw (c.in_ok-resume.ensures, c.in_ok-set_copy.ensures, c.in_ok-callers.ensures, c.spare-frame.ensures) at (c.finish-answer.ensures B (meter c.args.self.now) w r refl)
