use Rattle.std.proofs.Common.{map}
use Rattle.runner.proofs.Readying.{is_ordered, of_order}
use Rattle.runner.proofs.preparing.ordered.Goals as goal

pub returns-in-Ok-clause-order : goal.returns-in-Ok-clause-order
returns-in-Ok-clause-order c = (is_ordered c.args.files.now (map (λ k. k.now) c.in-Ok.classes.items) c.requires.few c.requires.form c.in-Ok.ensures.order).0

pub returns-in-Ok-clause-read : goal.returns-in-Ok-clause-read
returns-in-Ok-clause-read c = (is_ordered c.args.files.now (map (λ k. k.now) c.in-Ok.classes.items) c.requires.few c.requires.form c.in-Ok.ensures.order).1

pub returns-in-Err-Refused-clause-cause : goal.returns-in-Err-Refused-clause-cause
returns-in-Err-Refused-clause-cause c = of_order c.args.files.now c.in-Err-Refused.refusal (rw c.in-Err-Refused.field-0-is at c.in-Err-Refused.ensures.order)
