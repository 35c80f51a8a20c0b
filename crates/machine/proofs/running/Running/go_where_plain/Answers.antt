use Rattle.machine.specs.Running.{at}
use Rattle.machine.proofs.Ways.{way_here}
use Rattle.machine.proofs.running.Running.go_where_plain.Goals as goal

pub returns-then-is_at_other-clause-run : goal.returns-then-is_at_other-clause-run
returns-then-is_at_other-clause-run c = λ P found B w r. way_here P B (at c.args.self.now w r)
