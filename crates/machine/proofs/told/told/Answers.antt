use Rattle.objects.specs.semantics.State.{type_in}
use Rattle.machine.proofs.told.told.Goals as goal

pub returns-in-Measures-clause-step : goal.returns-in-Measures-clause-step
returns-in-Measures-clause-step c = rw c.in-Measures.is (c.measure.ensures.step c.args.program.now c.args.headed.object (type_in c.args.headed.header) c.args.callers.now)
