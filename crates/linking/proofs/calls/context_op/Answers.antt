use Rattle.std.proofs.Common.{ap}
use Rattle.std.specs.Prelude.{option_map}
use Rattle.objects.specs.declared.op.Op.TheVariants.{Context}
use Rattle.linking.proofs.calls.context_op.Goals as goal

pub returns-in-Some : goal.returns-in-Some
returns-in-Some c = ap (option_map Context) c.in-Some.ensures

pub returns-in-None : goal.returns-in-None
returns-in-None c = ap (option_map Context) c.in-None.ensures
