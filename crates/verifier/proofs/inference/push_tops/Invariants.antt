use Rattle.std.proofs.Common.{◌≡◌, ◌++◌, replicate}
use Rattle.jmodel.specs.declared.typing.VType.TheVariants.{Top}
use Rattle.verifier.proofs.inference.push_tops.Given as goal

abbrev pub invariant-loop : goal.invariant-loop
invariant-loop l = l.types.items ≡ l.initial.types.items ++ replicate l.counter Top
