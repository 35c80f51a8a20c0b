use Rattle.std.proofs.Common.{◌≡◌, take}
use Rattle.std.specs.List.{flat_map}
use Rattle.objects.specs.semantics.Value.{slots_of}
use Rattle.machine.proofs.stack.Locals.set_values.Given as goal

abbrev pub invariant-loop-value : goal.invariant-loop-value
invariant-loop-value l = l.self ≡ flat_map slots_of (take l.value-index l.args)
