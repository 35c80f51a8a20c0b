use Rattle.std.proofs.Common.{◌≡◌, ◌++◌, replicate}
use Rattle.objects.specs.declared.op.Slot.TheVariants.{Empty}
use Rattle.machine.proofs.stack.Locals.add_empty.Given as goal

abbrev pub invariant-loop : goal.invariant-loop
invariant-loop l = l.self ≡ l.initial.self ++ replicate l.counter Empty
