use Rattle.program_typing.specs.Typed.{AreTyped}
use Rattle.program_typing.proofs.typed.type_all.Given as goal

-- the methods so far have these tables, and the first such store of them is known
abbrev pub invariant-loop-method : goal.invariant-loop-method
invariant-loop-method l = AreTyped l.program l.method l.typings.items l.first_early
