-- Instructions of a program, by the numbers of their methods and their places.
use Rattle.std.specs.Prelude.{◌≡◌, ◌<◌, ℕ, length, Some, slice_get}
use Rattle.objects.specs.semantics.Program.{Method, Program}

-- a method of a program has an instruction at a place
pub record IsPlace (P : Program) (number place : ℕ) : Type 0 where
  pub method : Method
  pub there : slice_get P.methods number ≡ Some method
  pub inside : place < length method.ops
