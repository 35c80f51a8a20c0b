-- What the search for a typing answers, of a program's method by its number.
use Rattle.std.specs.Prelude.{◌≡◌, ℕ, Some}
use Rattle.std.specs.List.{AllByRecursion}
use Rattle.objects.specs.semantics.Program.{Method, Program, method_at}
use Rattle.objects.specs.typing.Source.{IsReadType}
use Rattle.objects.specs.typing.Typing.{Table, IsTyping, IsNarrowest, IsUntypableAt}
use Rattle.verifier.specs.declared.inference.TypeEnd.{TypeEnd}
use Rattle.verifier.specs.declared.inference.TypeEnd.TheVariants.{Untypable, NoMemory}

-- the types of a method's parameters are as typing reads them
abbrev pub TakesRead : Program → ℕ → Type 0
TakesRead P m = (k : Method) → method_at P m ≡ Some k → AllByRecursion (IsReadType P) k.parameters

-- a typing of the method, and the narrowest
pub record IsInferred (P : Program) (m : ℕ) (T : Table) : Type 0 where
  pub typing : (k : Method) → method_at P m ≡ Some k → IsTyping P k T
  pub narrowest : (k : Method) → method_at P m ≡ Some k → IsNarrowest P k T

-- the least place such that no table meets the rules up to it
abbrev pub IsEnd : Program → ℕ → TypeEnd → Type 0
IsEnd P m (Untypable place) = (k : Method) → method_at P m ≡ Some k → IsUntypableAt P k place
IsEnd P m NoMemory = Unit {0}
