-- Static initialisers of whatever class.
use Rattle.std.specs.Prelude.{ℕ, Option, Some, None, Bool, false}
use Rattle.objects.specs.linking.Code.{names_initialiser}
use Rattle.objects.specs.semantics.Program.{Method, Program, method_at}

abbrev pub is_initialiser : Option Method → Bool
is_initialiser None = false
is_initialiser (Some k) = names_initialiser k.name

-- whether the method of a number is a static initialiser
abbrev pub is_initialiser_at : Program → ℕ → Bool
is_initialiser_at P m = is_initialiser (method_at P m)
