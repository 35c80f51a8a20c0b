-- The classes above a transaction's conflict, by name, and elements that are no arrays.
use Rattle.std.specs.Prelude.{ℕ, List, [], ◌∷◌, ◌++◌, Bool, false, ◌&&◌, ◌==◌, bytes_eq, codes, if◌then◌else◌}
use Rattle.objects.specs.semantics.Program.{Program}
use Rattle.objects.specs.typing.TypeOrder.{is_ended, is_class_above, without_last, class_read}

abbrev pub exception_class : List ℕ
exception_class = codes "java/lang/Exception"

abbrev pub runtime_class : List ℕ
runtime_class = codes "java/lang/RuntimeException"

-- whether the elements of one descriptor, in which no array comes first, may be those of another
abbrev pub is_base_within : Program → List ℕ → List ℕ → Bool
is_base_within P [] n = false
is_base_within P (c ∷ m) [] = false
is_base_within P (c ∷ m) (d ∷ n) = if c == 76 then (d == 76) && (is_ended n && is_class_above P (without_last m) (without_last n)) else bytes_eq (c ∷ m) (d ∷ n)

-- an element that is no array, as typing reads it
abbrev pub base_read : Program → List ℕ → List ℕ
base_read P [] = []
base_read P (c ∷ n) = if c == 76 then codes "L" ++ class_read P (without_last n) ++ codes ";" else c ∷ n
