-- A table of the numbers of instructions.
use Rattle.std.specs.Prelude.{◌≡◌, ℕ, List, Option, Some, None, slice_index_or, nat_eq, if◌then◌else◌}
use Rattle.jmodel.specs.declared.instruction.Instr.{Instr}
use Rattle.objects.specs.linking.Code.{number_at}

-- it has for each place the number of the instruction there
abbrev pub AreNumbers : List (Option ℕ) → List Instr → Type 0
AreNumbers numbers is = (pc : ℕ) → slice_index_or numbers pc None ≡ number_at is pc

abbrev pub or_number : Option ℕ → ℕ → Option ℕ
or_number None number = Some number
or_number (Some n) number = Some n

-- one more number is there at a place, unless it had one
abbrev pub Notes : List (Option ℕ) → List (Option ℕ) → ℕ → ℕ → Type 0
Notes before after place number =
    (pc : ℕ) → slice_index_or after pc None ≡ (if nat_eq place pc then or_number (slice_index_or before pc None) number else slice_index_or before pc None)
