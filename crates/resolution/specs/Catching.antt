-- Unknown classes that exception entries catch, by the places of their handlers.
use Rattle.std.specs.Prelude.{◌≡◌, ℕ, List, Option, Some, None, option_map, slice_index_or, nat_eq, if◌then◌else◌}
use Rattle.jmodel.specs.declared.class_file.Handler.{Handler}
use Rattle.jmodel.specs.declared.refusal.Refusal.{Refusal}
use Rattle.jmodel.specs.declared.refusal.Refusal.TheVariants.{UnknownClass}
use Rattle.jmodel.specs.format.ClassFile.{ClassFile, Pool}
use Rattle.objects.specs.linking.Faults.{first_fault}
use Rattle.objects.specs.linking.Constructs.{catch_fault}

-- the fault that a table of names has at a place
abbrev pub caught_at : List (Option (List ℕ)) → ℕ → Option Refusal
caught_at names pc = option_map UnknownClass (slice_index_or names pc None)

-- a table has the first fault of the entries that lead to each place
abbrev pub AreCaught : List ClassFile → Pool → List Handler → List (Option (List ℕ)) → Type 0
AreCaught cs pool handlers names = (pc : ℕ) → caught_at names pc ≡ first_fault (catch_fault cs pool pc) handlers

abbrev pub or_first : {A : Type 0} → Option A → A → Option A
or_first None x = Some x
or_first (Some y) x = Some y

-- one more item is there at a place, unless it had one
abbrev pub NotesFirst : {A : Type 0} → List (Option A) → List (Option A) → ℕ → A → Type 0
NotesFirst before after place x =
    (pc : ℕ) → slice_index_or after pc None ≡ (if nat_eq place pc then or_first (slice_index_or before pc None) x else slice_index_or before pc None)
