-- The numbers by which calls over objects find their methods, and what they say of a program.
use Rattle.std.specs.Prelude.{◌≡◌, ℕ, Option, Some, true, slice_get, option_and_then}
use Rattle.std.specs.Option.{option_flatten}
use Rattle.std.specs.Ordering.{nat_cmp}
use Rattle.std.specs.BTreeMap.{get}
use Rattle.objects.specs.semantics.Program.{Program, Method, is_selectable, first_in, lineage_in}
use Rattle.hierarchy.specs.declared.selection.Selection.{Selection}
use Rattle.hierarchy.specs.Selecting.{first_upward}

-- what they say of a row and a method
abbrev pub first_for : Selection → ℕ → ℕ → Option ℕ
first_for s row m =
    option_and_then (λ group. option_and_then (λ numbers. option_and_then (λ classes. first_upward numbers classes.items) (slice_get s.classes.items row)) (get nat_cmp s.firsts group)) (option_flatten (slice_get s.groups.items m))

-- of each method that calls may select, and of each row, the first from the row's class upward
abbrev pub Selects : Selection → Program → Type 0
Selects s P = (row m : ℕ) (k : Method) → slice_get P.methods m ≡ Some k → is_selectable k.dispatch ≡ true → first_for s row m ≡ first_in P k (lineage_in (slice_get P.types row))
