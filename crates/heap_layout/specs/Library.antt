-- The types of the library's classes, by what stands above each.
use Rattle.std.specs.Prelude.{ℕ, List, [], ◌∷◌, map, bytes_eq, if◌then◌else◌}
use Rattle.objects.specs.semantics.Program.{Words, Row}
use Rattle.objects.specs.linking.LibraryClasses.{library_rows}

-- each class of the library with those above it, the nearest first
abbrev pub lineages : List (List (List ℕ))
lineages = map (λ (r : Row). r.lineage) library_rows

abbrev pub first_name : List (List ℕ) → List ℕ
first_name [] = []
first_name (n ∷ ns) = n

-- the class that has these names, its own and those above it
abbrev pub row_with : List (List ℕ) → Row
row_with names = record { name = first_name names; read = first_name names; holds = Words []; lineage = names; instance_of = names }

-- the first of lineages whose class has a name
abbrev pub lineage_among : List ℕ → List (List (List ℕ)) → List (List ℕ)
lineage_among n [] = []
lineage_among n (l ∷ ls) = if bytes_eq (first_name l) n then l else lineage_among n ls
