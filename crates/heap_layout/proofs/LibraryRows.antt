-- The rows of the library by what stands above each class.
use Rattle.std.proofs.Common.{◌≡◌, ℕ, Bool, true, false, List, [], ◌∷◌, map, refl, ap}
use Rattle.std.specs.Prelude.{bytes_eq, find}
use Rattle.objects.specs.semantics.Program.{Row}
use Rattle.objects.specs.linking.LibraryClasses.{library_rows}
use Rattle.objects.specs.linking.Layout.{lineage_of, library_lineage}
use Rattle.heap_layout.specs.Library.{lineages, first_name, row_with, lineage_among}

-- what each gives that is seen
pub map_twice : {A B C : Type 0} (g : B → C) (f : A → B) (xs : List A) → map g (map f xs) ≡ map (λ x. g (f x)) xs
map_twice g f [] = refl
map_twice {A} {B} {C} g f (x ∷ xs) = ap (λ (l : List C). g (f x) ∷ l) (map_twice g f xs)

-- each row is made of its names
pub rows_are : map row_with lineages ≡ library_rows
rows_are = refl

-- what is found in rows that are made of their names
found_among : (n : List ℕ) (ls : List (List (List ℕ))) → lineage_among n ls ≡ lineage_of (find (λ (r : Row). bytes_eq r.name n) (map row_with ls))
found_among n [] = refl
found_among n (l ∷ ls) = go (bytes_eq (first_name l) n) refl (found_among n ls)
  where
    go : (b : Bool) → bytes_eq (first_name l) n ≡ b → lineage_among n ls ≡ lineage_of (find (λ (r : Row). bytes_eq r.name n) (map row_with ls))
        → lineage_among n (l ∷ ls) ≡ lineage_of (find (λ (r : Row). bytes_eq r.name n) (map row_with (l ∷ ls)))
    go true e next = rw e refl
    go false e next = rw e next

-- the lineage of a class of the library
pub lineage_is : (n : List ℕ) → lineage_among n lineages ≡ library_lineage n
lineage_is n = found_among n lineages
