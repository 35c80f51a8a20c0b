-- Lists of what may be missing: there is a list where each of its items is there.
use Rattle.std.specs.Prelude.{List, [], ◌∷◌, Option, Some, None, ◌++◌}

abbrev pub in_front : {A : Type 0} → Option A → Option (List A) → Option (List A)
in_front (Some x) (Some xs) = Some (x ∷ xs)
in_front x xs = None

-- what each gives, if each gives something
abbrev pub each : {A B : Type 0} → (A → Option B) → List A → Option (List B)
each f [] = Some []
each f (x ∷ xs) = in_front (f x) (each f xs)

abbrev pub joined : {A : Type 0} → Option (List A) → Option (List A) → Option (List A)
joined (Some xs) (Some ys) = Some (xs ++ ys)
joined xs ys = None
