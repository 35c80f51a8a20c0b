-- The narrowest types above two, and lists of types place by place.
use Rattle.std.specs.Prelude.{ℕ, zero, suc, replicate, List, [], ◌∷◌, ◌++◌, Option, Some, None, Bool, true, false, ◌&&◌, ◌||◌, ◌==◌, not, nat_eq, bytes_eq, codes, drop, find, option_map, if◌then◌else◌}
use Rattle.std.specs.List.{list_any}
use Rattle.jmodel.specs.declared.typing.VType.{VType}
use Rattle.jmodel.specs.declared.typing.VType.TheVariants.{Int, Long, Second, Null, Ref, Uninit, UninitThis, Top}
use Rattle.objects.specs.semantics.Program.{Program}
use Rattle.objects.specs.typing.TypeOrder.{object_class, classes_from, is_array, without_last, is_class_above, is_within}
use Rattle.objects.specs.typing.Typing.{Types}

abbrev pub object_descriptor : List ℕ
object_descriptor = codes "Ljava/lang/Object;"

abbrev pub class_descriptor : List ℕ → List ℕ
class_descriptor n = 76 ∷ (n ++ codes ";")

-- the first of some classes that is among others
abbrev pub first_common : List (List ℕ) → List (List ℕ) → Option (List ℕ)
first_common xs ys = find (λ (x : List ℕ). list_any (bytes_eq x) ys) xs

-- the nearest class that is above two
abbrev pub join_class : Program → List ℕ → List ℕ → Option (List ℕ)
join_class P m n = first_common (classes_from P m) (classes_from P n)

-- the element Object, if a class is below it
abbrev pub under_object : Program → List ℕ → Option (List ℕ)
under_object P n = if is_class_above P (without_last n) object_class then Some object_descriptor else None

-- arrays of what is above two elements; where nothing is, arrays have Object above them
abbrev pub arrays_over : Option (List ℕ) → List ℕ
arrays_over None = object_descriptor
arrays_over (Some x) = 91 ∷ x

-- the narrowest element above two, by their descriptors
abbrev pub join_element : Program → List ℕ → List ℕ → Option (List ℕ)
join_element P [] n = None
join_element P (c ∷ m) [] = None
join_element P (c ∷ m) (d ∷ n) =
    if c == 91 then (if d == 91 then Some (arrays_over (join_element P m n)) else (if d == 76 then under_object P n else None))
    else (if c == 76
    then (if d == 76 then option_map class_descriptor (join_class P (without_last m) (without_last n)) else (if d == 91 then under_object P m else None))
    else (if bytes_eq (c ∷ m) (d ∷ n) then Some (c ∷ m) else None))

-- so of two of which no more than one is an array
abbrev pub join_base : Program → List ℕ → List ℕ → Option (List ℕ)
join_base P [] n = None
join_base P (c ∷ m) [] = None
join_base P (c ∷ m) (d ∷ n) =
    if c == 91 then (if d == 76 then under_object P n else None)
    else (if c == 76
    then (if d == 76 then option_map class_descriptor (join_class P (without_last m) (without_last n)) else (if d == 91 then under_object P m else None))
    else (if bytes_eq (c ∷ m) (d ∷ n) then Some (c ∷ m) else None))

-- the descriptor of the nearest class that is above two, by their descriptors
abbrev pub join_described : Program → List ℕ → List ℕ → Option (List ℕ)
join_described P m n = option_map class_descriptor (join_class P (without_last (drop 1 m)) (without_last (drop 1 n)))

-- so of two of which not both are classes
abbrev pub join_other : Program → List ℕ → List ℕ → Option (List ℕ)
join_other P [] n = None
join_other P (c ∷ m) [] = None
join_other P (c ∷ m) (d ∷ n) =
    if c == 91 then (if d == 76 then under_object P n else None)
    else (if c == 76 then (if d == 91 then under_object P m else None) else (if bytes_eq (c ∷ m) (d ∷ n) then Some (c ∷ m) else None))

-- how many brackets two descriptors both begin with
abbrev pub common_depth : List ℕ → List ℕ → ℕ
common_depth [] n = 0
common_depth (c ∷ m) [] = 0
common_depth (c ∷ m) (d ∷ n) = if c == 91 then (if d == 91 then suc (common_depth m n) else 0) else 0

-- arrays so deep of an element; where there is none, of Object, and one less deep
abbrev pub wrapped : ℕ → Option (List ℕ) → Option (List ℕ)
wrapped i (Some x) = Some (replicate i 91 ++ x)
wrapped zero None = None
wrapped (suc i) None = Some (replicate i 91 ++ object_descriptor)

abbrev pub array_over : Option (List ℕ) → List ℕ
array_over None = object_class
array_over (Some x) = 91 ∷ x

-- Object, if a class is below it
abbrev pub object_over : Program → List ℕ → Option (List ℕ)
object_over P n = if is_class_above P n object_class then Some object_class else None

-- the narrowest class or array above two
abbrev pub join_name : Program → List ℕ → List ℕ → Option (List ℕ)
join_name P m n =
    if is_array m then (if is_array n then Some (array_over (join_element P (drop 1 m) (drop 1 n))) else object_over P n)
    else (if is_array n then object_over P m else join_class P m n)

abbrev pub ref_or_top : Option (List ℕ) → VType
ref_or_top None = Top
ref_or_top (Some n) = Ref n

-- The narrowest type above two. That above a type and itself is the type, where it is a type of the program.
abbrev pub join : Program → VType → VType → VType
join P Int Int = Int
join P Long Long = Long
join P Second Second = Second
join P Null Null = Null
join P Null (Ref n) = ref_or_top (join_name P n n)
join P (Ref m) Null = ref_or_top (join_name P m m)
join P (Ref m) (Ref n) = ref_or_top (join_name P m n)
join P (Uninit p) (Uninit q) = if nat_eq p q then Uninit p else Top
join P UninitThis UninitThis = UninitThis
join P t u = Top

abbrev pub join_all : Program → List VType → List VType → List VType
join_all P [] us = []
join_all P (t ∷ ts) [] = []
join_all P (t ∷ ts) (u ∷ us) = join P t u ∷ join_all P ts us

abbrev pub are_within : Program → List VType → List VType → Bool
are_within P [] [] = true
are_within P (t ∷ ts) (u ∷ us) = is_within P t u && are_within P ts us
are_within P ts us = false

-- whether the second types are at least as wide as the first
abbrev pub fits_in : Program → Types → Types → Bool
fits_in P h g = are_within P h.locals g.locals && (are_within P h.stack g.stack && (not g.built || h.built))

-- the narrowest types above two
abbrev pub joined : Program → Types → Types → Types
joined P h g = record { locals = join_all P h.locals g.locals; stack = join_all P h.stack g.stack; built = h.built && g.built }
