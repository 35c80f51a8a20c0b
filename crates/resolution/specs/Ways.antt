-- What stands above classes, by their places.
use Rattle.std.specs.Prelude.{◌≡◌, ℕ, zero, suc, ◌<◌, List, length, [], ◌∷◌, Option, Some, None, Bool, true, false, slice_get, slice_index_or, nat_eq}
use Rattle.std.specs.List.{list_any, find, flat_map}
use Rattle.std.specs.Option.{option_or}
use Rattle.jmodel.specs.format.ClassFile.{ClassFile}
use Rattle.objects.specs.linking.Superclasses.{lineage}
use Rattle.objects.specs.linking.Resolution.{names_above, ancestry, above, method_way}
use Rattle.hierarchy.specs.Places.{place_of}

-- ---- lists of places

-- each search finds the same in both
abbrev pub FindSame : List ℕ → List ℕ → Type 0
FindSame xs ys = (test : ℕ → Bool) → find test xs ≡ find test ys

-- a place that is marked is in the list
abbrev pub AreMarks : List Bool → List ℕ → Type 0
AreMarks marks places = (p : ℕ) → slice_index_or marks p false ≡ true → list_any (nat_eq p) places ≡ true

-- what stands at a place of a table
abbrev pub entry_at : List (List ℕ) → ℕ → List ℕ
entry_at table p = slice_index_or table p []

-- a table has so many lists, each of which is as one that is told
pub record IsTable (f : ℕ → List ℕ) (n : ℕ) (table : List (List ℕ)) : Type 0 where
  pub many : length table ≡ n
  pub each : (p : ℕ) → p < n → FindSame (entry_at table p) (f p)

-- ---- what is reached

abbrev pub put_first : Option ℕ → List ℕ → List ℕ
put_first None ps = ps
put_first (Some p) ps = p ∷ ps

-- the places of those names that are there
abbrev pub places_of : List ClassFile → List (List ℕ) → List ℕ
places_of cs [] = []
places_of cs (n ∷ ns) = put_first (place_of cs n) (places_of cs ns)

-- the places of what a class lists
abbrev pub listed : List ClassFile → (ClassFile → List (List ℕ)) → Option ClassFile → List ℕ
listed cs names None = []
listed cs names (Some c) = places_of cs (names c)

abbrev pub with_place : ℕ → (ClassFile → List ℕ) → Option ClassFile → List ℕ
with_place p above None = []
with_place p above (Some c) = p ∷ above c

-- the place of a class and those of what stands above it, at most so many one above another
abbrev pub reach : List ClassFile → ℕ → ℕ → List ℕ
reach cs zero p = []
reach cs (suc n) p = with_place p (λ c. flat_map (reach cs n) (places_of cs (names_above c))) (slice_get cs p)

-- for each place what the class there lists
abbrev pub AreListed : List ClassFile → (ClassFile → List (List ℕ)) → List (List ℕ) → Type 0
AreListed cs names table = (p : ℕ) → FindSame (entry_at table p) (listed cs names (slice_get cs p))

-- a table has what is reached in so many steps
abbrev pub AreReached : List ClassFile → ℕ → List (List ℕ) → Type 0
AreReached cs n table = (p : ℕ) → FindSame (entry_at table p) (reach cs n p)

-- ---- searches

abbrev pub some_class : Option ClassFile → List ClassFile
some_class None = []
some_class (Some c) = c ∷ []

-- what stands in a table at a place, if there is one
abbrev pub entry_of : List (List ℕ) → Option ℕ → List ℕ
entry_of table None = []
entry_of table (Some p) = entry_at table p

-- the first that is there from place to place
abbrev pub first_own : {A B : Type 0} → (A → Option B) → List A → Option B
first_own f [] = None
first_own f (p ∷ ps) = option_or (f p) (first_own f ps)

-- ---- ways

abbrev pub classes_at : List ClassFile → List ℕ → List ClassFile
classes_at cs ps = flat_map (λ p. some_class (slice_get cs p)) ps

-- a list of places in which each search finds what it does in some classes, one after another
pub record IsWay (cs : List ClassFile) (places : List ℕ) (classes : List ClassFile) : Type 0 where
  pub all : List ℕ
  pub same : FindSame places all
  pub are : classes_at cs all ≡ classes

-- for each class such a list
abbrev pub AreWays : List ClassFile → (ClassFile → List ClassFile) → List (List ℕ) → Type 0
AreWays cs f table = (p : ℕ) (c : ClassFile) → slice_get cs p ≡ Some c → IsWay cs (entry_at table p) (f c)

-- for the first class of each name such a list
abbrev pub AreNamedWays : List ClassFile → (List ℕ → List ClassFile) → List (List ℕ) → Type 0
AreNamedWays cs f table = (name : List ℕ) (p : ℕ) → place_of cs name ≡ Some p → IsWay cs (entry_at table p) (f name)

-- what is looked up of what stands above classes
pub record HasWays (cs : List ClassFile) (ancestries aboves lineages method_ways : List (List ℕ)) : Type 0 where
  pub to_all : AreNamedWays cs (ancestry cs) ancestries
  pub to_above : AreWays cs (above cs) aboves
  pub to_supers : AreNamedWays cs (lineage cs) lineages
  pub to_methods : AreNamedWays cs (method_way cs) method_ways
