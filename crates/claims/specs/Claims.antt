-- The claims of a bag: a word, the next index, and what each pass knows of it.
use Rattle.std.specs.Prelude.{◌≡◌, ℕ, suc, ◌+◌, ◌-◌, ◌^◌, ◌<◌, ◌≤◌, List, [], ◌∷◌, ◌++◌, length, slice_index, cond, nat_lt, Option, Some, None, Contains}
use Rattle.std.specs.List.{AllByRecursion, range_with_len}
use mathlib.Core.Option as place
use lib.ListN.{get_elem?}

-- what a pass knows: the indexes that it claimed, and how many claims it may still make
pub record Claims : Type 0 where
  pub indexes : List ℕ
  pub left : ℕ

-- at first nothing is claimed
abbrev pub first_claims : Claims
first_claims = record { indexes = []; left = 2 ^ 32 }

-- a pass that was joined to another has no index and no claim
abbrev pub no_claims : Claims
no_claims = record { indexes = []; left = 0 }

-- the pass claimed a number
abbrev pub claimed : Claims → ℕ → Claims
claimed v n = record { indexes = v.indexes ++ n ∷ []; left = v.left - 1 }

-- it handed on so many claims
abbrev pub stays : ℕ → Claims → Claims
stays count v = record { indexes = v.indexes; left = v.left - count }

-- which another pass has
abbrev pub goes : ℕ → Claims
goes count = record { indexes = []; left = count }

-- a number put into an ascending list
abbrev pub put_in : ℕ → List ℕ → List ℕ
put_in x [] = x ∷ []
put_in x (y ∷ ys) = cond (nat_lt x y) (x ∷ (y ∷ ys)) (y ∷ put_in x ys)

-- two ascending lists as one
abbrev pub merged : List ℕ → List ℕ → List ℕ
merged xs [] = xs
merged xs (y ∷ ys) = put_in y (merged xs ys)

-- two passes as one
abbrev pub joined : Claims → Claims → Claims
joined v w = record { indexes = merged v.indexes w.indexes; left = v.left + w.left }

-- the numbers below n
abbrev pub below : ℕ → List ℕ
below n = range_with_len 0 n

-- each number is below those after it
abbrev pub Ascends : List ℕ → Type 0
Ascends [] = Unit {0}
Ascends (x ∷ xs) = AllByRecursion (λ y. x < y) xs × Ascends xs

-- the weights of the elements, added up
abbrev pub weigh : {X : Type 0} → (X → ℕ) → List X → ℕ
weigh h [] = 0
weigh h (x ∷ xs) = h x + weigh h xs

-- What holds of the word and of all passes together, between any two steps. The lists are disjoint, and together they are the numbers below the
-- word: however numbers are weighed, both weigh as much. Each list ascends. The claims that may still be made lead to numbers below 2 ^ 32.
pub record Rule (words : List ℕ) (views : List Claims) : Type 0 where
  pub wide : length words ≡ 1
  pub together : (h : ℕ → ℕ) → weigh (λ (v : Claims). weigh h v.indexes) views ≡ weigh h (below (slice_index words 0))
  pub ascending : (seat : ℕ) (v : Claims) → get_elem? views seat ≡ place.some v → Ascends v.indexes
  pub room : slice_index words 0 + weigh (λ (v : Claims). v.left) views ≤ 2 ^ 32

-- What the rule says of numbers: none was claimed by two passes, those that were claimed are below the word, and each number below it was claimed.
pub record Shows (words : List ℕ) (views : List Claims) : Type 0 where
  pub disjoint : (i j : ℕ) (v w : Claims) (x : ℕ) → get_elem? views i ≡ place.some v → get_elem? views j ≡ place.some w → Contains v.indexes x → Contains w.indexes x → i ≡ j
  pub under : (i : ℕ) (v : Claims) (x : ℕ) → get_elem? views i ≡ place.some v → Contains v.indexes x → x < slice_index words 0
  pub all : (x : ℕ) → x < slice_index words 0 → (i : ℕ) × (v : Claims) × (get_elem? views i ≡ place.some v) × Contains v.indexes x

-- a pass to which all others were joined: each number below the word is in its list, and no other pass may make a claim
abbrev pub IsGathered : Claims → Type 0
IsGathered v = length v.indexes + v.left ≡ 2 ^ 32

-- A claim found a number, which is over all that the pass claimed before. It is the answer where it is below the length of the bag. A gathered
-- pass has then claimed each number up to it, once.
pub record HasClaimed (bag : ℕ) (v w : Claims) (answer : Option ℕ) : Type 0 where
  pub number : ℕ
  pub after : w ≡ claimed v number
  pub answer_is : answer ≡ cond (nat_lt number bag) (Some number) None
  pub over : AllByRecursion (λ i. i < number) v.indexes
  pub whole : IsGathered v → w.indexes ≡ below (suc number)
