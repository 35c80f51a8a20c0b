-- What the workers of a bag took together.
use Rattle.std.proofs.Common.{◌≡◌, ℕ, zero, suc, ◌+◌, ◌<◌, ◌≤◌, List, [], ◌∷◌, ◌++◌, length, get_or, nat_lt, All, sym, subst, arith, append_assoc}
use Rattle.std.specs.Prelude.{IsPermutation, filter}
use Rattle.std.specs.List.{range_with_len, flat_map, AllByRecursion}
use Rattle.std.proofs.lemmas.List.{length-map}
use Rattle.std.proofs.lemmas.List.Elements.{All-from_recursion, recursion_from_All}
use Rattle.std.proofs.lemmas.List.Sorted.{All-permutation, IsPermutation-sym, IsPermutation-trans, IsPermutation-append_comm, IsPermutation-append_left, IsPermutation-append_right}
use Rattle.jmodel.specs.history.Schedule.{Known, Phase}
use Rattle.claims.specs.Claims.{Claims, Ascends, below, IsGathered}
use Rattle.session.specs.Claimed.{calls_at}
use Rattle.driver.specs.Bags.{as_lanes, AreTaken}
use Rattle.driver.proofs.Lists.{all_left, all_right}
use Rattle.driver.proofs.Taking.{Collected}

-- the pass to which all were joined may make every claim that wasn't made
pub collected_all : (n all : ℕ) (v : Claims) (taken : List (List ℕ)) → Collected n all all v taken → IsGathered v
collected_all n all v taken c = let k = c.claims in omega arith

imply : (P Q : ℕ → Type 0) (xs : List ℕ) → ((x : ℕ) → P x → Q x) → AllByRecursion P xs → AllByRecursion Q xs
imply P Q [] h a = tt
imply P Q (x ∷ xs) h a = (h x a.0, imply P Q xs h a.1)

over_range : (b a k : ℕ) → b < a → AllByRecursion (λ y. b < y) (range_with_len a k)
over_range b a zero h = tt
over_range b a (suc k) h = (h, over_range b (a + 1) k (omega arith))

range_ascends : (a k : ℕ) → Ascends (range_with_len a k)
range_ascends a zero = tt
range_ascends a (suc k) = (over_range a (a + 1) k (omega arith), range_ascends (a + 1) k)

under_range : (n a k : ℕ) → a + k ≤ n → AllByRecursion (λ y. y < n) (range_with_len a k)
under_range n a zero h = tt
under_range n a (suc k) h = (omega arith, under_range n (a + 1) k (omega arith))

-- each of a list is under all of another
abbrev IsUnder : List ℕ → List ℕ → Type 0
IsUnder xs ys = AllByRecursion (λ x. AllByRecursion (λ y. x < y) ys) xs

behind : (P : ℕ → Type 0) (xs ys : List ℕ) → AllByRecursion P (xs ++ ys) → AllByRecursion P ys
behind P [] ys a = a
behind P (x ∷ xs) ys a = behind P xs ys a.1

apart : (xs ys : List ℕ) → Ascends (xs ++ ys) → Ascends ys × IsUnder xs ys
apart [] ys up = (up, tt)
apart (x ∷ xs) ys up = let rest = apart xs ys up.1 in (rest.0, (behind (λ y. x < y) xs ys up.0, rest.1))

both : (P : ℕ → Type 0) (xs ys : List ℕ) → AllByRecursion P xs → AllByRecursion P ys → AllByRecursion P (xs ++ ys)
both P [] ys a b = b
both P (x ∷ xs) ys a b = (a.0, both P xs ys a.1 b)

together : (xs ys : List ℕ) → Ascends xs → Ascends ys → IsUnder xs ys → Ascends (xs ++ ys)
together [] ys up rises under = rises
together (x ∷ xs) ys up rises under = (both (λ y. x < y) xs ys up.0 under.0, together xs ys up.1 rises under.1)

abbrev flat : List (List ℕ) → List ℕ
flat ls = flat_map (λ (l : List ℕ). l) ls

-- what nobody had claimed goes to the first worker, and then all are taken
pub taken_all : (n : ℕ) (v : Claims) (first rest : List ℕ) (others : List (List ℕ)) → AllByRecursion Ascends (first ∷ others)
    → IsPermutation (filter (λ i. nat_lt i n) v.indexes) (flat (first ∷ others)) → filter (λ i. nat_lt i n) v.indexes ++ rest ≡ below n → AreTaken n ((first ++ rest) ∷ others)
taken_all n v first rest others ascending collected whole =
    let before = filter (λ i. nat_lt i n) v.indexes in
    let up = apart before rest (subst Ascends (sym whole) (range_ascends 0 n)) in
    let Under : ℕ → Type 0 = λ x. AllByRecursion (λ y. x < y) rest in
    let under = recursion_from_All Under first
    (all_left Under first (flat others) (All-permutation Under before (first ++ flat others) collected (All-from_recursion Under before up.1))) in
    let moved : IsPermutation ((first ++ rest) ++ flat others) ((first ++ flat others) ++ rest) =
    subst (λ (l : List ℕ). IsPermutation l ((first ++ flat others) ++ rest)) (sym (append_assoc first rest (flat others)))
    (subst (λ (l : List ℕ). IsPermutation (first ++ (rest ++ flat others)) l) (sym (append_assoc first (flat others) rest))
    (IsPermutation-append_right first (rest ++ flat others) (flat others ++ rest) (IsPermutation-append_comm rest (flat others)))) in
    let same = IsPermutation-append_left rest (first ++ flat others) before (IsPermutation-sym before (first ++ flat others) collected) in
    record {
      ascending = (together first rest ascending.0 up.0 under, ascending.1);
      each_once = subst (IsPermutation ((first ++ rest) ++ flat others)) whole
          (IsPermutation-trans ((first ++ rest) ++ flat others) ((first ++ flat others) ++ rest) (before ++ rest) moved same);
    }

each_under : (n : ℕ) (taken : List (List ℕ)) → All (λ i. i < n) (flat taken) → AllByRecursion (AllByRecursion (λ i. i < n)) taken
each_under n [] all = tt
each_under n (l ∷ ls) all =
    (recursion_from_All (λ i. i < n) l (all_left (λ i. i < n) l (flat ls) all), each_under n ls (all_right (λ i. i < n) l (flat ls) all))

-- each index is one of the bag
pub all_under : (n : ℕ) (taken : List (List ℕ)) → AreTaken n taken → AllByRecursion (AllByRecursion (λ i. i < n)) taken
all_under n taken are = each_under n taken
    (All-permutation (λ i. i < n) (below n) (flat taken) (IsPermutation-sym (flat taken) (below n) are.each_once)
    (All-from_recursion (λ i. i < n) (below n) (under_range n 0 n (omega arith))))

room : (a n : ℕ) (xs : List ℕ) → a ≤ n → Ascends xs → AllByRecursion (λ x. a ≤ x) xs → AllByRecursion (λ x. x < n) xs → a + length xs ≤ n
room a n [] h up low high = omega arith
room a n (x ∷ xs) h up low high =
    let l = low.0 in
    let m = high.0 in
    let rest = room (suc x) n xs (omega arith) up.1 (imply (λ y. x < y) (λ y. suc x ≤ y) xs (λ y k. omega arith) up.0) high.1 in
    omega arith

no_less : (xs : List ℕ) → AllByRecursion (λ x. 0 ≤ x) xs
no_less [] = tt
no_less (x ∷ xs) = (omega arith, no_less xs)

-- no worker took more calls than there are
few_each : (cs : List Known) (ls : List (List ℕ)) → AllByRecursion Ascends ls → AllByRecursion (AllByRecursion (λ i. i < length cs)) ls
    → AllByRecursion (λ (ks : List Known). length ks ≤ length cs) (as_lanes cs ls)
few_each cs [] up under = tt
few_each cs (l ∷ ls) up under =
    let long = length-map l (λ i. get_or cs i (record { method = 0; args = [] })) in
    let few = room 0 (length cs) l (omega arith) up.0 (no_less l) under.0 in
    (omega arith, few_each cs ls up.1 under.1)

pub few_taken : (m : ℕ) (cs : List Known) (taken : List (List ℕ)) → AreTaken (length cs) taken → length cs ≤ m
    → AllByRecursion (λ (ks : List Known). length ks ≤ m) (as_lanes cs taken)
few_taken m cs taken are few = weaker (as_lanes cs taken) (few_each cs taken are.ascending (all_under (length cs) taken are))
  where
    weaker : (ls : Phase) → AllByRecursion (λ (ks : List Known). length ks ≤ length cs) ls → AllByRecursion (λ (ks : List Known). length ks ≤ m) ls
    weaker [] a = tt
    weaker (ks ∷ ls) a = (let h = a.0 in omega arith, weaker ls a.1)

module _ (P : Known → Type 0) (cs : List Known) (all : AllByRecursion P cs) where
  pub calls_hold : (is : List ℕ) → AllByRecursion (λ i. i < length cs) is → AllByRecursion P (calls_at cs is)
  calls_hold [] under = tt
  calls_hold (i ∷ is) under = (All-from_recursion P cs all i (record { method = 0; args = [] }) under.0, calls_hold is under.1)

  lanes_hold : (ls : List (List ℕ)) → AllByRecursion (AllByRecursion (λ i. i < length cs)) ls → AllByRecursion (AllByRecursion P) (as_lanes cs ls)
  lanes_hold [] under = tt
  lanes_hold (l ∷ ls) under = (calls_hold l under.0, lanes_hold ls under.1)

  -- what holds of each call of the bag holds of those that were taken
  pub taken_hold : (taken : List (List ℕ)) → AreTaken (length cs) taken → AllByRecursion (AllByRecursion P) (as_lanes cs taken)
  taken_hold taken are = lanes_hold taken (all_under (length cs) taken are)
