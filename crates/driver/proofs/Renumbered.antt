-- What holds of the calls of lanes holds of them by their indexes in the bag.
use Rattle.std.proofs.Common.{◌≡◌, ℕ, zero, suc, ◌+◌, ◌<◌, ◌&&◌, ◌||◌, List, [], ◌∷◌, length, get_or, nat_lt, nat_eq, Bool, true, false, All, AllPairs, refl, sym, ◌∙◌, ap, subst, ltb-true, lt-ltb, arith}
use Rattle.std.specs.List.{AllByRecursion}
use Rattle.std.proofs.lemmas.Bool.Decides.{nat_tests}
use Rattle.std.proofs.lemmas.List.Elements.{All-nil, All-append, All-from_recursion}
use Rattle.claims.specs.Claims.{Ascends}
use Rattle.jmodel.specs.history.History.{Call, first_by}
use Rattle.jmodel.specs.history.Schedule.{Known, lane_calls, phase_calls, ascends}
use Rattle.session.specs.Claimed.{calls_at}
use Rattle.driver.specs.Bags.{as_lanes, index_in, IsTaken, in_bag}

-- a number of an ascending list is below a later one
ascends_at : (xs : List ℕ) (i j : ℕ) → Ascends xs → i < j → j < length xs → get_or xs i 0 < get_or xs j 0
ascends_at [] i j up less within = absurd (omega arith)
ascends_at (x ∷ xs) i zero up less within = absurd (omega arith)
ascends_at (x ∷ xs) zero (suc j) up less within = All-from_recursion (λ y. x < y) xs up.0 j 0 (omega arith)
ascends_at (x ∷ xs) (suc i) (suc j) up less within = ascends_at xs i j up.1 (omega arith) (omega arith)

-- pairs of elements of which something holds
pub pairs_of : {A : Type 0} (P : A → Type 0) (R S : A → A → Type 0) → ((x y : A) → P x → P y → R x y → S x y) → (xs : List A) → All P xs → AllPairs R xs
    → AllPairs S xs
pairs_of P R S f xs all h = λ i j d less within. f _ _ (all i d (omega arith)) (all j d within) (h i j d less within)

by_first : (x y : ℕ) (p q : Bool) → (x ≡ y → p ≡ true → q ≡ true) → first_by x y p ≡ true → first_by x y q ≡ true
by_first x y p q f h = go (nat_lt x y) (nat_eq x y) refl h
  where
    go : (b e : Bool) → nat_eq x y ≡ e → (b || (e && p)) ≡ true → (b || (e && q)) ≡ true
    go true e same h = refl
    go false true same h = let e : x ≡ y = grind (arith, nat_tests) in f e h
    go false false same h = cc

-- a call that a worker took
abbrev pub IsCallTaken : List (List ℕ) → Call → Type 0
IsCallTaken taken c = IsTaken taken c.lane c.index

module _ (taken : List (List ℕ)) (up : AllByRecursion Ascends taken) where
  -- of two calls of one worker the later one has the greater index in the bag
  pub lower : (s t : Call) → IsCallTaken taken t → s.lane ≡ t.lane → s.index < t.index → index_in taken s.lane s.index < index_in taken t.lane t.index
  lower s t is same less =
      let l = get_or taken t.lane [] in
      let rises = ascends_at l s.index t.index (All-from_recursion Ascends taken up t.lane [] is.0) less is.1 in
      subst (λ (n : ℕ). index_in taken n s.index < index_in taken t.lane t.index) (sym same) rises

  pub ascends_in_bag : (c d : Call) → IsCallTaken taken c → IsCallTaken taken d → ascends c d ≡ true → ascends (in_bag taken c) (in_bag taken d) ≡ true
  ascends_in_bag c d is js h =
      let i = index_in taken c.lane c.index in
      let j = index_in taken d.lane d.index in
      by_first c.phase d.phase (first_by c.lane d.lane (nat_lt c.index d.index)) (first_by c.lane d.lane (nat_lt i j))
      (λ _ p. by_first c.lane d.lane (nat_lt c.index d.index) (nat_lt i j)
      (λ same less. lt-ltb i j (lower c d js same (ltb-true c.index d.index less))) p) h

module _ (phase : ℕ) (cs : List Known) (taken : List (List ℕ)) where
  lane_taken : (lane k : ℕ) (is : List ℕ) → lane < length taken → k + length is ≡ length (get_or taken lane [])
      → AllByRecursion (IsCallTaken taken) (lane_calls phase lane k (calls_at cs is))
  lane_taken lane k [] inside long = tt
  lane_taken lane k (i ∷ is) inside long = ((inside, omega arith), lane_taken lane (suc k) is inside (omega arith))

  lanes_taken : (lane : ℕ) (ls : List (List ℕ)) → lane + length ls ≡ length taken → ((j : ℕ) → get_or taken (lane + j) [] ≡ get_or ls j [])
      → All (IsCallTaken taken) (phase_calls phase lane (as_lanes cs ls))
  lanes_taken lane [] whole there = All-nil (IsCallTaken taken)
  lanes_taken lane (is ∷ ls) whole there =
      let here : length is ≡ length (get_or taken lane []) =
      let z : lane ≡ lane + 0 = omega arith in sym (ap (λ (n : ℕ). length (get_or taken n [])) z ∙ ap length (there 0)) in
      All-append (IsCallTaken taken) (lane_calls phase lane 0 (calls_at cs is)) (phase_calls phase (suc lane) (as_lanes cs ls))
      (All-from_recursion (IsCallTaken taken) (lane_calls phase lane 0 (calls_at cs is)) (lane_taken lane 0 is (omega arith) (omega (arith, here))))
      (lanes_taken (suc lane) ls (omega arith) (λ j. let z : suc lane + j ≡ lane + suc j = omega arith in ap (λ (n : ℕ). get_or taken n []) z ∙ there (suc j)))

  -- each call of the lanes was taken
  pub phase_taken : All (IsCallTaken taken) (phase_calls phase 0 (as_lanes cs taken))
  phase_taken = lanes_taken 0 taken (omega arith) (λ j. let z : 0 + j ≡ j = omega arith in ap (λ (k : ℕ). get_or taken k []) z)
