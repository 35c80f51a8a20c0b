-- What gates are told of the calls of a bag.
use Rattle.std.proofs.Common.{◌≡◌, ◌≤◌, ◌<◌, ℕ, zero, suc, List, [], ◌∷◌, ◌++◌, length, map, get_or, All, AllPairs, Bool, true, false, Option, Some, refl, sym, ◌∙◌, ap, subst, arith}
use Rattle.std.specs.Prelude.{filter, slice_get, IsPermutation}
use Rattle.std.specs.List.{AllByRecursion}
use Rattle.std.proofs.lemmas.List.{length-map}
use Rattle.std.proofs.lemmas.List.Sorted.{IsPermutation-map}
use Rattle.std.proofs.lemmas.Option.{slice_get_within, slice_get-get_or, get_or_from_slice_get}
use Rattle.jmodel.specs.history.History.{Call}
use Rattle.jmodel.specs.history.Schedule.{Known, Lanes, Bag}
use Rattle.objects.specs.declared.event.Event.{Event}
use Rattle.objects.specs.semantics.Program.{Program}
use Rattle.session.specs.declared.record.Record.{Record}
use Rattle.session.specs.Claimed.{calls_at}
use Rattle.session.specs.Telling.{TellsRecord, HasTold}
use Rattle.session.proofs.Telling.{each_map}
use Rattle.driver.specs.declared.memory.Limits.{Limits}
use Rattle.driver.specs.Bags.{as_lanes, AreTaken, index_in, IsTaken, numbered}
use Rattle.driver.specs.Telling.{lane_bounds, is_of_lane, IsCallAt, TellsPhase}
use Rattle.driver.proofs.Lists.{pairs_map}
use Rattle.driver.proofs.Renumbered.{lower, pairs_of}
use Rattle.driver.proofs.Together.{all_under}
use Rattle.driver.proofs.Told.{told_all, told_as, filtered}
use Rattle.driver.proofs.Rising.{Rises}

-- a record as it is numbered in a bag is of the same lane
filter_numbered : (taken : List (List ℕ)) (lane : ℕ) (rs : List Record) → filter (is_of_lane lane) (map (numbered taken) rs) ≡ map (numbered taken) (filter (is_of_lane lane) rs)
filter_numbered taken lane [] = refl
filter_numbered taken lane (r ∷ rs) = by (filter_numbered taken lane rs) (is_of_lane lane r) refl
  where
    by : filter (is_of_lane lane) (map (numbered taken) rs) ≡ map (numbered taken) (filter (is_of_lane lane) rs) → (b : Bool) → is_of_lane lane r ≡ b
        → filter (is_of_lane lane) (map (numbered taken) (r ∷ rs)) ≡ map (numbered taken) (filter (is_of_lane lane) (r ∷ rs))
    by rest true is = rw is (ap (λ (l : List Record). numbered taken r ∷ l) rest)
    by rest false is = rw is rest

-- the element at a place of a list that was made of another
got_map : {A B : Type 0} (f : A → B) (xs : List A) (i : ℕ) (y : B) → slice_get (map f xs) i ≡ Some y → (x : A) × (slice_get xs i ≡ Some x) × (f x ≡ y)
got_map f [] i y h = cc
got_map f (x ∷ xs) zero y h = let e : f x ≡ y = cc in (x, refl, e)
got_map f (x ∷ xs) (suc i) y h = got_map f xs i y h

got_list : {A B : Type 0} (f : List A → List B) (xss : List (List A)) (l : ℕ) → f [] ≡ [] → get_or (map f xss) l [] ≡ f (get_or xss l [])
got_list f [] l none = sym none
got_list f (xs ∷ xss) zero none = refl
got_list f (xs ∷ xss) (suc l) none = got_list f xss l none

module _ (phase : ℕ) (cs : List Known) (taken : List (List ℕ)) (are : AreTaken (length cs) taken) where
  abbrev nothing : Known
  nothing = record { method = 0; args = [] }

  -- the index in the bag of the call that a record is of
  taken_at : (r : Record) (c : Known) → IsCallAt phase (Lanes (as_lanes cs taken)) r c → (i : ℕ) × (slice_get (get_or taken r.lane []) r.index ≡ Some i) × (get_or cs i nothing ≡ c)
  taken_at r c is =
      let here = subst (λ (l : List Known). slice_get l r.index ≡ Some c) (got_list (calls_at cs) taken r.lane refl) is.1 in
      got_map (λ (i : ℕ). get_or cs i nothing) (get_or taken r.lane []) r.index c here

  -- a worker's lane is one of theirs
  low_lane : (xss : List (List ℕ)) (l k i : ℕ) → slice_get (get_or xss l []) k ≡ Some i → l < length xss
  low_lane [] l k i h = cc
  low_lane (xs ∷ xss) zero k i h = omega arith
  low_lane (xs ∷ xss) (suc l) k i h = let less = low_lane xss l k i h in omega arith

  pub inside : (r : Record) (c : Known) → IsCallAt phase (Lanes (as_lanes cs taken)) r c → IsTaken taken r.lane r.index
  inside r c is =
      let at = taken_at r c is in
      (low_lane taken r.lane r.index at.0 at.1, slice_get_within (get_or taken r.lane []) r.index at.0 at.1)

  under_all : (xs : List ℕ) (k i : ℕ) → AllByRecursion (λ j. j < length cs) xs → slice_get xs k ≡ Some i → i < length cs
  under_all [] k i all h = cc
  under_all (x ∷ xs) zero i all h = let e : x ≡ i = cc in subst (λ (j : ℕ). j < length cs) e all.0
  under_all (x ∷ xs) (suc k) i all h = under_all xs k i all.1 h

  under_lists : (xss : List (List ℕ)) (l k i : ℕ) → AllByRecursion (AllByRecursion (λ j. j < length cs)) xss → slice_get (get_or xss l []) k ≡ Some i → i < length cs
  under_lists [] l k i all h = cc
  under_lists (xs ∷ xss) zero k i all h = under_all xs k i all.0 h
  under_lists (xs ∷ xss) (suc l) k i all h = under_lists xss l k i all.1 h

  -- as it is numbered in the bag, a record is of the bag's call at its place
  in_bag_at : (lanes : ℕ) (r : Record) (c : Known) → IsCallAt phase (Lanes (as_lanes cs taken)) r c → IsCallAt phase (Bag lanes cs) (numbered taken r) c
  in_bag_at lanes r c is =
      let at = taken_at r c is in
      let index : index_in taken r.lane r.index ≡ at.0 = get_or_from_slice_get (get_or taken r.lane []) r.index at.0 0 at.1 in
      let under = under_lists taken r.lane r.index at.0 (all_under (length cs) taken are) at.1 in
      let there : slice_get cs at.0 ≡ Some c = slice_get-get_or cs at.0 nothing under ∙ ap Some at.2 in
      (is.0, subst (λ (i : ℕ). slice_get cs i ≡ Some c) (sym index) there)

  module _ (Q : Program) (limits : Limits) (lanes : ℕ) (few : length taken ≤ lanes) where
    each_in_bag : (lane : ℕ) (made : List Record) (T : List Event → Type 0) → HasTold Q (lane_bounds limits lane) (IsCallAt phase (Lanes (as_lanes cs taken))) (filter (is_of_lane lane) made) T
        → HasTold Q (lane_bounds limits lane) (IsCallAt phase (Bag lanes cs)) (filter (is_of_lane lane) (map (numbered taken) made)) T
    each_in_bag lane made T has =
        let B = lane_bounds limits lane in
        let C = IsCallAt phase (Lanes (as_lanes cs taken)) in
        let D = IsCallAt phase (Bag lanes cs) in
        subst (λ (rs : List Record). HasTold Q B D rs T) (sym (filter_numbered taken lane made)) (record {
          events = has.events;
          tells =
              each_map (TellsRecord Q B C) (TellsRecord Q B D) (numbered taken)
              (λ r es t. record { call = t.call; is_of = in_bag_at lanes r t.call t.is_of; before = t.before; run = t.run }) (filter (is_of_lane lane) made) has.events has.tells;
          told = has.told;
        })

    rises_in_bag : (lane : ℕ) (made : List Record) (T : List Event → Type 0) → HasTold Q (lane_bounds limits lane) (IsCallAt phase (Lanes (as_lanes cs taken))) (filter (is_of_lane lane) made) T
        → All (λ (r : Record). r.lane ≡ lane) (filter (is_of_lane lane) made) → AllPairs Rises (filter (is_of_lane lane) made) → AllPairs Rises (filter (is_of_lane lane) (map (numbered taken) made))
    rises_in_bag lane made T has here up =
        let C = IsCallAt phase (Lanes (as_lanes cs taken)) in
        let In : Record → Type 0 = λ r. IsTaken taken r.lane r.index × (r.lane ≡ lane) in
        let call : Record → Call = λ r. record { phase = 0; lane = r.lane; index = r.index; method = 0; args = []; region = 0 } in
        let all : All In (filter (is_of_lane lane) made) =
        λ k d low. (told_all Q (lane_bounds limits lane) C (λ r. IsTaken taken r.lane r.index) inside (filter (is_of_lane lane) made) T has k d low, here k d low) in
        let pairs = pairs_of In Rises (λ (r s : Record). Rises (numbered taken r) (numbered taken s)) (λ r s in_r in_s less. lower taken are.ascending (call r) (call s) in_s.0 (in_r.1 ∙ sym in_s.1) less)
        (filter (is_of_lane lane) made) all up in
        subst (AllPairs Rises) (sym (filter_numbered taken lane made)) (pairs_map (numbered taken) Rises (filter (is_of_lane lane) made) pairs)

    -- what was told of the calls of a bag, by their indexes there
    pub told_in_bag : (placed old new : List Record) (x y : List (Option (List Event))) → TellsPhase Q limits phase (Lanes (as_lanes cs taken)) [] placed x y
        → new ≡ old ++ map (numbered taken) placed
        → TellsPhase Q limits phase (Bag lanes cs) old new x y
    told_in_bag placed old new x y t added =
        let long : length (as_lanes cs taken) ≡ length taken = length-map taken (calls_at cs) in
        record {
          made = map (numbered taken) t.made;
          more = map (numbered taken) placed;
          added = added;
          same = subst (λ (rs : List Record). IsPermutation (map (numbered taken) t.made) (map (numbered taken) rs)) (sym t.added) (IsPermutation-map (numbered taken) t.made t.more t.same);
          told = record {
            len = t.told.len;
            each = λ lane. each_in_bag lane t.made _ (t.told.each lane);
            others = λ lane high. t.told.others lane (omega (arith, high, few, long));
          };
          ascends = λ lane. rises_in_bag lane t.made _ (t.told.each lane) (filtered lane t.made) (t.ascends lane);
        }

-- the calls of a bag that one lane made
pub told_alone : (Q : Program) (limits : Limits) (phase lanes : ℕ) (cs : List Known) (old new : List Record) (x y : List (Option (List Event))) → 1 ≤ lanes
    → TellsPhase Q limits phase (Lanes (cs ∷ [])) old new x y → TellsPhase Q limits phase (Bag lanes cs) old new x y
told_alone Q limits phase lanes cs old new x y some t = record {
  made = t.made;
  more = t.more;
  added = t.added;
  same = t.same;
  told = told_as Q limits (IsCallAt phase (Lanes (cs ∷ []))) (IsCallAt phase (Bag lanes cs)) (λ r c is. (is.0, alone r.lane r.index c is.1)) 1 lanes some t.made x y t.told;
  ascends = t.ascends;
}
  where
    alone : (l i : ℕ) (c : Known) → slice_get (get_or (cs ∷ []) l []) i ≡ Some c → slice_get cs i ≡ Some c
    alone zero i c h = h
    alone (suc l) i c h = cc
