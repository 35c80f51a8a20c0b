-- The calls of one phase over a table: those that its lanes made side by side, and those that were left.
use Rattle.std.proofs.Common.{◌≡◌, ◌≤◌, ◌+◌, ℕ, suc, List, [], ◌∷◌, ◌++◌, map, All, AllPairs, Bool, true, false, cond, not, ◌&&◌, ◌||◌, nat_lt, refl, sym, ◌∙◌, ap, subst, inl, inr, arith}
use Rattle.std.proofs.lemmas.Bool.Decides.{nat_tests}
use Rattle.std.specs.Prelude.{filter, IsPermutation, take, drop}
use Rattle.std.specs.List.{flat_map, AllByRecursion}
use Rattle.std.specs.List.Sorted.{IsSortedBy}
use Rattle.std.proofs.lemmas.List.{map-append}
use Rattle.std.proofs.lemmas.List.Elements.{All-append, All-from_recursion, All-weaker, filter_passes, recursion_from_All}
use Rattle.std.proofs.lemmas.List.Kept.{AllPairs-filter}
use Rattle.std.proofs.lemmas.List.Sorted.{All-permutation, IsPermutation-trans, IsPermutation-map, IsPermutation-append, IsPermutation-append_left, IsPermutation-filter_both}
use Rattle.jmodel.specs.declared.value.Answer.TheVariants.{NoMemory}
use Rattle.jmodel.specs.declared.value.Answer.{Answer}
use Rattle.jmodel.specs.history.History.{Call, Entry, Told, told, round, first_by, comes_first}
use Rattle.tx_table.specs.Book.{In}
use Rattle.jmodel.specs.history.Schedule.{Known, Phase, Lanes, lane_calls, phase_calls, ascends, is_memory}
use Rattle.driver.proofs.Telling.{history_order, sorted_pairs}
use Rattle.tl2.specs.Standing.{IsBehind}
use Rattle.session.specs.declared.record.Record.{Record}
use Rattle.session.specs.Rule.{calls_of}
use Rattle.session.specs.Lane.{is_placed, is_unplaced, record_of}
use Rattle.driver.specs.declared.side.Part.{Part}
use Rattle.driver.specs.Sides.{AreParts, AreWhole, none_made, made_counts, unplaced_of, joined}
use Rattle.driver.specs.Order.{stands_before}
use Rattle.driver.specs.Over.{Shown, made_in, shown_in, KeepsLane, IsOfRegion, StandsBehind, IsPhaseOver, IsMadeOver}
use Rattle.driver.proofs.Lists.{all_map, pairs_map, pairs_from_map}
use Rattle.driver.proofs.Places.{phase_pairs}
use Rattle.driver.proofs.Parts.{filter_joined, AreJoined, are_joined}
use Rattle.driver.proofs.Permuted.{permuted_before, sorted_before}
use Rattle.driver.proofs.Gathering.{IsOfPhase, IsToldOf}

-- what is no placed call is an unplaced one, and that ran out of memory
pub memory_is : (x : Answer) → is_memory x ≡ true → x ≡ NoMemory
memory_is NoMemory h = refl
memory_is x h = absurd cc

not_placed : (t : Told) → is_unplaced t ≡ not (is_placed t)
not_placed t = go (is_memory t.answer)
  where
    go : (b : Bool) → b ≡ not (not b)
    go true = refl
    go false = refl

-- calls of one phase are of one round
round_is : (phase : ℕ) (c : Call) → IsOfPhase phase c → round c ≡ phase + 1
round_is phase c (region, same) = let p = ap (λ (n : ℕ). n + 1) same in grind (arith, nat_tests)

first_by_same : (x y : ℕ) (rest : Bool) → x ≡ y → first_by x y rest ≡ rest
first_by_same x y rest e = grind (arith, nat_tests)

-- and what is kept of them tells their order
alike : (phase : ℕ) (s t : Told) → IsToldOf phase s → IsToldOf phase t → comes_first s t ≡ stands_before (record_of s) (record_of t)
alike phase s t p q =
    let rest = first_by s.call.lane t.call.lane (nat_lt s.call.index t.call.index) in
    let kinds : Bool → Bool = λ r. (s.stamp.update && not t.stamp.update) || ((s.stamp.update || not t.stamp.update) && r) in
    ap (first_by s.stamp.at t.stamp.at) (ap kinds (first_by_same (round s.call) (round t.call) rest (round_is phase s.call p ∙ sym (round_is phase t.call q))))

-- the journal gives a call of a lane the index that it has
abbrev pub itself : Told → Shown
itself t = record { made = t; index = t.call.index }

pub made_itself : (ts : List Told) → made_in (map itself ts) ≡ ts
made_itself [] = refl
made_itself (t ∷ ts) = ap (λ (l : List Told). t ∷ l) (made_itself ts)

pub shown_itself : (ts : List Told) → shown_in (map itself ts) ≡ ts
shown_itself [] = refl
shown_itself (t ∷ ts) = ap (λ (l : List Told). t ∷ l) (shown_itself ts)

module _ (phase : ℕ) where
  lane_calls_are : (lane index : ℕ) (cs : List Known) → AllByRecursion (IsOfPhase phase) (lane_calls phase lane index cs)
  lane_calls_are lane index [] = tt
  lane_calls_are lane index (c ∷ cs) = ((refl, refl), lane_calls_are lane (suc index) cs)

  placed_too : (ts : List Told) → AllByRecursion (IsOfPhase phase) (calls_of ts) → AllByRecursion (IsToldOf phase) (filter is_placed ts)
  placed_too [] a = tt
  placed_too (t ∷ ts) a =
      let rest : AllByRecursion (IsToldOf phase) (filter is_placed ts) = placed_too ts a.1 in
      elim (is_placed t) as (λ b. AllByRecursion (IsToldOf phase) (cond b (t ∷ filter is_placed ts) (filter is_placed ts))) [ true ↦ (a.0, rest) | false ↦ rest ]

  both_lists : (xs ys : List Told) → AllByRecursion (IsToldOf phase) xs → AllByRecursion (IsToldOf phase) ys → AllByRecursion (IsToldOf phase) (xs ++ ys)
  both_lists [] ys a b = b
  both_lists (x ∷ xs) ys a b = (a.0, both_lists xs ys a.1 b)

  -- each placed call of the lanes is of the phase
  of_phase_from : (lane : ℕ) (ls : Phase) (ns : List ℕ) (ts : List (List Told)) (rs : List Part) → AreParts phase lane ls ns ts rs
      → AllByRecursion (IsToldOf phase) (flat_map (filter is_placed) ts)
  of_phase_from lane [] [] [] [] a = tt
  of_phase_from lane (cs ∷ ls) (n ∷ ns) (t ∷ ts) (r ∷ rs) a =
      let calls = subst (AllByRecursion (IsOfPhase phase)) (sym a.0.calls_are) (lane_calls_are lane n (take r.made (drop n cs))) in
      both_lists (filter is_placed t) (flat_map (filter is_placed) ts) (placed_too t calls) (of_phase_from (suc lane) ls ns ts rs a.1)
  of_phase_from lane ls ns ts rs a = absurd a

module _ (phase : ℕ) (lanes : Phase) (es fs : List Entry) (seen later : ℕ) (first rest sorted : List Record) (parts behind : List Part)
    (g : IsMadeOver phase lanes (none_made lanes) es first parts) (k : IsMadeOver phase lanes (made_counts parts) fs rest behind)
    (whole : AreWhole lanes (made_counts parts) behind) (moved : IsPermutation (first ++ rest) sorted) (in_order : IsSortedBy stands_before sorted)
    (all_behind : (e : Entry) → In e (es ++ fs) → IsBehind seen e) (all_known : (e : Entry) → In e (es ++ fs) → e.stamp.at ≤ later) where
  abbrev pub made : List Told
  made = joined g.tolds k.tolds

  abbrev placed_first : List Told
  placed_first = flat_map (filter is_placed) g.tolds

  abbrev placed_rest : List Told
  placed_rest = flat_map (filter is_placed) k.tolds

  abbrev pub from : (order : List Told) × IsPermutation (placed_first ++ placed_rest) order × (sorted ≡ map record_of order)
  from =
      permuted_before record_of (placed_first ++ placed_rest) sorted
      (subst (λ (rs : List Record). IsPermutation rs sorted)
      (ap (λ (rs : List Record). rs ++ rest) g.placed_are ∙ ap (λ (rs : List Record). map record_of placed_first ++ rs) k.placed_are
      ∙ sym (map-append record_of placed_first placed_rest)) moved)

  abbrev pub order : List Told
  order = from.0

  abbrev pub rest_of : List Told
  rest_of = filter is_unplaced made

  both : AreJoined phase 0 lanes g.tolds k.tolds parts behind
  both = are_joined phase 0 lanes g.tolds k.tolds parts behind g.parts_are k.parts_are whole

  once : IsPermutation made (order ++ rest_of)
  once =
      IsPermutation-trans made (filter is_placed made ++ rest_of) (order ++ rest_of) (IsPermutation-filter_both is_placed is_unplaced not_placed made)
      (IsPermutation-append_left rest_of (filter is_placed made) order
      (IsPermutation-trans (filter is_placed made) (placed_first ++ placed_rest) order (filter_joined is_placed g.tolds k.tolds both.same_length) from.1))

  history : IsPermutation (map told (es ++ fs)) order
  history =
      IsPermutation-trans (map told (es ++ fs)) (placed_first ++ placed_rest) order
      (subst (λ (ts : List Told). IsPermutation ts (placed_first ++ placed_rest)) (sym (map-append told es fs))
      (IsPermutation-append (map told es) placed_first (map told fs) placed_rest g.history k.history)) from.1

  of_phase : All (IsToldOf phase) order
  of_phase =
      All-permutation (IsToldOf phase) (placed_first ++ placed_rest) order from.1
      (All-append (IsToldOf phase) placed_first placed_rest
      (All-from_recursion (IsToldOf phase) placed_first (of_phase_from phase 0 lanes (none_made lanes) g.tolds parts g.parts_are))
      (All-from_recursion (IsToldOf phase) placed_rest (of_phase_from phase 0 lanes (made_counts parts) k.tolds behind k.parts_are)))

  -- what holds of each entry holds of what is told of it
  of_entries : (Q : Told → Type 0) → ((e : Entry) → In e (es ++ fs) → Q (told e)) → All Q order
  of_entries Q each = All-permutation Q (map told (es ++ fs)) order history (All-from_recursion Q (map told (es ++ fs)) (go (es ++ fs) each))
    where
      go : (hs : List Entry) → ((e : Entry) → In e hs → Q (told e)) → AllByRecursion Q (map told hs)
      go [] f = tt
      go (e ∷ hs) f = (f e (inl refl), go hs (λ d i. f d (inr i)))

  -- a phase over a table
  pub phase_over : IsPhaseOver phase (Lanes lanes) (es ++ fs) seen later (map itself order) rest_of
  phase_over =
      let Ascends : Call → Call → Type 0 = λ c d. ascends c d ≡ true in
      let R : Told → Told → Type 0 = λ s t. ascends s.call t.call ≡ true in
      record {
        calls = phase_calls phase 0 lanes;
        are_dealt = refl;
        each_once = subst (λ ts. IsPermutation (phase_calls phase 0 lanes) (calls_of (ts ++ rest_of))) (sym (shown_itself order))
            (subst (λ cs. IsPermutation cs (calls_of (order ++ rest_of))) both.calls_are
            (IsPermutation-map (λ (t : Told). t.call) made (order ++ rest_of) once));
        unplaced_order = pairs_map (λ (t : Told). t.call) Ascends rest_of
            (AllPairs-filter R is_unplaced made
            (pairs_from_map (λ (t : Told). t.call) Ascends made (subst (AllPairs Ascends) (sym both.calls_are) (phase_pairs phase 0 lanes))));
        no_memory = recursion_from_All (λ (t : Told). t.answer ≡ NoMemory) rest_of
            (All-weaker (λ (t : Told). is_unplaced t ≡ true) (λ (t : Told). t.answer ≡ NoMemory) (λ t is. memory_is t.answer is) rest_of (filter_passes is_unplaced made));
        history = subst (IsPermutation (map told (es ++ fs))) (sym (made_itself order)) history;
        in_order = pairs_map itself (λ (s t : Shown). comes_first t.made s.made ≡ false) order
            (sorted_pairs comes_first history_order order
            (sorted_before record_of (IsToldOf phase) stands_before comes_first (alike phase) order of_phase (subst (IsSortedBy stands_before) from.2 in_order)));
        lanes_kept = pairs_map itself KeepsLane order (λ i j d less within same lane lower. lower);
        of_lanes = all_map itself (λ (s : Shown). IsOfRegion s.made) order (All-weaker (IsToldOf phase) IsOfRegion (λ t is. is.0) order of_phase);
        behind = all_map itself (λ (s : Shown). StandsBehind seen s.made) order (of_entries (StandsBehind seen) all_behind);
        known = all_map itself (λ (s : Shown). s.made.stamp.at ≤ later) order (of_entries (λ t. t.stamp.at ≤ later) all_known);
      }

  -- what is kept of it
  pub placed_is : sorted ≡ map record_of (shown_in (map itself order))
  placed_is = from.2 ∙ ap (map record_of) (sym (shown_itself order))

  pub unplaced_is : joined (unplaced_of parts) (unplaced_of behind) ≡ map record_of rest_of
  unplaced_is = both.unplaced_are
