-- A phase of lanes as one of a bag.
use Rattle.std.proofs.Common.{◌≡◌, ℕ, ◌≤◌, List, [], ◌∷◌, ◌++◌, length, get_or, map, min, All, AllPairs, true, false, refl, sym, ◌∙◌, ap, subst, arith}
use Rattle.std.specs.Prelude.{IsPermutation}
use Rattle.std.specs.List.{AllByRecursion, flat_map}
use Rattle.std.proofs.lemmas.List.{map-append, length-map, length-append}
use Rattle.std.proofs.lemmas.List.Elements.{All-map}
use Rattle.std.proofs.lemmas.List.FromFn.{length-range_with_len}
use Rattle.std.proofs.lemmas.List.Sorted.{All-permutation, length_permutation, IsPermutation-map, IsPermutation-sym, IsPermutation-trans}
use Rattle.claims.specs.Claims.{below}
use Rattle.jmodel.specs.declared.value.Answer.{Answer}
use Rattle.jmodel.specs.declared.value.Answer.TheVariants.{NoMemory}
use Rattle.tx_table.specs.Book.{Book}
use Rattle.jmodel.specs.history.History.{Call, Entry, Told, told, comes_first}
use Rattle.jmodel.specs.history.Schedule.{Known, Lanes, Bag, AreDealt, phase_calls, ascends}
use Rattle.session.specs.declared.record.Record.{Record}
use Rattle.session.specs.Rule.{calls_of}
use Rattle.session.specs.Lane.{record_of}
use Rattle.driver.specs.declared.journal.Records.{Records}
use Rattle.driver.specs.Bags.{as_lanes, AreTaken, index_in, in_bag, told_in_bag, numbered, IsOfWorker}
use Rattle.driver.specs.Over.{Shown, as_shown, made_in, shown_in, KeepsLane, IsOfRegion, StandsBehind, IsPhaseOver, AddsPhase}
use Rattle.driver.specs.Passing.{call_count}
use Rattle.driver.proofs.Lists.{all_map, all_from_map, all_left, all_right, pairs_map}
use Rattle.driver.proofs.Dealing.{dealt_alone}
use Rattle.driver.proofs.Numbering.{dealt_taken}
use Rattle.driver.proofs.Renumbered.{IsCallTaken, pairs_of, lower, ascends_in_bag, phase_taken}

module _ (taken : List (List ℕ)) where
  calls_in_bag : (ts : List Told) → map (in_bag taken) (calls_of ts) ≡ calls_of (map (told_in_bag taken) ts)
  calls_in_bag [] = refl
  calls_in_bag (t ∷ ts) = ap (λ (l : List Call). in_bag taken t.call ∷ l) (calls_in_bag ts)

  records_in_bag : (ts : List Told) → map (numbered taken) (map record_of ts) ≡ map record_of (map (told_in_bag taken) ts)
  records_in_bag [] = refl
  records_in_bag (t ∷ ts) = ap (λ (l : List Record). record_of (told_in_bag taken t) ∷ l) (records_in_bag ts)

  answers_in_bag : (Q : Answer → Type 0) (ts : List Told) → AllByRecursion (λ (t : Told). Q t.answer) ts
      → AllByRecursion (λ (t : Told). Q t.answer) (map (told_in_bag taken) ts)
  answers_in_bag Q [] h = tt
  answers_in_bag Q (t ∷ ts) h = (h.0, answers_in_bag Q ts h.1)

  -- a call that is shown by a lane's index, shown by that of the bag
  abbrev pub renumbered : Shown → Shown
  renumbered s = record { made = s.made; index = index_in taken s.made.call.lane s.index }

  made_renumbered : (ss : List Shown) → made_in (map renumbered ss) ≡ made_in ss
  made_renumbered [] = refl
  made_renumbered (s ∷ ss) = ap (λ (l : List Told). s.made ∷ l) (made_renumbered ss)

  shown_renumbered : (ss : List Shown) → shown_in (map renumbered ss) ≡ map (told_in_bag taken) (shown_in ss)
  shown_renumbered [] = refl
  shown_renumbered (s ∷ ss) = ap (λ (l : List Told). told_in_bag taken (as_shown s) ∷ l) (shown_renumbered ss)

module _ (phase : ℕ) (cs : List Known) (taken : List (List ℕ)) (are : AreTaken (length cs) taken) (entries : List Entry) (seen later : ℕ)
    (placed : List Shown) (unplaced : List Told) (h : IsPhaseOver phase (Lanes (as_lanes cs taken)) entries seen later placed unplaced) where
  abbrev IsIn : Told → Type 0
  IsIn t = IsCallTaken taken t.call

  abbrev pc : List Call
  pc = phase_calls phase 0 (as_lanes cs taken)

  each_once : IsPermutation pc (calls_of (shown_in placed ++ unplaced))
  each_once = subst (λ (l : List Call). IsPermutation l (calls_of (shown_in placed ++ unplaced))) h.are_dealt h.each_once

  all_taken : All IsIn (shown_in placed ++ unplaced)
  all_taken =
      all_from_map (λ (t : Told). t.call) (IsCallTaken taken) (shown_in placed ++ unplaced)
      (All-permutation (IsCallTaken taken) pc (calls_of (shown_in placed ++ unplaced)) each_once (phase_taken phase cs taken))

  -- each record is of a call that a worker took
  pub placed_inside : All (IsOfWorker taken) (map record_of (shown_in placed))
  placed_inside = All-map (IsOfWorker taken) record_of (shown_in placed) (all_left IsIn (shown_in placed) unplaced all_taken)

  pub unplaced_inside : All (IsOfWorker taken) (map record_of unplaced)
  unplaced_inside = All-map (IsOfWorker taken) record_of unplaced (all_right IsIn (shown_in placed) unplaced all_taken)

  -- the same phase, with the calls by their indexes in the bag
  pub in_bag_phase : (lanes : ℕ) (calls : List Call) → AreDealt phase (Bag lanes cs) calls → IsPermutation (map (in_bag taken) pc) calls
      → IsPhaseOver phase (Bag lanes cs) entries seen later (map (renumbered taken) placed) (map (told_in_bag taken) unplaced)
  in_bag_phase lanes calls dealt same =
      let T = told_in_bag taken in
      let N = renumbered taken in
      let shown = shown_in placed in
      let all = shown ++ unplaced in
      let told_are : map (in_bag taken) (calls_of all) ≡ calls_of (map T shown ++ map T unplaced) = calls_in_bag taken all ∙ ap calls_of (map-append T shown unplaced) in
      let moved = subst (IsPermutation (map (in_bag taken) pc)) told_are (IsPermutation-map (in_bag taken) pc (calls_of all) each_once) in
      let Asc : Call → Call → Type 0 = λ c d. ascends c d ≡ true in
      let left_out = all_map (λ (t : Told). t.call) (IsCallTaken taken) unplaced (all_right IsIn shown unplaced all_taken) in
      let inside : All (λ (s : Shown). IsIn (as_shown s)) placed = all_from_map as_shown IsIn placed (all_left IsIn shown unplaced all_taken) in
      record {
        calls = calls;
        are_dealt = dealt;
        each_once = subst (λ (ts : List Told). IsPermutation calls (calls_of (ts ++ map T unplaced))) (sym (shown_renumbered taken placed))
            (IsPermutation-trans calls (map (in_bag taken) pc) (calls_of (map T shown ++ map T unplaced)) (IsPermutation-sym (map (in_bag taken) pc) calls same) moved);
        unplaced_order = subst (AllPairs Asc) (calls_in_bag taken unplaced)
            (pairs_map (in_bag taken) Asc (calls_of unplaced)
            (pairs_of (IsCallTaken taken) Asc (λ c d. Asc (in_bag taken c) (in_bag taken d)) (ascends_in_bag taken are.ascending) (calls_of unplaced) left_out
            h.unplaced_order));
        no_memory = answers_in_bag taken (λ x. x ≡ NoMemory) unplaced h.no_memory;
        history = subst (IsPermutation (map told entries)) (sym (made_renumbered taken placed)) h.history;
        in_order = pairs_map N (λ (s t : Shown). comes_first t.made s.made ≡ false) placed h.in_order;
        lanes_kept = pairs_map N KeepsLane placed
            (pairs_of (λ (s : Shown). IsIn (as_shown s)) KeepsLane (λ s t. KeepsLane (N s) (N t))
            (λ s t was is keeps one lane less. lower taken are.ascending (as_shown s).call (as_shown t).call is lane (keeps one lane less)) placed inside h.lanes_kept);
        of_lanes = all_map N (λ (s : Shown). IsOfRegion s.made) placed h.of_lanes;
        behind = all_map N (λ (s : Shown). StandsBehind seen s.made) placed h.behind;
        known = all_map N (λ (s : Shown). s.made.stamp.at ≤ later) placed h.known;
      }

-- the workers' calls are as many as those of the bag
count_taken : (cs : List Known) (taken : List (List ℕ)) → call_count (as_lanes cs taken) ≡ length (flat_map (λ (l : List ℕ). l) taken)
count_taken cs [] = refl
count_taken cs (l ∷ ls) =
    let here = length-map l (λ i. get_or cs i (record { method = 0; args = [] })) in
    let rest = count_taken cs ls in
    let both = length-append l (flat_map (λ (x : List ℕ). x) ls) in
    omega (arith, here, rest, both)

pub count_in_bag : (cs : List Known) (taken : List (List ℕ)) → AreTaken (length cs) taken → call_count (as_lanes cs taken) ≡ length cs
count_in_bag cs taken are =
    count_taken cs taken ∙ sym (length_permutation (flat_map (λ (l : List ℕ). l) taken) (below (length cs)) are.each_once) ∙ length-range_with_len 0 (length cs)

-- a journal with the calls of a bag added, which workers took
pub adds_bag : (phase count lanes : ℕ) (cs : List Known) (taken : List (List ℕ)) (b v : Book) (none made old new : Records)
    → AreTaken (length cs) taken → length taken ≤ min lanes (length cs) → none.placed.items ≡ [] → none.unplaced.items ≡ []
    → AddsPhase phase count (Lanes (as_lanes cs taken)) b v none made
    → new.placed.items ≡ old.placed.items ++ map (numbered taken) made.placed.items
    → new.unplaced.items ≡ old.unplaced.items ++ map (numbered taken) made.unplaced.items
    → AddsPhase phase count (Bag lanes cs) b v old new
adds_bag phase count lanes cs taken b v none made old new are few no_placed no_unplaced adds placed unplaced =
    let dealt = dealt_taken phase lanes cs taken are few in
    let mine = adds.placed_are ∙ ap (λ (l : List Record). l ++ map record_of (shown_in adds.placed)) no_placed in
    let theirs = adds.unplaced_are ∙ ap (λ (l : List Record). l ++ map record_of adds.unplaced) no_unplaced in
    record {
      entries = adds.entries;
      placed = map (renumbered taken) adds.placed;
      unplaced = map (told_in_bag taken) adds.unplaced;
      adds = adds.adds;
      is_phase = in_bag_phase phase cs taken are adds.entries b.seen v.seen adds.placed adds.unplaced adds.is_phase lanes dealt.0 dealt.1 dealt.2;
      placed_are = placed ∙ ap (λ (l : List Record). old.placed.items ++ l)
          (ap (map (numbered taken)) mine ∙ records_in_bag taken (shown_in adds.placed) ∙ ap (map record_of) (sym (shown_renumbered taken adds.placed)));
      unplaced_are = unplaced ∙ ap (λ (l : List Record). old.unplaced.items ++ l) (ap (map (numbered taken)) theirs ∙ records_in_bag taken adds.unplaced);
    }

-- each record of a phase is of a call that a worker took
pub made_inside : (phase count : ℕ) (cs : List Known) (taken : List (List ℕ)) (b v : Book) (none made : Records)
    → AreTaken (length cs) taken → none.placed.items ≡ [] → none.unplaced.items ≡ []
    → AddsPhase phase count (Lanes (as_lanes cs taken)) b v none made
    → All (IsOfWorker taken) made.placed.items × All (IsOfWorker taken) made.unplaced.items
made_inside phase count cs taken b v none made are no_placed no_unplaced adds =
    let mine = adds.placed_are ∙ ap (λ (l : List Record). l ++ map record_of (shown_in adds.placed)) no_placed in
    let theirs = adds.unplaced_are ∙ ap (λ (l : List Record). l ++ map record_of adds.unplaced) no_unplaced in (
      subst (All (IsOfWorker taken)) (sym mine) (placed_inside phase cs taken are adds.entries b.seen v.seen adds.placed adds.unplaced adds.is_phase),
      subst (All (IsOfWorker taken)) (sym theirs) (unplaced_inside phase cs taken are adds.entries b.seen v.seen adds.placed adds.unplaced adds.is_phase),
    )

-- a bag whose calls one worker makes, as a lane's
pub adds_alone : (phase count lanes : ℕ) (cs : List Known) (b v : Book) (old new : Records) → 1 ≤ lanes → AddsPhase phase count (Lanes (cs ∷ [])) b v old new
    → AddsPhase phase count (Bag lanes cs) b v old new
adds_alone phase count lanes cs b v old new some adds =
    let k = adds.is_phase in
    record {
      entries = adds.entries;
      placed = adds.placed;
      unplaced = adds.unplaced;
      adds = adds.adds;
      is_phase = record {
        calls = k.calls;
        are_dealt = subst (AreDealt phase (Bag lanes cs)) (sym k.are_dealt) (dealt_alone phase lanes cs some);
        each_once = k.each_once;
        unplaced_order = k.unplaced_order;
        no_memory = k.no_memory;
        history = k.history;
        in_order = k.in_order;
        lanes_kept = k.lanes_kept;
        of_lanes = k.of_lanes;
        behind = k.behind;
        known = k.known;
      };
      placed_are = adds.placed_are;
      unplaced_are = adds.unplaced_are;
    }
