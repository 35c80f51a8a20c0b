-- Phases over one table, one behind the other, and what its history tells of them at the close.
use Rattle.std.proofs.Common.{◌≡◌, ◌≢◌, ◌≤◌, ◌<◌, ◌+◌, ◌==◌, ℕ, zero, suc, List, [], ◌∷◌, ◌++◌, length, get_or, map, All, AllPairs, Bool, true, false, cond, not, ◌&&◌, ◌||◌, nat_eq, nat_lt, refl, sym, ◌∙◌, ap, subst, inl, inr, arith}
use Rattle.std.specs.Prelude.{IsPermutation, if◌then◌else◌}
use Rattle.std.specs.List.{AllByRecursion}
use Rattle.std.specs.List.Sorted.{IsSortedBy}
use Rattle.std.proofs.lemmas.Bool.Decides.{nat_tests}
use Rattle.std.proofs.lemmas.List.{map-append}
use Rattle.std.proofs.lemmas.List.Elements.{All-nil, All-head, All-tail, All-append, All-weaker, All-from_recursion, recursion_from_All}
use Rattle.std.proofs.lemmas.List.Sorted.{IsPermutation-refl, IsPermutation-trans, IsPermutation-map, IsPermutation-append}
use mathlib.Core.Option.{some}
use Rattle.objects.specs.semantics.Serial.{Serial}
use mathlib.Core.Logic.{dite}
use native.Mathlib.Decide.{ℕ_discrete}
use Rattle.jmodel.specs.declared.value.Answer.TheVariants.{NoMemory}
use Rattle.objects.specs.semantics.Program.{Program}
use Rattle.objects.specs.semantics.State.{State}
use Rattle.jmodel.specs.history.History.{Call, Entry, Told, told, used_after, round, first_by, comes_first}
use Rattle.tx_table.specs.Book.{Book, rises, lookup}
use Rattle.tx_table.specs.Rule.{Ends, or_zero}
use Rattle.tx_table.proofs.MapLaws.{ne_cond}
use Rattle.jmodel.specs.history.Schedule.{ScriptPhase, AreDealt, AreScriptCalls, MayPrecede, ascends}
use Rattle.driver.proofs.Telling.{told_in_order}
use Rattle.session.specs.Rule.{IsRuled, IsStretch, calls_of, answers_of}
use Rattle.session.specs.Lane.{record_of}
use Rattle.driver.specs.declared.journal.Journal.{Journal}
use Rattle.driver.specs.declared.journal.Records.{Records}
use Rattle.driver.specs.declared.memory.Memory.{Memory}
use Rattle.driver.specs.Memory.{used_at_first, Holds}
use Rattle.driver.specs.Stories.{story_of, lane_regions, first_regions}
use Rattle.driver.specs.Runs.{HasRun}
use Rattle.driver.specs.Passing.{first_of, AreUsed, MayGoOn}
use Rattle.driver.specs.Over.{Shown, as_shown, made_in, shown_in, KeepsLane, IsOfRegion, StandsBehind, IsPhaseOver, AddsPhase}
use Rattle.driver.proofs.Ordered.{order_shown, behind_first}
use Rattle.driver.proofs.Lists.{all_map, all_from_map, pairs_nil, pairs_append, pairs_map, pairs_from_map, sorted_out}
use Rattle.driver.proofs.Places.{IsOfPhase, IsBefore, all_dealt, all_script, script_append, ascends_phase}
use Rattle.driver.proofs.Stretching.{stretch_of}
use Rattle.driver.proofs.Journals.{HasRunTo, calls_append, of_both, run_all}

-- What a journal has after the first phases over a table, of which a pass with this book holds every number: the same of all their calls as of those
-- of one phase, with the order of the phases.
pub record HasRunOver (phases : List ScriptPhase) (b : Book) (journal : Records) : Type 0 where
  pub placed : List Shown
  pub unplaced : List Told
  pub placed_are : journal.placed.items ≡ map record_of (shown_in placed)
  pub unplaced_are : journal.unplaced.items ≡ map record_of unplaced
  pub calls : List Call
  pub are_calls : AreScriptCalls 0 phases calls
  pub each_once : IsPermutation calls (calls_of (shown_in placed ++ unplaced))
  pub unplaced_order : AllPairs (λ c d. ascends c d ≡ true) (calls_of unplaced)
  pub no_memory : AllByRecursion (λ (t : Told). t.answer ≡ NoMemory) unplaced
  pub history : IsPermutation (map told b.entries) (made_in placed)
  pub in_order : AllPairs (λ (s t : Shown). comes_first t.made s.made ≡ false) placed
  pub phases_kept : AllPairs (λ (s t : Shown). s.made.call.phase ≤ t.made.call.phase) placed
  pub lanes_kept : AllPairs KeepsLane placed
  pub of_lanes : All (λ (s : Shown). IsOfRegion s.made) placed
  pub known : All (λ (s : Shown). s.made.stamp.at ≤ b.seen) placed

-- no phase
pub run_none : (b : Book) (journal : Records) → b.entries ≡ [] → journal.placed.items ≡ [] → journal.unplaced.items ≡ [] → HasRunOver [] b journal
run_none b journal none placed unplaced = record {
  placed = [];
  unplaced = [];
  placed_are = placed;
  unplaced_are = unplaced;
  calls = [];
  are_calls = refl;
  each_once = IsPermutation-refl [];
  unplaced_order = pairs_nil (λ c d. ascends c d ≡ true);
  no_memory = tt;
  history = subst (λ (es : List Entry). IsPermutation (map told es) []) (sym none) (IsPermutation-refl []);
  in_order = pairs_nil (λ (s t : Shown). comes_first t.made s.made ≡ false);
  phases_kept = pairs_nil (λ (s t : Shown). s.made.call.phase ≤ t.made.call.phase);
  lanes_kept = pairs_nil KeepsLane;
  of_lanes = All-nil (λ (s : Shown). IsOfRegion s.made);
  known = All-nil (λ (s : Shown). s.made.stamp.at ≤ b.seen);
}

-- a greater number doesn't come first
not_first : (x y : ℕ) (rest : Bool) → y < x → first_by x y rest ≡ false
not_first x y rest l = grind (arith, nat_tests)

not_first_or : (x y : ℕ) (rest : Bool) → y ≤ x → rest ≡ false → first_by x y rest ≡ false
not_first_or x y rest l none = ap (first_by x y) none ∙ last
  where
    last : first_by x y false ≡ false
    last = grind (arith, nat_tests)

-- calls of lanes are of the round of their phase
round_of : (t : Told) → IsOfRegion t → round t.call ≡ t.call.phase + 1
round_of t region = grind (arith, nat_tests)

-- what was placed before a phase, and what the phase placed
abbrev IsEarlier : ℕ → ℕ → Shown → Type 0
IsEarlier phase seen s = (s.made.call.phase < phase) × (s.made.stamp.at ≤ seen) × IsOfRegion s.made

abbrev IsLater : ℕ → ℕ → Shown → Type 0
IsLater phase seen s = (s.made.call.phase ≡ phase) × StandsBehind seen s.made × IsOfRegion s.made

-- a call of a later phase doesn't come first
stays_behind : (phase seen : ℕ) (d e : Told) → (d.call.phase < phase) × (d.stamp.at ≤ seen) × IsOfRegion d
    → (e.call.phase ≡ phase) × StandsBehind seen e × IsOfRegion e → comes_first e d ≡ false
stays_behind phase seen d e before after = go e.stamp.update d.stamp.update after.1.1
  where
    rest : Bool
    rest = first_by e.call.lane d.call.lane (nat_lt e.call.index d.call.index)

    rounds : first_by (round e.call) (round d.call) rest ≡ false
    rounds =
        let first = round_of d before.2 in
        let second = round_of e after.2 in
        let l = before.0 in
        let here = after.0 in
        not_first (round e.call) (round d.call) rest (omega arith)

    go : (u v : Bool) → (u ≡ true → seen < e.stamp.at)
        → first_by e.stamp.at d.stamp.at ((u && not v) || ((u || not v) && first_by (round e.call) (round d.call) rest)) ≡ false
    go true v over = let l = over refl in let k = before.1 in not_first e.stamp.at d.stamp.at _ (omega arith)
    go false true over = let l = after.1.0 in let k = before.1 in not_first_or e.stamp.at d.stamp.at _ (omega arith) refl
    go false false over = let l = after.1.0 in let k = before.1 in not_first_or e.stamp.at d.stamp.at _ (omega arith) rounds

-- the calls of lists of shown calls
shown_append : (ss rs : List Shown) → shown_in (ss ++ rs) ≡ shown_in ss ++ shown_in rs
shown_append ss rs = map-append as_shown ss rs

module _ (phases : List ScriptPhase) (p : ScriptPhase) (count : ℕ) (b v : Book) (old new : Records) (h : HasRunOver phases b old)
    (adds : AddsPhase (length phases) count p b v old new) where
  abbrev n : ℕ
  n = length phases

  abbrev k : IsPhaseOver n p adds.entries b.seen v.seen adds.placed adds.unplaced
  k = adds.is_phase

  abbrev next : List Shown
  next = adds.placed

  abbrev all : List Shown
  all = h.placed ++ adds.placed

  earlier : All (IsBefore n) (calls_of (shown_in h.placed)) × All (IsBefore n) (calls_of h.unplaced)
  earlier =
      let e : 0 + n ≡ n = omega arith in
      let Before : ℕ → Type 0 = λ m. All (IsBefore m) h.calls in
      of_both (IsBefore n) h.calls (shown_in h.placed) h.unplaced h.each_once (subst Before e (all_script 0 phases h.calls h.are_calls))

  now : All (IsOfPhase n 0) (calls_of (shown_in next)) × All (IsOfPhase n 0) (calls_of adds.unplaced)
  now = of_both (IsOfPhase n 0) k.calls (shown_in next) adds.unplaced k.each_once (all_dealt n p k.calls k.are_dealt)

  -- what holds of each call as the journal has it
  shown_hold : (Q : Call → Type 0) (ss : List Shown) → All Q (calls_of (shown_in ss)) → All (λ (s : Shown). Q (as_shown s).call) ss
  shown_hold Q ss every =
      all_from_map as_shown (λ (t : Told). Q t.call) ss (all_from_map (λ (t : Told). t.call) Q (shown_in ss) every)

  before : All (IsEarlier n b.seen) h.placed
  before = λ i d l. (shown_hold (IsBefore n) h.placed earlier.0 i d l, h.known i d l, h.of_lanes i d l)

  after : All (IsLater n b.seen) next
  after = λ i d l. ((shown_hold (IsOfPhase n 0) next now.0 i d l).of_phase, k.behind i d l, k.of_lanes i d l)

  once : IsPermutation (h.calls ++ k.calls) (calls_of (shown_in all ++ (h.unplaced ++ adds.unplaced)))
  once =
      let parts = calls_append (shown_in h.placed ++ shown_in next) (h.unplaced ++ adds.unplaced)
      ∙ ap (λ l. l ++ calls_of (h.unplaced ++ adds.unplaced)) (calls_append (shown_in h.placed) (shown_in next))
      ∙ ap (λ l. (calls_of (shown_in h.placed) ++ calls_of (shown_in next)) ++ l) (calls_append h.unplaced adds.unplaced) in
      let Shows : List Told → Type 0 = λ ts. IsPermutation (h.calls ++ k.calls) (calls_of (ts ++ (h.unplaced ++ adds.unplaced))) in
      subst Shows (sym (shown_append h.placed next))
      (subst (IsPermutation (h.calls ++ k.calls)) (sym parts)
      (sorted_out h.calls k.calls (calls_of (shown_in h.placed)) (calls_of (shown_in next)) (calls_of h.unplaced) (calls_of adds.unplaced)
      (subst (IsPermutation h.calls) (calls_append (shown_in h.placed) h.unplaced) h.each_once)
      (subst (IsPermutation k.calls) (calls_append (shown_in next) adds.unplaced) k.each_once)))

  history : IsPermutation (map told v.entries) (made_in all)
  history =
      let es = b.entries in
      let more = adds.entries in
      subst (IsPermutation (map told v.entries)) (sym (map-append (λ (s : Shown). s.made) h.placed next))
      (IsPermutation-trans (map told v.entries) (map told (es ++ more)) (made_in h.placed ++ made_in next)
      (IsPermutation-map told v.entries (es ++ more) adds.adds.entries)
      (subst (λ ts. IsPermutation ts (made_in h.placed ++ made_in next)) (sym (map-append told es more))
      (IsPermutation-append (map told es) (made_in h.placed) (map told more) (made_in next) h.history k.history)))

  -- a phase more
  pub over_more : HasRunOver (phases ++ p ∷ []) v new
  over_more =
      let InOrder : Shown → Shown → Type 0 = λ s t. comes_first t.made s.made ≡ false in
      let Kept : Shown → Shown → Type 0 = λ s t. s.made.call.phase ≤ t.made.call.phase in
      let Known : Shown → Type 0 = λ s. s.made.stamp.at ≤ v.seen in
      let OfLane : Shown → Type 0 = λ s. IsOfRegion s.made in
      let No : Told → Type 0 = λ t. t.answer ≡ NoMemory in
      let e : n ≡ 0 + n = omega arith in
      let Dealt : ℕ → Type 0 = λ m. AreDealt m p k.calls in
      record {
        placed = all;
        unplaced = h.unplaced ++ adds.unplaced;
        placed_are = adds.placed_are ∙ ap (λ l. l ++ map record_of (shown_in next)) h.placed_are
            ∙ sym (ap (map record_of) (shown_append h.placed next) ∙ map-append record_of (shown_in h.placed) (shown_in next));
        unplaced_are = adds.unplaced_are ∙ ap (λ l. l ++ map record_of adds.unplaced) h.unplaced_are ∙ sym (map-append record_of h.unplaced adds.unplaced);
        calls = h.calls ++ k.calls;
        are_calls = script_append 0 phases p h.calls k.calls h.are_calls (subst Dealt e k.are_dealt);
        each_once = once;
        unplaced_order = subst (AllPairs (λ c d. ascends c d ≡ true)) (sym (calls_append h.unplaced adds.unplaced))
            (pairs_append (λ c d. ascends c d ≡ true) (IsBefore n) (IsOfPhase n 0) (λ c d was is. ascends_phase c d (omega (arith, was, is.of_phase)))
            (calls_of h.unplaced) (calls_of adds.unplaced) h.unplaced_order k.unplaced_order earlier.1 now.1);
        no_memory = recursion_from_All No (h.unplaced ++ adds.unplaced)
            (All-append No h.unplaced adds.unplaced (All-from_recursion No h.unplaced h.no_memory) (All-from_recursion No adds.unplaced k.no_memory));
        history = history;
        in_order = pairs_append InOrder (IsEarlier n b.seen) (IsLater n b.seen) (λ s t was is. stays_behind n b.seen s.made t.made was is) h.placed next h.in_order k.in_order
            before after;
        phases_kept = pairs_append Kept (IsEarlier n b.seen) (IsLater n b.seen) (λ s t was is. omega (arith, was.0, is.0)) h.placed next h.phases_kept
            (λ i j d l inside. omega (arith, (after i d (omega arith)).0, (after j d inside).0)) before after;
        lanes_kept = pairs_append KeepsLane (IsEarlier n b.seen) (IsLater n b.seen) (λ s t was is same. absurd (omega (arith, was.0, is.0, same))) h.placed next
            h.lanes_kept k.lanes_kept before after;
        of_lanes = All-append OfLane h.placed next h.of_lanes k.of_lanes;
        known = All-append Known h.placed next
            (All-weaker (λ (s : Shown). s.made.stamp.at ≤ b.seen) Known (λ s l. omega (arith, l, adds.adds.on)) h.placed h.known) k.known;
      }

-- of two calls of one lane and phase the first has the lower index
rises_index : (c d : Call) → c.region ≡ d.region → c.phase ≡ d.phase → c.lane ≡ d.lane → rises c d ≡ true → c.index < d.index
rises_index c d region phase lane rise =
    let same : round c ≡ round d = (λ i. if nat_eq (region i) 0 then 0 else phase i + 1) in grind (arith, nat_tests)

sorted_made : (ss : List Shown) → AllPairs (λ (s t : Shown). comes_first t.made s.made ≡ false) ss → IsSortedBy comes_first (made_in ss)
sorted_made ss pairs =
    let InOrder : Told → Told → Type 0 = λ s t. comes_first t s ≡ false in
    let all = pairs_map (λ (s : Shown). s.made) InOrder ss pairs in
    λ k d low high. all k (k + 1) d (omega arith) high

-- the index of a call plays no part in what it does
serial_shown : (P : Program) (size budget : ℕ) (σ τ : State) (ss : List Shown) → Serial P size budget σ (calls_of (made_in ss)) (answers_of (made_in ss)) τ
    → Serial P size budget σ (calls_of (shown_in ss)) (answers_of (shown_in ss)) τ
serial_shown P size budget σ τ [] h = h
serial_shown P size budget σ τ (s ∷ ss) h = (h.0, h.1, serial_shown P size budget h.0 τ ss h.2)

-- the words that are used as the table opens
none_at_first : (n region : ℕ) → or_zero (lookup (lane_regions n) region) ≡ 0
none_at_first zero region = refl
none_at_first (suc n) region =
    elim (suc n == region) as (λ b. or_zero (cond b (some 0) (lookup (lane_regions n) region)) ≡ 0) [ true ↦ refl | false ↦ none_at_first n region ]

pub opens_with : (used region : ℕ) → or_zero (lookup (first_regions used) region) ≡ used_at_first used region
opens_with used zero = refl
opens_with used (suc region) =
    ap or_zero (ne_cond 0 (suc region) (some used) (lookup (lane_regions 16) (suc region)) (λ e. omega (arith, e))) ∙ none_at_first 16 (suc region)

-- entries of other regions leave a region's used words
used_still : (h : List Entry) (region u : ℕ) → All (λ (t : Told). t.call.region ≢ region) (map told h) → used_after h region u ≡ u
used_still [] region u others = refl
used_still (e ∷ h) region u others =
    let Other : Told → Type 0 = λ t. t.call.region ≢ region in
    let here : e.call.region ≢ region = All-head Other (told e) (map told h) others in
    let rest : All Other (map told h) = All-tail Other (told e) (map told h) others in
    ap (used_after h region) (ne_cond e.call.region region e.used_after u here) ∙ used_still h region u rest

module _ (P Q : Program) (size budget attempts : ℕ) (memory : Memory) (after : List ℕ) (rule : Entry → Type 0) (ruled : (e : Entry) → rule e → IsRuled P Q size budget attempts e) (b : Book)
    (phases : List ScriptPhase) (records : Records) (h : HasRunOver phases b records) (ends : Ends (story_of rule memory.words.items memory.used) b after) where
  -- the used words of a region as the table opened, and as it closed
  abbrev first : ℕ → ℕ
  first region = or_zero (lookup (first_regions memory.used) region)

  abbrev last : ℕ → ℕ
  last region = used_after ends.history region (first region)

  told_is : map told ends.history ≡ made_in h.placed
  told_is = told_in_order ends.history b.entries (made_in h.placed) ends.legal.ordered ends.account h.history (sorted_made h.placed h.in_order)

  -- the original methods, each run alone in the order of history, answer so
  stretch : (σ : State) → Holds P size memory σ → IsStretch P size budget σ after last (shown_in h.placed)
  stretch σ state =
      let s = subst (IsStretch P size budget σ after last) told_is
      (stretch_of P Q size budget attempts memory.words.items after first (used_at_first memory.used) last ends.history (opens_with memory.used) ends.legal.entries
      (λ e i. ruled e (ends.runs e i)) ends.heap (λ region. refl) σ state) in
      record { after = s.after; serial = serial_shown P size budget σ s.after h.placed s.serial; stands = s.stands }

  regions_kept : AllPairs (λ (s t : Shown). s.made.call.region ≡ t.made.call.region → rises s.made.call t.made.call ≡ true) h.placed
  regions_kept =
      let Kept : Told → Told → Type 0 = λ s t. s.call.region ≡ t.call.region → rises s.call t.call ≡ true in
      pairs_from_map (λ (s : Shown). s.made) Kept h.placed (subst (AllPairs Kept) told_is (pairs_map told Kept ends.history ends.regions))

  -- which keeps the order of the phases and of each lane
  order : AllPairs MayPrecede (calls_of (shown_in h.placed))
  order =
      pairs_map (λ (t : Told). t.call) MayPrecede (shown_in h.placed)
      (pairs_map as_shown (λ (s t : Told). MayPrecede s.call t.call) h.placed
      (λ i j d l inside.
      let s = get_or h.placed i d in
      let t = get_or h.placed j d in
      let kept = h.phases_kept i j d l inside in
      dite (ℕ_discrete s.made.call.phase t.made.call.phase)
      (λ same. inr (
        same,
        λ lane.
            let region : s.made.call.region ≡ t.made.call.region = h.of_lanes i d (omega arith) ∙ ap suc lane ∙ sym (h.of_lanes j d inside) in
            h.lanes_kept i j d l inside same lane (rises_index s.made.call t.made.call region same lane (regions_kept i j d l inside region)),
      ))
      (λ other. inl (omega arith))))

  -- of two calls the first in the history
  made_first : AllPairs (λ (s t : Shown). comes_first s.made t.made ≡ true) h.placed
  made_first =
      let First : Told → Told → Type 0 = λ s t. comes_first s t ≡ true in
      pairs_from_map (λ (s : Shown). s.made) First h.placed (subst (AllPairs First) told_is (pairs_map told First ends.history ends.legal.ordered))

  in_order : AllPairs (λ s t. comes_first s t ≡ true) (shown_in h.placed)
  in_order =
      pairs_map as_shown (λ s t. comes_first s t ≡ true) h.placed
      (λ i j d l inside.
      order_shown (get_or h.placed i d) (get_or h.placed j d) (h.of_lanes i d (omega arith)) (h.of_lanes j d inside) (h.lanes_kept i j d l inside) (made_first i j d l inside))

  behind : AllPairs (λ (s t : Told). StandsBehind s.stamp.at t) (shown_in h.placed)
  behind =
      let Behind : Told → Told → Type 0 = λ s t. StandsBehind s.stamp.at t in
      let all : AllPairs Behind (map told ends.history) =
      pairs_map told Behind ends.history
      (λ i j d l inside. behind_first (told (get_or ends.history i d)) (told (get_or ends.history j d)) (ends.legal.stamps i j d l inside) (ends.legal.ordered i j d l inside)) in
      pairs_map as_shown Behind h.placed (pairs_from_map (λ (s : Shown). s.made) Behind h.placed (subst (AllPairs Behind) told_is all))

  -- no call takes words of region 0
  of_others : All (λ (t : Told). t.call.region ≢ 0) (map told ends.history)
  of_others =
      let Other : Told → Type 0 = λ t. t.call.region ≢ 0 in
      subst (All Other) (sym told_is) (all_map (λ (s : Shown). s.made) Other h.placed (λ i d l same. let region = h.of_lanes i d l in omega (arith, region, same)))

  -- the words that are used in each region at the end
  used_are : (kept : List ℕ) (phase : ℕ) → AreUsed kept b → ((lane : ℕ) → lane < 16 → MayGoOn (first_of phase lane) b) → (region : ℕ) → region < 17 → get_or (memory.used ∷ kept) region 0 ≡ last region
  used_are kept phase used goes zero low = sym (used_still ends.history 0 memory.used of_others)
  used_are kept phase used goes (suc lane) low = let l : lane < 16 = omega (arith, low) in used lane l ∙ sym (ends.used (suc lane) _ (goes lane l).region)

  -- so the journal is that of a run
  pub run_over : (kept : List ℕ) (phase : ℕ) → AreUsed kept b → ((lane : ℕ) → lane < 16 → MayGoOn (first_of phase lane) b) → (journal : Journal)
      → journal.placed ≡ records.placed → journal.unplaced ≡ records.unplaced → journal.words.items ≡ after → journal.used.items ≡ memory.used ∷ kept → length journal.used.items ≡ 17
      → HasRun P size budget phases memory journal
  run_over kept phase used goes journal placed unplaced words used_is long =
      let Left : List ℕ → Type 0 = λ ws. HasRunTo P size budget phases memory ws last records in
      run_all P size budget phases memory last records journal placed unplaced long
      (λ region low. ap (λ (us : List ℕ). get_or us region 0) used_is ∙ used_are kept phase used goes region low)
      (subst Left (sym words) (record {
        placed = shown_in h.placed;
        unplaced = h.unplaced;
        placed_are = h.placed_are;
        unplaced_are = h.unplaced_are;
        in_order = in_order;
        behind = behind;
        calls = h.calls;
        are_calls = h.are_calls;
        each_once = h.each_once;
        placed_order = order;
        unplaced_order = h.unplaced_order;
        no_memory = h.no_memory;
        stretch = stretch;
      }))
