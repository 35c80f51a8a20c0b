-- The calls of a script by their places.
use Rattle.std.proofs.Common.{◌≡◌, ℕ, suc, ◌<◌, ◌≤◌, ◌+◌, List, [], ◌∷◌, ◌++◌, length, map, All, AllPairs, true, refl, sym, ◌∙◌, ap, subst, arith}
use Rattle.std.specs.List.{AllByRecursion}
use Rattle.std.proofs.lemmas.Bool.Decides.{nat_tests}
use Rattle.std.proofs.lemmas.List.{append_assoc, append-nil, length-append}
use Rattle.std.proofs.lemmas.List.Elements.{All-from_recursion, All-weaker, All-append, All-nil}
use Rattle.std.proofs.lemmas.List.Kept.{AllPairs-cons}
use Rattle.jmodel.specs.history.History.{Call}
use Rattle.jmodel.specs.history.Schedule.{Known, Phase, ScriptPhase, Lanes, Bag, call_at, lists_in, lane_calls, phase_calls, bag_calls, script_calls, AreDealt, AreScriptCalls, ascends}
use Rattle.driver.proofs.Lists.{pairs_nil, pairs_append}

-- a call of a lane, at a place from one on and before another
pub record IsOfLane (phase lane first end : ℕ) (c : Call) : Type 0 where
  pub of_phase : c.phase ≡ phase
  pub of_lane : c.lane ≡ lane
  pub from : first ≤ c.index
  pub below : c.index < end

pub lane_within : (phase lane first end index : ℕ) (cs : List Known) → first ≤ index → index + length cs ≤ end
    → AllByRecursion (IsOfLane phase lane first end) (lane_calls phase lane index cs)
lane_within phase lane first end index [] low high = tt
lane_within phase lane first end index (c ∷ cs) low high =
    (record { of_phase = refl; of_lane = refl; from = low; below = omega arith }, lane_within phase lane first end (suc index) cs (omega arith) (omega arith))

pub all_lane : (phase lane index : ℕ) (cs : List Known) → All (IsOfLane phase lane index (index + length cs)) (lane_calls phase lane index cs)
all_lane phase lane index cs =
    All-from_recursion (IsOfLane phase lane index (index + length cs)) (lane_calls phase lane index cs)
    (lane_within phase lane index (index + length cs) index cs (omega arith) (omega arith))

-- the calls of a lane stand in order
pub lane_pairs : (R : Call → Call → Type 0) → ((c d : Call) → c.phase ≡ d.phase → c.lane ≡ d.lane → c.index < d.index → R c d)
    → (phase lane index : ℕ) (cs : List Known) → AllPairs R (lane_calls phase lane index cs)
lane_pairs R may phase lane index [] = pairs_nil R
lane_pairs R may phase lane index (c ∷ cs) =
    let x = call_at phase lane index c in
    AllPairs-cons R x (lane_calls phase lane (suc index) cs)
    (All-weaker (IsOfLane phase lane (suc index) (suc index + length cs)) (R x) (λ d is. may x d (sym is.of_phase) (sym is.of_lane) (omega (arith, is.from)))
    (lane_calls phase lane (suc index) cs)
    (all_lane phase lane (suc index) cs))
    (lane_pairs R may phase lane (suc index) cs)

pub lane_append : (phase lane index : ℕ) (cs ds : List Known)
    → lane_calls phase lane index (cs ++ ds) ≡ lane_calls phase lane index cs ++ lane_calls phase lane (index + length cs) ds
lane_append phase lane index [] ds = let e : index ≡ index + 0 = omega arith in ap (λ i. lane_calls phase lane i ds) e
lane_append phase lane index (c ∷ cs) ds =
    let e : suc index + length cs ≡ index + suc (length cs) = omega arith in
    ap (λ l. call_at phase lane index c ∷ l) (lane_append phase lane (suc index) cs ds
    ∙ ap (λ i. lane_calls phase lane (suc index) cs ++ lane_calls phase lane i ds) e)

pub length_lane : (phase lane index : ℕ) (cs : List Known) → length (lane_calls phase lane index cs) ≡ length cs
length_lane phase lane index [] = refl
length_lane phase lane index (c ∷ cs) = ap suc (length_lane phase lane (suc index) cs)

-- a call of a phase, of a lane from one on
pub record IsOfPhase (phase lane : ℕ) (c : Call) : Type 0 where
  pub of_phase : c.phase ≡ phase
  pub from : lane ≤ c.lane

pub all_phase : (phase lane : ℕ) (ls : Phase) → All (IsOfPhase phase lane) (phase_calls phase lane ls)
all_phase phase lane [] = All-nil (IsOfPhase phase lane)
all_phase phase lane (cs ∷ ls) =
    All-append (IsOfPhase phase lane) (lane_calls phase lane 0 cs) (phase_calls phase (suc lane) ls)
    (All-weaker (IsOfLane phase lane 0 (0 + length cs)) (IsOfPhase phase lane) (λ c is. record { of_phase = is.of_phase; from = omega (arith, is.of_lane) })
    (lane_calls phase lane 0 cs) (all_lane phase lane 0 cs))
    (All-weaker (IsOfPhase phase (suc lane)) (IsOfPhase phase lane) (λ c is. record { of_phase = is.of_phase; from = omega (arith, is.from) })
    (phase_calls phase (suc lane) ls) (all_phase phase (suc lane) ls))

pub ascends_index : (c d : Call) → c.phase ≡ d.phase → c.lane ≡ d.lane → c.index < d.index → ascends c d ≡ true
ascends_index c d p l i = grind (arith, nat_tests)

pub ascends_lane : (c d : Call) → c.phase ≡ d.phase → c.lane < d.lane → ascends c d ≡ true
ascends_lane c d p l = grind (arith, nat_tests)

pub ascends_phase : (c d : Call) → c.phase < d.phase → ascends c d ≡ true
ascends_phase c d p = grind (arith, nat_tests)

-- the calls of a phase stand by lane and index
pub phase_pairs : (phase lane : ℕ) (ls : Phase) → AllPairs (λ c d. ascends c d ≡ true) (phase_calls phase lane ls)
phase_pairs phase lane [] = pairs_nil (λ c d. ascends c d ≡ true)
phase_pairs phase lane (cs ∷ ls) =
    pairs_append (λ c d. ascends c d ≡ true) (IsOfLane phase lane 0 (0 + length cs)) (IsOfPhase phase (suc lane))
    (λ c d p q. ascends_lane c d (p.of_phase ∙ sym q.of_phase) (omega (arith, p.of_lane, q.from)))
    (lane_calls phase lane 0 cs) (phase_calls phase (suc lane) ls)
    (lane_pairs (λ c d. ascends c d ≡ true) ascends_index phase lane 0 cs) (phase_pairs phase (suc lane) ls) (all_lane phase lane 0 cs)
    (all_phase phase (suc lane) ls)

-- a call of one of the phases before one
abbrev pub IsBefore : ℕ → Call → Type 0
IsBefore phase c = c.phase < phase

all_bag : (phase index : ℕ) (takers : List ℕ) (cs : List Known) → AllByRecursion (IsOfPhase phase 0) (bag_calls phase index takers cs)
all_bag phase index [] cs = tt
all_bag phase index (lane ∷ takers) [] = tt
all_bag phase index (lane ∷ takers) (c ∷ cs) = (record { of_phase = refl; from = omega arith }, all_bag phase (suc index) takers cs)

pub all_dealt : (phase : ℕ) (p : ScriptPhase) (cs : List Call) → AreDealt phase p cs → All (IsOfPhase phase 0) cs
all_dealt phase (Lanes ls) cs are = subst (All (IsOfPhase phase 0)) (sym are) (all_phase phase 0 ls)
all_dealt phase (Bag lanes ks) cs (takers, long, within, are) =
    subst (All (IsOfPhase phase 0)) (sym are) (All-from_recursion (IsOfPhase phase 0) (bag_calls phase 0 takers ks) (all_bag phase 0 takers ks))

pub all_script : (phase : ℕ) (ps : List ScriptPhase) (cs : List Call) → AreScriptCalls phase ps cs → All (IsBefore (phase + length ps)) cs
all_script phase [] cs are = subst (All (IsBefore (phase + 0))) (sym are) (All-nil (IsBefore (phase + 0)))
all_script phase (p ∷ ps) cs (first, rest, dealt, more, are) =
    let Now : ℕ → Type 0 = λ n. All (IsBefore n) rest in
    let e : suc phase + length ps ≡ phase + suc (length ps) = omega arith in
    subst (All (IsBefore (phase + suc (length ps)))) (sym are)
    (All-append (IsBefore (phase + suc (length ps))) first rest
    (All-weaker (IsOfPhase phase 0) (IsBefore (phase + suc (length ps))) (λ c is. omega (arith, is.of_phase)) first (all_dealt phase p first dealt))
    (subst Now e (all_script (suc phase) ps rest more)))

-- the calls of a phase more
pub script_append : (phase : ℕ) (ps : List ScriptPhase) (p : ScriptPhase) (cs ds : List Call) → AreScriptCalls phase ps cs → AreDealt (phase + length ps) p ds
    → AreScriptCalls phase (ps ++ p ∷ []) (cs ++ ds)
script_append phase [] p cs ds are dealt =
    let e : phase + 0 ≡ phase = omega arith in
    (ds, [], subst (λ n. AreDealt n p ds) e dealt, refl, ap (λ l. l ++ ds) are ∙ sym (append-nil ds))
script_append phase (q ∷ ps) p cs ds (first, rest, here, more, are) dealt =
    let e : phase + suc (length ps) ≡ suc phase + length ps = omega arith in (
      first,
      rest ++ ds,
      here,
      script_append (suc phase) ps p rest ds more (subst (λ n. AreDealt n p ds) e dealt),
      ap (λ l. l ++ ds) are ∙ append_assoc first rest ds,
    )

abbrev pub IsFew : List Known → Type 0
IsFew cs = length cs ≤ 100000

few_in_phase : (phase lane : ℕ) (ls : Phase) → length (phase_calls phase lane ls) ≤ 100000 → AllByRecursion IsFew ls
few_in_phase phase lane [] h = tt
few_in_phase phase lane (cs ∷ ls) h =
    let n = length-append (lane_calls phase lane 0 cs) (phase_calls phase (suc lane) ls) in
    (omega (arith, n, length_lane phase lane 0 cs), few_in_phase phase (suc lane) ls (omega (arith, n)))

-- where a script has few calls, so has each lane
pub few_in_script : (phase : ℕ) (ps : List Phase) → length (script_calls phase ps) ≤ 100000 → AllByRecursion (AllByRecursion IsFew) ps
few_in_script phase [] h = tt
few_in_script phase (ls ∷ ps) h =
    let n = length-append (phase_calls phase 0 ls) (script_calls (suc phase) ps) in
    (few_in_phase phase 0 ls (omega (arith, n)), few_in_script (suc phase) ps (omega (arith, n)))

pub few_in_phases : (ps : List ScriptPhase) → AllByRecursion (AllByRecursion IsFew) (map lists_in ps) → AllByRecursion (λ (p : ScriptPhase). AllByRecursion IsFew (lists_in p)) ps
few_in_phases [] h = tt
few_in_phases (p ∷ ps) h = (h.0, few_in_phases ps h.1)
