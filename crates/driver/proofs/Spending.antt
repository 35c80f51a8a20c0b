-- How many calls phases have.
use Rattle.std.proofs.Common.{◌≡◌, ◌<◌, ◌≤◌, ◌+◌, ◌*◌, ℕ, zero, suc, List, [], ◌∷◌, ◌++◌, length, get_or, take, map, sym, ap, ◌∙◌, refl, arith}
use Rattle.std.proofs.lemmas.List.{length-append}
use Rattle.jmodel.specs.history.Schedule.{Phase, ScriptPhase, lists_in, lane_calls, phase_calls, script_calls}
use Rattle.tx_table.specs.Book.{Book}
use Rattle.driver.specs.Passing.{call_count, HasRoom}
use Rattle.driver.proofs.More.{lanes_more}
use Rattle.driver.proofs.Places.{length_lane}

abbrev pub script_count : List ScriptPhase → ℕ
script_count [] = 0
script_count (p ∷ ps) = call_count (lists_in p) + script_count ps

pub script_more : (ps : List ScriptPhase) (p : ScriptPhase) → script_count (ps ++ p ∷ []) ≡ script_count ps + call_count (lists_in p)
script_more [] p = omega arith
script_more (q ∷ ps) p = let rest = script_more ps p in omega (arith, rest)

pub script_take : (n : ℕ) (ps : List ScriptPhase) → script_count (take n ps) ≤ script_count ps
script_take zero ps = omega arith
script_take (suc n) [] = omega arith
script_take (suc n) (p ∷ ps) = let rest = script_take n ps in omega (arith, rest)

length_phase : (phase lane : ℕ) (ls : Phase) → length (phase_calls phase lane ls) ≡ call_count ls
length_phase phase lane [] = refl
length_phase phase lane (cs ∷ ls) =
    let both = length-append (lane_calls phase lane 0 cs) (phase_calls phase (suc lane) ls) in
    let here = length_lane phase lane 0 cs in
    let rest = length_phase phase (suc lane) ls in
    omega (arith, both, here, rest)

pub length_script : (phase : ℕ) (ps : List ScriptPhase) → length (script_calls phase (map lists_in ps)) ≡ script_count ps
length_script phase [] = refl
length_script phase (p ∷ ps) =
    let both = length-append (phase_calls phase 0 (lists_in p)) (script_calls (suc phase) (map lists_in ps)) in
    let here = length_phase phase 0 (lists_in p) in
    let rest = length_script (suc phase) ps in
    omega (arith, both, here, rest)

-- the calls of phases up to one more
script_next : (n : ℕ) (ps : List ScriptPhase) (p : ScriptPhase) → n < length ps → p ≡ get_or ps n p
    → script_count (take (n + 1) ps) ≡ script_count (take n ps) + call_count (lists_in p)
script_next n ps p inside here = ap script_count (sym (lanes_more ps n p inside here)) ∙ script_more (take n ps) p

module _ (n : ℕ) (ps : List ScriptPhase) (p : ScriptPhase) (b : Book) (inside : n < length ps) (here : p ≡ get_or ps n p)
    (ticks : b.ticks ≤ script_count (take n ps) * 2000000) where
  -- there is room for a phase more
  pub room_for : length ps ≤ 10000 → length (script_calls 0 (map lists_in ps)) ≤ 100000 → 1048575 ≤ b.fresh + 16 * n → b.fresh ≤ 1048575
      → HasRoom (call_count (lists_in p)) b
  room_for phases calls fresh few =
      let next = script_next n ps p inside here in
      let some = script_take (n + 1) ps in
      let all = length_script 0 ps in
      record { fresh = omega arith; few = few; ticks = omega arith }

  -- and behind it the clock was moved as often as its calls say, too
  pub ticks_next : (v : Book) → v.ticks ≤ b.ticks + call_count (lists_in p) * 2000000 → v.ticks ≤ script_count (take (n + 1) ps) * 2000000
  ticks_next v moved = let next = script_next n ps p inside here in omega arith
