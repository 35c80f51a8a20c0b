-- The calls of a script by phases and lanes, and in which orders a run may print them.
use Rattle.std.specs.Prelude.{◌≡◌, ◌<◌, ◌⊎◌, ℕ, suc, List, [], ◌∷◌, ◌++◌, length, min, map, Bool, true, false, nat_lt, AllPairs, IsPermutation}
use Rattle.std.specs.List.{AllByRecursion}
use Rattle.jmodel.specs.declared.value.Value.{Value}
use Rattle.jmodel.specs.declared.value.Answer.{Answer}
use Rattle.jmodel.specs.declared.value.Answer.TheVariants.{NoMemory}
use Rattle.jmodel.specs.history.History.{Call, first_by}

-- a call of a method by its number, with its arguments
pub record Known : Type 0 where
  pub method : ℕ
  pub args : List Value

-- what each lane calls in a phase. The lanes of a phase run side by side, the phases one after another.
abbrev pub Phase : Type 0
Phase = List (List Known)

-- a call by its place; lane k takes words from region k + 1
abbrev pub call_at : ℕ → ℕ → ℕ → Known → Call
call_at phase lane index c = record { phase = phase; lane = lane; index = index; method = c.method; args = c.args; region = suc lane }

-- the calls of a lane, from a place on
abbrev pub lane_calls : ℕ → ℕ → ℕ → List Known → List Call
lane_calls phase lane index [] = []
lane_calls phase lane index (c ∷ cs) = call_at phase lane index c ∷ lane_calls phase lane (suc index) cs

-- the calls of a phase, from a lane on
abbrev pub phase_calls : ℕ → ℕ → Phase → List Call
phase_calls phase lane [] = []
phase_calls phase lane (cs ∷ ls) = lane_calls phase lane 0 cs ++ phase_calls phase (suc lane) ls

-- the calls of a script, from a phase on
abbrev pub script_calls : ℕ → List Phase → List Call
script_calls phase [] = []
script_calls phase (ls ∷ ps) = phase_calls phase 0 ls ++ script_calls (suc phase) ps

-- A phase as a script has it: what each lane calls; or a bag, whose calls belong to no lane beforehand, with how many lanes the script has. Workers, as
-- many as the lesser of the lanes and the calls, each take the next call that is left, on a lane of their own.
pub data ScriptPhase : Type 0 where
  Lanes : Phase → ScriptPhase
  Bag : ℕ → List Known → ScriptPhase

-- the lists of calls of a phase: one for each lane, or that of the bag
abbrev pub lists_in : ScriptPhase → Phase
lists_in (Lanes ls) = ls
lists_in (Bag lanes cs) = cs ∷ []

-- the calls of a bag, from an index on, each on the lane of the worker that took it
abbrev pub bag_calls : ℕ → ℕ → List ℕ → List Known → List Call
bag_calls phase index [] cs = []
bag_calls phase index (lane ∷ takers) [] = []
bag_calls phase index (lane ∷ takers) (c ∷ cs) = call_at phase lane index c ∷ bag_calls phase (suc index) takers cs

-- these are the calls of a phase, each with its lane
abbrev pub AreDealt : ℕ → ScriptPhase → List Call → Type 0
AreDealt phase (Lanes ls) calls = calls ≡ phase_calls phase 0 ls
AreDealt phase (Bag lanes cs) calls =
    (takers : List ℕ) × (length takers ≡ length cs) × AllByRecursion (λ lane. lane < min lanes (length cs)) takers × (calls ≡ bag_calls phase 0 takers cs)

-- these are the calls of a script, each with its lane, from a phase on
abbrev pub AreScriptCalls : ℕ → List ScriptPhase → List Call → Type 0
AreScriptCalls phase [] calls = calls ≡ []
AreScriptCalls phase (p ∷ ps) calls =
    (first : List Call) × (rest : List Call) × AreDealt phase p first × AreScriptCalls (suc phase) ps rest × (calls ≡ first ++ rest)

-- a call that ran out of memory has no place in the history
abbrev pub is_memory : Answer → Bool
is_memory NoMemory = true
is_memory x = false

-- a call that was made, and how it ended
pub record Made : Type 0 where
  pub call : Call
  pub answer : Answer

abbrev pub call_of : Made → Call
call_of m = m.call

abbrev pub answer_of : Made → Answer
answer_of m = m.answer

-- One call may stand before another: it is of an earlier phase, or of the same, and then it is the earlier one of their lane, where
-- they have one.
abbrev pub MayPrecede : Call → Call → Type 0
MayPrecede c d = (c.phase < d.phase) ⊎ ((c.phase ≡ d.phase) × (c.lane ≡ d.lane → c.index < d.index))

-- by phase, lane and index
abbrev pub ascends : Call → Call → Bool
ascends c d = first_by c.phase d.phase (first_by c.lane d.lane (nat_lt c.index d.index))

-- Each call of a script stands once, among the placed calls or the unplaced ones. The placed ones keep the order of the phases and of
-- each lane; the unplaced ones ran out of memory, and stand by phase, lane and index.
pub record IsAccepted (phases : List ScriptPhase) (placed unplaced : List Made) : Type 0 where
  pub calls : List Call
  pub are_calls : AreScriptCalls 0 phases calls
  pub each_once : IsPermutation calls (map call_of (placed ++ unplaced))
  pub placed_order : AllPairs MayPrecede (map call_of placed)
  pub unplaced_order : AllPairs (λ c d. ascends c d ≡ true) (map call_of unplaced)
  pub no_memory : AllByRecursion (λ m. m.answer ≡ NoMemory) unplaced
