-- The calls of a bag, by the workers that took them.
use Rattle.std.specs.Prelude.{◌≡◌, ◌<◌, ℕ, List, [], ◌++◌, length, map, filter, nat_lt, IsPermutation, slice_index, slice_index_or}
use Rattle.std.specs.List.{AllByRecursion, flat_map}
use Rattle.std.specs.Global.{Global}
use Rattle.std.specs.declared.vec.Vec.{Vec}
use Rattle.jmodel.specs.history.History.{Call, Told}
use Rattle.jmodel.specs.history.Schedule.{Known, Phase}
use Rattle.claims.specs.Claims.{Claims, Ascends, below}
use Rattle.session.specs.declared.record.Record.{Record}
use Rattle.session.specs.Claimed.{calls_at}

-- the indexes that each worker took
abbrev pub lists : List (Vec ℕ Global) → List (List ℕ)
lists vs = map (λ (v : Vec ℕ Global). v.items) vs

-- the calls of a bag as those of lanes, by the indexes that each worker took
abbrev pub as_lanes : List Known → List (List ℕ) → Phase
as_lanes calls taken = map (calls_at calls) taken

-- Workers took the calls of a bag of n: each index once, and each worker in ascending order.
pub record AreTaken (n : ℕ) (taken : List (List ℕ)) : Type 0 where
  pub ascending : AllByRecursion Ascends taken
  pub each_once : IsPermutation (flat_map (λ indexes. indexes) taken) (below n)

-- the index in the bag of the call that a worker took as its k-th
abbrev pub index_in : List (List ℕ) → ℕ → ℕ → ℕ
index_in taken lane k = slice_index (slice_index_or taken lane []) k

-- it took more than k calls
abbrev pub IsTaken : List (List ℕ) → ℕ → ℕ → Type 0
IsTaken taken lane k = (lane < length taken) × (k < length (slice_index_or taken lane []))

-- a call by its index in the bag
abbrev pub in_bag : List (List ℕ) → Call → Call
in_bag taken c = record c { index = index_in taken c.lane c.index }

abbrev pub told_in_bag : List (List ℕ) → Told → Told
told_in_bag taken t = record t { call = in_bag taken t.call }

abbrev pub numbered : List (List ℕ) → Record → Record
numbered taken r = record r { index = index_in taken r.lane r.index }

-- the record is of a call that a worker took
abbrev pub IsOfWorker : List (List ℕ) → Record → Type 0
IsOfWorker taken r = IsTaken taken r.lane r.index

-- after what had been claimed of a bag of n, these were the indexes that were left
abbrev pub IsRest : ℕ → Claims → List ℕ → Type 0
IsRest n claims rest = filter (λ i. nat_lt i n) claims.indexes ++ rest ≡ below n
