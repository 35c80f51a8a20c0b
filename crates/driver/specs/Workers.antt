-- The workers of a bag, before and after.
use Rattle.std.specs.Prelude.{◌≡◌, ◌<◌, ◌+◌, ℕ, List, ◌≤◌, ◌*◌, length, slice_index_or, filter, nat_lt, Result, IfOk, IsPermutation}
use Rattle.std.specs.List.{AllByRecursion, flat_map}
use Rattle.std.specs.declared.alloc.AllocError.{AllocError}
use Rattle.atomic_table.specs.Seated.{TableId}
use Rattle.jmodel.specs.history.Schedule.{Known}
use Rattle.claims.specs.Claims.{Claims, Ascends, IsGathered, goes}
use Rattle.claims.specs.Passes.{claims_of, IsOf}
use Rattle.claims.specs.declared.bag.Bag.{Bag}
use Rattle.claims.specs.declared.bag.BagPass.{BagPass}
use Rattle.session.specs.declared.claimed.Taken.{Taken}
use Rattle.session.specs.Claimed.{calls_at, HasTaken}
use Rattle.driver.specs.declared.workers.Worker.{Worker}
use Rattle.session.specs.declared.record.Lane.{Lane}
use Rattle.tx_table.specs.declared.shared.Pass.{Pass}
use Rattle.tx_table.specs.Passes.{book}
use Rattle.driver.specs.Passing.{used_of, first_of, IsOfOne, HasEnded, HaveEnded}
use Rattle.driver.specs.Bags.{as_lanes}

-- a pass that claimed nothing, for a worker of a bag of n
abbrev pub MayClaim : Bag → ℕ → BagPass → Type 0
MayClaim b n p = IsOf b p × (claims_of p ≡ goes (n + 1))

-- the workers by number, each with a pass of its own and claims of its own
abbrev pub AreWorkers : TableId → ℕ → ℕ → Bag → ℕ → List Worker → Type 0
AreWorkers t seen phase b n workers = (i : ℕ) (w : Worker) → i < length workers
    → ((slice_index_or workers i w).start.lane ≡ i) × ((slice_index_or workers i w).start.used ≡ used_of (book (slice_index_or workers i w).start.pass) i)
    × IsOfOne t seen (first_of phase i) (slice_index_or workers i w).start.pass
    × MayClaim b n (slice_index_or workers i w).claims

-- a worker's calls were claimed and made, and added entries to its pass
pub record HasWorked (t : TableId) (seen : ℕ) (b : Bag) (phase lane : ℕ) (calls : List Known) (end : Taken × BagPass) : Type 0 where
  pub ended : HasEnded t seen phase lane (calls_at calls end.0.indexes.items) (end.0.lane, end.0.pass)
  pub bag : IsOf b end.1
  pub taken : HasTaken (length calls) (claims_of end.1) end.0.indexes.items

-- each worker has ended, or there was no memory for it
pub record HaveWorked (t : TableId) (seen : ℕ) (b : Bag) (phase : ℕ) (calls : List Known) (count : ℕ) (ends : List (Result (Taken × BagPass) AllocError)) : Type 0 where
  pub len : length ends ≡ count
  pub each : (i : ℕ) (e : Result (Taken × BagPass) AllocError) → i < length ends → IfOk (slice_index_or ends i e) (HasWorked t seen b phase i calls)

-- How the lanes of workers ended, what they took, and a pass to which theirs were joined.
pub record AreCollected (t : TableId) (seen phase : ℕ) (calls : List Known) (count : ℕ) (v : Claims) (taken : List (List ℕ)) (ends : List (Result (Lane × Pass) AllocError)) : Type 0 where
  pub len : length taken ≡ count
  pub gathered : IsGathered v
  pub few : length v.indexes ≤ count * (length calls + 1)
  pub ascending : AllByRecursion Ascends taken
  pub same : IsPermutation (filter (λ i. nat_lt i (length calls)) v.indexes) (flat_map (λ indexes. indexes) taken)
  pub ended : HaveEnded t seen phase (as_lanes calls taken) ends
