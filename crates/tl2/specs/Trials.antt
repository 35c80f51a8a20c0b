-- Attempts of the tests, each of which adds one to a word.
use Rattle.std.specs.Prelude.{◌≡◌, ◌≤◌, ◌==◌, ℕ, zero, suc, Bool, List, [], ◌∷◌}
use mathlib.Core.Option.{some}
use Rattle.jmodel.specs.declared.access.Access.{Access}
use Rattle.jmodel.specs.history.Log.{Log}
use Rattle.jmodel.specs.history.History.{Entry}
use Rattle.atomic_table.specs.Seated.{TableId}
use Rattle.tx_table.specs.Book.{Map, Book, Region, Unticked, lookup}
use Rattle.tx_table.specs.declared.shared.Pass.{Pass}
use Rattle.tx_table.specs.Passes.{book, IsOf}
use Rattle.tx_table.specs.Trials.{Before}
use Rattle.tl2.specs.declared.attempt.At.{At}
use Rattle.tl2.specs.Standing.{Stands}

-- the engine stands for some history
abbrev pub StandsSomehow : ℕ → At → List Access → Pass → Type 0
StandsSomehow words at kept p = (h : List Entry) × (n : ℕ) × (r : Log) × (w : Log) × Stands (λ _ _. ⊥) words at kept p h n r w

-- the pass holds the lane's region, of which no word is used and whose last call is one before the n-th
abbrev pub IsWaiting : ℕ → ℕ → Book → Type 0
IsWaiting lane n b = (g : Region) × (lookup b.regions (suc lane) ≡ some g) × (g.used ≡ 0) × Before lane n g.last

-- the regions below n, of which no word is used
abbrev pub regions_below : ℕ → Map ℕ
regions_below zero = []
regions_below (suc n) = (n, 0) ∷ regions_below n

-- the region of a lane
abbrev pub of_lane : ℕ → ℕ → Bool
of_lane lane r = r == suc lane

-- a pass of one number that a lane starts with
pub record IsStarting (t : TableId) (lane : ℕ) (p : Pass) : Type 0 where
  pub table : IsOf t p
  pub free : ((book p).face.held ≡ []) × ((book p).face.stage ≡ Unticked)
  pub waits : IsWaiting lane 0 (book p)
  pub ticks : (book p).ticks ≡ 0
  pub numbers : ((book p).numbers ≡ 1) × ((book p).fresh ≡ 0)

-- and one that it ends with
pub record IsEnding (t : TableId) (p : Pass) : Type 0 where
  pub table : IsOf t p
  pub free : ((book p).face.held ≡ []) × ((book p).face.stage ≡ Unticked)
  pub ticks : (book p).ticks ≤ 100000000
  pub numbers : ((book p).numbers ≡ 1) × ((book p).fresh ≡ 0)
