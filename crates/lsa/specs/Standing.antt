-- What an engine that takes stripes as it writes stands for.
use Rattle.std.specs.Prelude.{◌≡◌, ◌≢◌, ℕ, List}
use Rattle.atomic_table.specs.Seated.{TableId}
use Rattle.jmodel.specs.declared.access.Access.{Access}
use Rattle.jmodel.specs.history.Log.{Log}
use Rattle.jmodel.specs.history.History.{Entry}
use Rattle.tx_table.specs.Book.{Book}
use Rattle.tx_table.specs.declared.shared.Pass.{Pass}
use Rattle.tl2.specs.declared.attempt.At.{At}
use Rattle.tl2.specs.declared.attempt.At.TheVariants.{Outside}
use Rattle.tl2.specs.Standing.{Stands}

-- It stands for what an engine with these writes stands for, which are those of its log. Only where a write met a conflict has the log one more.
pub record StandsFor (began : TableId → Book → Type 0) (words : ℕ) (at : At) (log : List Access) (p : Pass)
    (h : List Entry) (n : ℕ) (r w : Log) : Type 0 where
  pub kept : List Access
  pub same : at ≢ Outside → kept ≡ log
  pub stands : Stands began words at kept p h n r w
