-- Attempts of the tests.
use Rattle.std.specs.Prelude.{ℕ, List}
use Rattle.jmodel.specs.declared.access.Access.{Access}
use Rattle.jmodel.specs.history.Log.{Log}
use Rattle.jmodel.specs.history.History.{Entry}
use Rattle.tx_table.specs.declared.shared.Pass.{Pass}
use Rattle.tl2.specs.declared.attempt.At.{At}
use Rattle.lsa.specs.Standing.{StandsFor}

-- the engine stands for some history
abbrev pub StandsAnyhow : ℕ → At → List Access → Pass → Type 0
StandsAnyhow words at log p = (h : List Entry) × (n : ℕ) × (r : Log) × (w : Log) × StandsFor (λ _ _. ⊥) words at log p h n r w
