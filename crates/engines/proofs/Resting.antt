-- What an engine stands for says of its pass, whichever kind it is.
use Rattle.std.proofs.Common.{ℕ, List}
use Rattle.atomic_table.specs.Seated.{TableId}
use Rattle.jmodel.specs.declared.access.Access.{Access}
use Rattle.jmodel.specs.history.Log.{Log}
use Rattle.jmodel.specs.history.History.{Entry}
use Rattle.tx_table.specs.Book.{Book}
use Rattle.tx_table.specs.declared.shared.Pass.{Pass}
use Rattle.tl2.specs.declared.attempt.At.{At}
use Rattle.tl2.specs.Standing.{Stands}
use Rattle.lsa.specs.Standing.{StandsFor}
use Rattle.engines.specs.Chosen.{Rests}

pub rests_tl2 : (began : TableId → Book → Type 0) (words : ℕ) (at : At) (kept : List Access) (p : Pass) (h : List Entry) (n : ℕ) (r w : Log) → Stands began words at kept p h n r w → Rests began p h n
rests_tl2 began words at kept p h n r w s = record { entries = s.entries; lost = s.lost; keeps = s.keeps }

pub rests_lsa : (began : TableId → Book → Type 0) (words : ℕ) (at : At) (log : List Access) (p : Pass) (h : List Entry) (n : ℕ) (r w : Log) → StandsFor began words at log p h n r w → Rests began p h n
rests_lsa began words at log p h n r w s = rests_tl2 began words at s.kept p h n r w s.stands
