-- The conflicts of an attempt.
use Rattle.std.specs.Prelude.{◌≡◌, ◌≢◌, ◌+◌, ◌*◌, ◌∷◌}
use Rattle.tx_core.specs.declared.engine.Conflict.{Conflict}
use Rattle.tx_table.specs.Book.{Book, Lost, lookup}
use Rattle.tx_table.specs.Plays.{used_in}
use Rattle.tx_table.specs.Steps.{IsPast}

-- what a book keeps of a conflict that its attempt met
abbrev pub lost_to : Book → Conflict → Lost
lost_to v e = record {
  call = v.call;
  used = used_in (lookup v.regions v.call.region);
  address = e.address;
  word = e.word;
  upto = e.upto;
  reads = v.reads;
}

-- The attempt of a book met a conflict: its bound is told, the word that was seen is held by another or has a version over the
-- bound, and the book then has this conflict and no other one more, with the attempt's reads as they were.
pub record Meets (v w : Book) (e : Conflict) : Type 0 where
  pub upto : e.upto ≡ v.bound
  pub past : IsPast v.bound e.word
  pub other : e.word ≢ 2 * v.face.number + 1
  pub kept : w.lost ≡ lost_to v e ∷ v.lost
  pub bound : w.bound ≡ v.bound
  pub reads : w.reads ≡ v.reads
