-- The conflicts of an attempt whose bound may move.
use Rattle.std.specs.Prelude.{◌≡◌, ◌≢◌, ◌≤◌, ◌+◌, ◌*◌, ◌∷◌}
use Rattle.tx_core.specs.declared.engine.Conflict.{Conflict}
use Rattle.tx_table.specs.Book.{Book}
use Rattle.tx_table.specs.Steps.{IsPast}
use Rattle.tl2.specs.Conflicts.{lost_to}

-- The attempt of a book met a conflict: the bound then is told, the word that was seen is held by another or has a version over that bound, and the
-- book then has this conflict and no other one more, with the attempt's reads as they were.
pub record Meets (v w : Book) (e : Conflict) : Type 0 where
  pub upto : e.upto ≡ w.bound
  pub past : IsPast w.bound e.word
  pub other : e.word ≢ 2 * v.face.number + 1
  pub kept : w.lost ≡ lost_to v e ∷ v.lost
  pub bound : v.bound ≤ w.bound
  pub reads : w.reads ≡ v.reads

-- All else is as before: no stripe was taken or given back.
pub record IsLost (v w : Book) (e : Conflict) : Type 0 where
  pub meets : Meets v w e
  pub face : w.face ≡ v.face
  pub numbers : w.numbers ≡ v.numbers
  pub fresh : w.fresh ≡ v.fresh
  pub begins : w.begins ≡ v.begins
  pub ticks : w.ticks ≡ v.ticks
  pub regions : w.regions ≡ v.regions
  pub entries : w.entries ≡ v.entries
  pub call : w.call ≡ v.call
  pub wants : w.wants ≡ v.wants
  pub seen : v.seen ≤ w.seen
