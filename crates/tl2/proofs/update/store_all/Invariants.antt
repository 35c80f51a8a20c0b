use Rattle.std.proofs.Common.{◌≡◌, ◌<◌, ℕ}
use Rattle.tx_table.specs.Book.{Map, Has}
use Rattle.tx_table.specs.Passes.{book, IsSame}
use Rattle.tl2.specs.Commits.{stored}
use Rattle.tl2.specs.Plans.{IsListed}
use Rattle.tl2.proofs.Latest.{logged}
use Rattle.tl2.proofs.update.store_all.Given as goal

abbrev pub ghost-decide : goal.ghost-decide
ghost-decide g a = g.entry

abbrev pub invariant-loop-address : goal.invariant-loop-address
invariant-loop-address g l = record {
  same : IsSame l.fn.pass l.pass;
  stored : (left : Map ℕ) × IsListed left (logged l.address-iterator) × (book l.pass ≡ stored (book l.fn.pass) g.entry left);
  fits : (a : ℕ) → Has l.address-iterator a → a < l.shared.words;
}
