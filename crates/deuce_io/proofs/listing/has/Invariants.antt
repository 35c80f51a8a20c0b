-- None of the items so far is it.
use Rattle.std.proofs.Common.{◌≢◌, ◌<◌, ℕ, Bool, List, get_or}
use Rattle.deuce_io.specs.Files.{seen_items}
use Rattle.deuce_io.proofs.listing.has.Given as goal

abbrev pub invariant-loop-item : goal.invariant-loop-item
invariant-loop-item l = (k : ℕ) → k < l.item-index → (d : List ℕ × Bool) → get_or (seen_items l.items) k d ≢ (l.name, l.folder)
