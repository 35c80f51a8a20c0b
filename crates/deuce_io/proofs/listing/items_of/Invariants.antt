-- The items are those that the paths so far show.
use Rattle.std.proofs.Common.{map, string_bytes}
use Rattle.deuce_io.specs.Files.{seen_items}
use Rattle.deuce_io.proofs.Listed.{Listed}
use Rattle.deuce_io.proofs.listing.items_of.Given as goal

abbrev pub invariant-loop-path : goal.invariant-loop-path
invariant-loop-path l = Listed l.dir (map (λ path. string_bytes path.now) l.yielded) (seen_items l.items.items)
