-- What was taken in so far is what the items so far show.
use Rattle.std.proofs.Common.{take, Contains}
use Rattle.deuce_io.specs.Files.{seen_items}
use Rattle.deuce.specs.Listing.{seen_texts, TakesIn}
use Rattle.deuce.proofs.listing.take_in.Given as goal

abbrev pub invariant-loop-item : goal.invariant-loop-item
invariant-loop-item l = TakesIn (Contains (take l.item-index (seen_items l.items))) l.front (seen_texts l.fn.classes.keys) (seen_texts l.classes.keys) (seen_texts l.folders.items)
