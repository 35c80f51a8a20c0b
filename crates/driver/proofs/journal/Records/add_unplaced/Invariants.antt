use Rattle.std.proofs.Common.{◌≡◌, ◌++◌}
use Rattle.std.specs.Vec.Iter.{into_iter_items}
use Rattle.std.specs.Iterator.Adapters.{zip_first, zip_second}
use Rattle.driver.specs.Sides.{unplaced_of, joined}
use Rattle.driver.proofs.journal.Records.add_unplaced.Given as goal

abbrev pub invariant-loop-one : goal.invariant-loop-one
invariant-loop-one l = record {
  placed : l.self.placed.items ≡ l.fn.self.placed.items;
  unplaced : l.self.unplaced.items ++ joined (unplaced_of (into_iter_items (zip_first l.one-iterator))) (unplaced_of (into_iter_items (zip_second l.one-iterator)))
      ≡ l.fn.self.unplaced.items ++ joined (unplaced_of l.fn.first_parts.items) (unplaced_of l.fn.rest_parts.items);
}
