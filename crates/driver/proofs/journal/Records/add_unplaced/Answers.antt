use Rattle.std.specs.Vec.Iter.{into_iter_items}
use Rattle.std.specs.Iterator.Adapters.{zip_first, zip_second}
use Rattle.driver.proofs.Zipped.{joined_more, joined_all, zip_more, zip_end}
use Rattle.driver.proofs.journal.Records.add_unplaced.Goals as goal

pub returns-clause-unplaced : goal.returns-clause-unplaced
returns-clause-unplaced c =
    let s = c.loop-one.one-iterator in
    joined_all c.loop-one.self.unplaced.items _ (into_iter_items (zip_first s)) (into_iter_items (zip_second s)) c.loop-one.invariant.unplaced
    (zip_end s c.next.new.self c.next.result c.in-None.is c.next.ensures.steps)

pub loop-one-preserved : goal.loop-one-preserved
loop-one-preserved c =
    let s = c.loop-one.one-iterator in
    let t = c.next.new.self in
    let both = zip_more s t c.next.result c.in-Some.one c.in-Some.other c.in-Some.is c.next.ensures.steps in
    record {
      placed = c.loop-one.invariant.placed;
      unplaced = joined_more c.loop-one.self.unplaced.items c.append.new.self.items c.append-in-loop-one.new.self.items _
          (into_iter_items (zip_first s)) (into_iter_items (zip_first t)) (into_iter_items (zip_second s))
          (into_iter_items (zip_second t)) c.in-Some.one c.in-Some.other
          c.loop-one.invariant.unplaced both.0 both.1 c.in_ok-append.ensures.items c.in_ok-append-2.ensures.items;
    }
