use Rattle.std.proofs.lemmas.List.{map_more}
use Rattle.const_pool.specs.Places.{entry_places}
use Rattle.const_pool.proofs.places.Places.of.Goals as goal

pub loop-entry-preserved : goal.loop-entry-preserved
loop-entry-preserved c =
    let more = map_more entry_places c.args.entries.now c.loop-entry.entry-index c.entry-item.result c.loop-entry-test.true in
    cc (c.in_ok-push.ensures.items)
