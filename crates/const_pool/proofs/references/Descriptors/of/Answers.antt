use Rattle.std.proofs.lemmas.List.{map_more}
use Rattle.const_pool.specs.Uses.{use_of}
use Rattle.const_pool.proofs.references.Descriptors.of.Goals as goal

pub loop-entry-preserved : goal.loop-entry-preserved
loop-entry-preserved c =
    let more = map_more use_of c.entries-entry-items.result.now c.loop-entry.entry-index c.entry-item.result c.loop-entry-test.true in
    cc (c.in_ok-push.ensures.items)
