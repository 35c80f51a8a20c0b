use Rattle.std.proofs.lemmas.List.{map_more}
use Rattle.bytecode.specs.Places.{place_in}
use Rattle.bytecode.proofs.relocation.retarget_list.Goals as goal

pub loop-target-preserved : goal.loop-target-preserved
loop-target-preserved c =
    let more = map_more (place_in c.args.places.now) c.args.targets.now c.loop-target.target-index 0 c.loop-target-test.true in
    cc (c.in_ok-push.ensures.items)
