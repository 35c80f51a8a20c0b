use Rattle.std.proofs.Common.{map, sym, ◌∙◌}
use Rattle.linking.proofs.Told.{has_pc}
use Rattle.runner.proofs.Lists.{some_not_none}
use Rattle.runner.proofs.faults.place_of.Goals as goal

pub unreachable-requires : goal.unreachable-requires
unreachable-requires c =
    let there = c.requires.there in
    let told = has_pc (map (λ k. k.now) c.args.classes.now) c.args.program.now c.requires.links c.args.method there.method there.there c.args.place there.inside in
    some_not_none told.0 (sym told.1 ∙ sym c.in_ok-pc.ensures ∙ c.in-None.is)
