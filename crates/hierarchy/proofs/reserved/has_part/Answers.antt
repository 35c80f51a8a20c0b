use Rattle.std.proofs.Common.{◌∙◌, sym}
use Rattle.std.proofs.lemmas.List.{take_rest}
use Rattle.hierarchy.proofs.Parts.{has_part_after}
use Rattle.hierarchy.proofs.reserved.has_part.Goals as goal

pub loop-i-preserved : goal.loop-i-preserved
loop-i-preserved c = has_part_after c.args.part.now c.args.text.now c.loop-i.i c.loop-i-test.true (rw (← take_rest c.args.text.now c.loop-i.i) (sym c.starts_with.ensures.value ∙ c.if-starts_with.false)) ∙ c.loop-i.invariant
