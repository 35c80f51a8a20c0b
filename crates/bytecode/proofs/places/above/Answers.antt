use Rattle.std.proofs.Common.{◌∙◌}
use Rattle.bytecode.proofs.BlockLaws.{above_last}
use Rattle.bytecode.proofs.places.above.Goals as goal

pub returns-in-Some : goal.returns-in-Some
returns-in-Some c = let item = c.in-Some.ensures.item in above_last c.args.blocks.now c.in-Some.b.now c.from.result c.requires (item.3.0) item.1 (c.from.ensures ∙ c.pc.ensures)
