use Rattle.std.proofs.Common.{◌∙◌}
use Rattle.program_rewriter.proofs.Rests.{heap_rest}
use Rattle.program_rewriter.proofs.instructions.copy_unnamed.Goals as goal

pub returns-in_default : goal.returns-in_default
returns-in_default c = c.copy_jump.ensures ∙ heap_rest c.args.op.now c.in_default.not-GetStatic c.in_default.not-PutStatic c.in_default.not-New c.in_default.not-NewArray c.in_default.not-ArrayLength c.in_default.not-LoadElement c.in_default.not-StoreElement
