use Rattle.std.proofs.Common.{◌∙◌}
use Rattle.program_rewriter.proofs.Rests.{owned_rest}
use Rattle.program_rewriter.proofs.instructions.copy_any.Goals as goal

pub returns-in_default : goal.returns-in_default
returns-in_default c = c.copy_unnamed.ensures ∙ owned_rest c.args.op.now c.in_default.not-Switch c.in_default.not-GetField c.in_default.not-PutField c.in_default.not-InvokeVirtual c.in_default.not-InvokeInterface c.in_default.not-InitLibrary c.in_default.not-CheckCast c.in_default.not-InstanceOf
