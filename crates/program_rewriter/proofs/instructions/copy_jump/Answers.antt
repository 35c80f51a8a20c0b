use Rattle.std.proofs.Common.{◌∙◌}
use Rattle.program_rewriter.proofs.Rests.{jump_rest}
use Rattle.program_rewriter.proofs.instructions.copy_jump.Goals as goal

pub returns-in_default : goal.returns-in_default
returns-in_default c = c.copy_in_frame.ensures ∙ jump_rest c.args.op.now c.in_default.not-Branch c.in_default.not-BranchInts c.in_default.not-BranchNull c.in_default.not-BranchReferences c.in_default.not-Goto c.in_default.not-InvokeStatic c.in_default.not-InvokeSpecial c.in_default.not-ReturnValue
