use Rattle.std.proofs.Common.{ℕ, List, sym, subst}
use Rattle.jmodel.specs.format.Instruction.{Holds}
use Rattle.bytecode.proofs.CodeLaws.{text_holds}
use Rattle.bytecode.proofs.encoding.encode.Goals as goal

pub returns-in-Ok-clause-held : goal.returns-in-Ok-clause-held
returns-in-Ok-clause-held c = λ h. subst (λ (b : List ℕ). Holds 0 b c.args.instrs.now) (sym c.in-Ok.ensures) (text_holds 0 c.args.instrs.now h)
