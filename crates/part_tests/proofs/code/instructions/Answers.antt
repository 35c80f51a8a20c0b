use Rattle.bytecode.proofs.CodeLaws.{found_instrs}
use Rattle.part_tests.proofs.code.instructions.Goals as goal

pub returns : goal.returns
returns c = found_instrs _ _ _ _ c.decode.ensures.found
