use Rattle.rewritten_program.proofs.Folder.{heads_are}
use Rattle.rewritten_program.proofs.laws.heads_law.Goals as goal

pub returns : goal.returns
returns c = heads_are
