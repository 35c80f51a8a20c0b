use Rattle.std.proofs.Common.{append_assoc, rules}
use Rattle.bankgen.proofs.figures.push_head.Goals as goal

pub returns : goal.returns
returns c = simp append_assoc (search rules)
