use Rattle.std.proofs.Common.{append_assoc, rules}
use Rattle.bankgen.proofs.script.push_transfer.Goals as goal

pub returns : goal.returns
returns c = simp append_assoc (search rules)
