use Rattle.dup_methods.proofs.MembersProof.{members_are}
use Rattle.dup_methods.proofs.laws.duplicate_law.Goals as goal

pub returns : goal.returns
returns c = members_are
