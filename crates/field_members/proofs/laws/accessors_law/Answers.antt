use Rattle.field_members.proofs.AccessorsAre.{accessors_are}
use Rattle.field_members.proofs.laws.accessors_law.Goals as goal

pub returns : goal.returns
returns c = accessors_are
