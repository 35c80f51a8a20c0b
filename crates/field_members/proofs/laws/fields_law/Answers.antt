use Rattle.field_members.proofs.FieldsAre.{fields_are}
use Rattle.field_members.proofs.laws.fields_law.Goals as goal

pub returns : goal.returns
returns c = fields_are
