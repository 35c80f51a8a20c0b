-- Members as they are read.
use Rattle.std.specs.Prelude.{ℕ, List, Result, Err}
use Rattle.jmodel.specs.declared.refusal.Refusal.{Refusal}
use Rattle.jmodel.specs.format.ClassFile.{Member, Pool}
use Rattle.jmodel.specs.format.ClassFileReading.{MemberHead as Form, field_at, method_at}
use Rattle.class_reader.specs.declared.members.MemberHead.{MemberHead}
use Rattle.class_reader.specs.declared.lists.MemberKind.{MemberKind}
use Rattle.class_reader.specs.declared.lists.MemberKind.TheVariants.{Field, Method}

abbrev pub head_of : MemberHead → Form
head_of h = record { flags = h.flags; name = h.name; descriptor = h.descriptor }

-- a reading that is refused
abbrev pub no_method : Refusal → Result (Unit {0}) Refusal
no_method r = Err r

-- how a member is read
abbrev pub read_as : MemberKind → Pool → List ℕ → ℕ → Result (Member × ℕ) Refusal
read_as Field = field_at
read_as Method = method_at
