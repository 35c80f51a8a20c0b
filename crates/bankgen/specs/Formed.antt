-- What a class must be so that it can be written, linked and rewritten.
use Rattle.std.specs.Prelude.{ℕ, ◌<◌, List, slice_index}
use Rattle.std.specs.List.{AllByRecursion}
use Rattle.jmodel.specs.format.ClassFile.{Attribute, Member, ClassFile}
use Rattle.jmodel.specs.format.ClassRules.{IsClassFile}

-- the attributes of its methods hold bytes, numbers below 256
abbrev pub HasBytes : Member → Type 0
HasBytes m = AllByRecursion (λ (a : Attribute). (i : ℕ) → slice_index a.bytes i < 256) m.attributes

abbrev pub HoldsBytes : ClassFile → Type 0
HoldsBytes c = AllByRecursion HasBytes c.methods

-- classes that keep the rules of class files and whose methods hold bytes
pub record AreFormed (cs : List ClassFile) : Type 0 where
  pub form : AllByRecursion IsClassFile cs
  pub filed : AllByRecursion HoldsBytes cs
