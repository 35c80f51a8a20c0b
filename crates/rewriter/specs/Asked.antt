-- What rewriting asks of classes and of their program.
use Rattle.std.specs.Prelude.{◌≡◌, ℕ, ◌+◌, ◌≤◌, ◌<◌, ◌^◌, List, length, Some, slice_get, slice_index}
use Rattle.std.specs.List.{AllByRecursion}
use Rattle.jmodel.specs.format.ClassFile.{Attribute, Member, ClassFile}
use Rattle.objects.specs.semantics.Program.{Method, Program, method_at}
use Rattle.objects.specs.typing.Source.{AreTypes}
use Rattle.objects.specs.typing.Typing.{Table}
use Rattle.dup_methods.specs.Limits.{AddsLittle}
use Rattle.program_typing.specs.Tables.{AreTables}
use Rattle.rewriter.specs.Part.{Share}

-- numbers below 256
abbrev pub AreBytes : List ℕ → Type 0
AreBytes bytes = (i : ℕ) → slice_index bytes i < 256

abbrev pub HasBytes : Member → Type 0
HasBytes m = AllByRecursion (λ (a : Attribute). AreBytes a.bytes) m.attributes

-- The attributes of a class's methods hold bytes, as in every class that is read from a file.
abbrev pub AreFiled : ClassFile → Type 0
AreFiled c = AllByRecursion HasBytes c.methods

-- A program whose methods can be duplicated, and a table for each of them.
pub record IsReady (P : Program) (Ts : List Table) : Type 0 where
  pub types : AreTypes P
  pub little : (m : ℕ) (k : Method) → method_at P m ≡ Some k → AllByRecursion AddsLittle k.ops
  pub tables : AreTables P Ts
  pub few : length P.methods < 2 ^ 32

-- The methods of a class's share are the program's, from its first on; each has its member, and each method of the class a flag.
pub record IsShare (P : Program) (c : ClassFile) (share : Share) : Type 0 where
  pub stands : (j : ℕ) (k : Method) → slice_get share.methods j ≡ Some k → method_at P (share.first + j) ≡ Some k
  pub members : length share.members ≡ length share.methods
  pub flags : length share.flags ≡ length c.methods
  pub inside : share.first + length share.methods ≤ length P.methods
  pub wrapper : share.wrapper ≤ share.first
