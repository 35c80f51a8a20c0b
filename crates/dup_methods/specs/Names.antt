-- Names of the members that duplicates call (Korland, Shavit, Felber, MULTIPROG 2010, in this project's form).
use Rattle.std.specs.Prelude.{ℕ, List, [], ◌++◌, Option, Some, None, codes}
use Rattle.jmodel.specs.declared.name.MethodName.{MethodName}
use Rattle.jmodel.specs.format.Pool.{MemberName}
use Rattle.objects.specs.declared.op.WordType.{WordType}
use Rattle.objects.specs.semantics.Program.{Field}
use Rattle.objects.specs.rewriting.Rewriting.{context_type, helper_class, helper_letter, array_type, type_descriptor}

-- what stands for the object among the parameters of accessors: nothing for a static field
abbrev pub receiver_type : Field → List ℕ
receiver_type f = by f.base
  where
    by : Option ℕ → List ℕ
    by None = codes "L" ++ f.class ++ codes ";"
    by (Some o) = []

-- the accessors of a field
abbrev pub getter_named : Field → MethodName
getter_named f = record {
  class = f.class;
  name = f.name ++ codes "__Getter$";
  descriptor = codes "(" ++ receiver_type f ++ context_type ++ codes ")" ++ f.descriptor;
}

abbrev pub setter_named : Field → MethodName
setter_named f = record {
  class = f.class;
  name = f.name ++ codes "__Setter$";
  descriptor = codes "(" ++ receiver_type f ++ f.descriptor ++ context_type ++ codes ")V";
}

-- the methods of the helper of arrays that read and write an element
abbrev pub load_named : WordType → MethodName
load_named t = record {
  class = helper_class;
  name = helper_letter t ++ codes "aload";
  descriptor = codes "(" ++ array_type t ++ codes "I" ++ context_type ++ codes ")" ++ type_descriptor t;
}

abbrev pub store_named : WordType → MethodName
store_named t = record {
  class = helper_class;
  name = helper_letter t ++ codes "astore";
  descriptor = codes "(" ++ array_type t ++ codes "I" ++ type_descriptor t ++ context_type ++ codes ")V";
}

-- a method as an instruction names it
abbrev pub as_name : MemberName → MethodName
as_name n = record { class = n.class; name = n.name; descriptor = n.descriptor }
