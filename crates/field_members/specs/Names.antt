-- Names of the members that rewriting adds for fields (Korland, Shavit, Felber, MULTIPROG 2010, in this project's form).
use Rattle.std.specs.Prelude.{ℕ, List, [], ◌++◌, Option, Some, None, codes}
use Rattle.jmodel.specs.declared.name.MethodName.{MethodName}
use Rattle.objects.specs.semantics.Program.{Field}
use Rattle.objects.specs.rewriting.Rewriting.{context_type}

-- the field that holds a field's place as a constant
abbrev pub address_name : Field → List ℕ
address_name f = f.name ++ codes "__ADDRESS__"

-- the field that holds the object of a class's static fields, and its descriptor
abbrev pub base_name : List ℕ
base_name = codes "__CLASS_BASE__"

abbrev pub base_type : List ℕ
base_type = codes "Ljava/lang/Object;"

-- what stands for the object among the parameters of accessors: nothing for a static field
abbrev pub receiver_type : Field → List ℕ
receiver_type f = by f.base
  where
    by : Option ℕ → List ℕ
    by None = codes "L" ++ f.class ++ codes ";"
    by (Some o) = []

-- the accessors of a field
abbrev pub getter_named : Field → MethodName
getter_named f = record {
  class = f.class;
  name = f.name ++ codes "__Getter$";
  descriptor = codes "(" ++ receiver_type f ++ context_type ++ codes ")" ++ f.descriptor;
}

abbrev pub setter_named : Field → MethodName
setter_named f = record {
  class = f.class;
  name = f.name ++ codes "__Setter$";
  descriptor = codes "(" ++ receiver_type f ++ f.descriptor ++ context_type ++ codes ")V";
}
