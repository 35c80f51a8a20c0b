-- The names of the methods of the helper of arrays, which take the context as last parameter.
use Rattle.std.specs.Prelude.{◌++◌, codes}
use Rattle.jmodel.specs.declared.name.MethodName.{MethodName}
use Rattle.objects.specs.declared.op.WordType.{WordType}
use Rattle.objects.specs.semantics.WordTypes.{type_descriptor}
use Rattle.objects.specs.rewriting.Rewriting.{context_type, helper_class, helper_letter, array_type}

-- kaload([E I X)E
abbrev pub load_named : WordType → MethodName
load_named t = record {
  class = helper_class;
  name = helper_letter t ++ codes "aload";
  descriptor = codes "(" ++ array_type t ++ codes "I" ++ context_type ++ codes ")" ++ type_descriptor t;
}

-- kastore([E I E X)V
abbrev pub store_named : WordType → MethodName
store_named t = record {
  class = helper_class;
  name = helper_letter t ++ codes "astore";
  descriptor = codes "(" ++ array_type t ++ codes "I" ++ type_descriptor t ++ context_type ++ codes ")V";
}
