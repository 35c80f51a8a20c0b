-- What the entries of a constant pool mean.
use Rattle.std.specs.Prelude.{ℕ, zero, suc, List, [], Option, Some, None, slice_get, option_and_then}
use Rattle.jmodel.specs.declared.class_file.Constant.{Constant}
use Rattle.jmodel.specs.declared.class_file.Constant.TheVariants.{Utf8, Class, Text, Field, Method, InterfaceMethod, NameAndType}
use Rattle.jmodel.specs.format.ClassFile.{Pool}

-- the entry of an index
abbrev pub entry : Pool → ℕ → Option Constant
entry pool zero = None
entry pool (suc i) = slice_get pool i

abbrev pub text_in : Constant → Option (List ℕ)
text_in (Utf8 bytes) = Some bytes
text_in c = None

-- the bytes of a Utf8
abbrev pub utf8 : Pool → ℕ → Option (List ℕ)
utf8 pool i = option_and_then text_in (entry pool i)

abbrev pub name_in : Pool → Constant → Option (List ℕ)
name_in pool (Class name) = utf8 pool name
name_in pool c = None

-- the name of a Class
abbrev pub class_name : Pool → ℕ → Option (List ℕ)
class_name pool i = option_and_then (name_in pool) (entry pool i)

abbrev pub string_in : Pool → Constant → Option (List ℕ)
string_in pool (Text text) = utf8 pool text
string_in pool c = None

-- the text of a String
abbrev pub string : Pool → ℕ → Option (List ℕ)
string pool i = option_and_then (string_in pool) (entry pool i)

abbrev pub both : {A B : Type 0} → Option A → Option B → Option (A × B)
both (Some a) (Some b) = Some (a, b)
both a b = None

abbrev pub pair_in : Pool → Constant → Option (List ℕ × List ℕ)
pair_in pool (NameAndType name descriptor) = both (utf8 pool name) (utf8 pool descriptor)
pair_in pool c = None

-- the name and the descriptor of a NameAndType
abbrev pub pair : Pool → ℕ → Option (List ℕ × List ℕ)
pair pool i = option_and_then (pair_in pool) (entry pool i)

-- what a reference to a member says: the class, the name and the descriptor
pub record MemberName : Type 0 where
  pub class : List ℕ
  pub name : List ℕ
  pub descriptor : List ℕ

abbrev pub named : Option (List ℕ) → Option (List ℕ × List ℕ) → Option MemberName
named (Some class) (Some p) = Some (record { class = class; name = p.0; descriptor = p.1 })
named class p = None

abbrev pub member_in : Pool → Constant → Option MemberName
member_in pool (Field class p) = named (class_name pool class) (pair pool p)
member_in pool (Method class p) = named (class_name pool class) (pair pool p)
member_in pool (InterfaceMethod class p) = named (class_name pool class) (pair pool p)
member_in pool c = None

-- what a Fieldref, Methodref or InterfaceMethodref means
abbrev pub member_name : Pool → ℕ → Option MemberName
member_name pool i = option_and_then (member_in pool) (entry pool i)

-- the same of a Fieldref alone
abbrev pub field_in : Pool → Constant → Option MemberName
field_in pool (Field class p) = named (class_name pool class) (pair pool p)
field_in pool c = None

abbrev pub field_name : Pool → ℕ → Option MemberName
field_name pool i = option_and_then (field_in pool) (entry pool i)

-- the same of a Methodref alone
abbrev pub method_in : Pool → Constant → Option MemberName
method_in pool (Method class p) = named (class_name pool class) (pair pool p)
method_in pool c = None

abbrev pub method_name : Pool → ℕ → Option MemberName
method_name pool i = option_and_then (method_in pool) (entry pool i)

abbrev pub text_or_none : Option (List ℕ) → List ℕ
text_or_none None = []
text_or_none (Some t) = t
