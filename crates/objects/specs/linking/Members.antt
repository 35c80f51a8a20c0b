-- Names of classes and their members (JVM Specification, Java SE 7, sections 4.5 and 4.6).
use Rattle.std.specs.Prelude.{ℕ, List, [], ◌∷◌, Bool, ◌&&◌, bytes_eq, filter, not, ◌==◌, bit_and, true}
use Rattle.std.specs.List.{list_any}
use Rattle.jmodel.specs.format.ClassFile.{Member, Pool, ClassFile}
use Rattle.jmodel.specs.format.Pool.{utf8, class_name, text_or_none}
use Rattle.jmodel.specs.format.ClassRules.{same_text}
use Rattle.jmodel.specs.declared.name.MethodName.{MethodName}

abbrev pub own_name : ClassFile → List ℕ
own_name c = text_or_none (class_name c.pool c.this_class)

abbrev pub is_member : Pool → List ℕ → List ℕ → Member → Bool
is_member pool name descriptor m = same_text (utf8 pool m.name) name && same_text (utf8 pool m.descriptor) descriptor

-- the flag 0008
abbrev pub is_static : Member → Bool
is_static m = not (bit_and m.flags 8 == 0)

abbrev pub statics : ClassFile → List Member
statics c = filter is_static c.fields

abbrev pub name_of : ClassFile → Member → MethodName
name_of c m = record { class = own_name c; name = text_or_none (utf8 c.pool m.name); descriptor = text_or_none (utf8 c.pool m.descriptor) }

abbrev pub field_name_of : Pool → Member → List ℕ
field_name_of pool m = text_or_none (utf8 pool m.name)

abbrev pub descriptor_of : Pool → Member → List ℕ
descriptor_of pool m = text_or_none (utf8 pool m.descriptor)

abbrev pub is_name : MethodName → MethodName → Bool
is_name n k = bytes_eq n.name k.name && bytes_eq n.descriptor k.descriptor && bytes_eq n.class k.class

abbrev pub are_distinct : List (List ℕ) → Bool
are_distinct [] = true
are_distinct (text ∷ texts) = not (list_any (bytes_eq text) texts) && are_distinct texts
