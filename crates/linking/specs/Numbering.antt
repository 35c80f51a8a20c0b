-- The types, texts, fields and methods of a program by their names.
use Rattle.std.specs.Prelude.{ℕ, List, [], ◌∷◌, Bool, false, map, drop, ◌==◌, ◌&&◌, if◌then◌else◌, codes}
use Rattle.jmodel.specs.declared.name.MethodName.{MethodName}
use Rattle.jmodel.specs.format.ClassFile.{ClassFile}
use Rattle.objects.specs.semantics.Program.{Row, Field}
use Rattle.objects.specs.typing.TypeOrder.{is_array, is_ended, without_last}
use Rattle.objects.specs.linking.Decoding.{Symbols}
use Rattle.objects.specs.linking.Members.{own_name}
use Rattle.objects.specs.linking.Linking.{base_in}
use Rattle.hierarchy.specs.Names.{named, AreFirst}

-- what a program has, in the order of its numbers
pub record Numbered : Type 0 where
  pub types : List Row
  pub texts : List (List ℕ)
  pub fields : List Field
  pub methods : List MethodName

abbrev pub type_key : Row → MethodName
type_key r = named r.name [] []

abbrev pub text_key : List ℕ → MethodName
text_key t = named t [] []

abbrev pub field_key : Field → MethodName
field_key f = named f.class f.name f.descriptor

-- a class among others, of whose program these are the parts; the object of its static fields lies at base
abbrev pub symbols_for : List ClassFile → Numbered → ClassFile → ℕ → Symbols
symbols_for cs parts c base = record { class = c; classes = cs; types = parts.types; texts = parts.texts; fields = parts.fields; methods = parts.methods; base = base }

-- the same, where the objects of static fields lie as those of these originals
abbrev pub symbols_among : List ClassFile → Numbered → List ClassFile → ClassFile → Symbols
symbols_among cs parts originals c = symbols_for cs parts c (base_in originals (own_name c))

-- ---- array types by what anewarray names

-- a class's descriptor begins with L, 76
abbrev pub is_object : List ℕ → Bool
is_object [] = false
is_object (c ∷ d) = c == 76

-- what stands behind the bracket of an array's descriptor, by the name that anewarray has for it
abbrev pub element_key : List ℕ → MethodName
element_key d = if is_array d then named d (codes "[") [] else (if is_object d && is_ended (drop 1 d) then named (without_last (drop 1 d)) (codes "L") [] else named [] [] [])

abbrev pub array_key : Row → MethodName
array_key r = if is_array r.name then element_key (drop 1 r.name) else named [] [] []

-- the key of the array type that anewarray makes of a name
abbrev pub made_key : List ℕ → MethodName
made_key n = if is_array n then named n (codes "[") [] else named n (codes "L") []

-- numbers by names, of each of these parts
pub record AreNumbered (parts : Numbered) (types arrays texts fields methods : List (MethodName × ℕ)) : Type 0 where
  pub numbered_types : AreFirst types (map type_key parts.types)
  pub numbered_arrays : AreFirst arrays (map array_key parts.types)
  pub numbered_texts : AreFirst texts (map text_key parts.texts)
  pub numbered_fields : AreFirst fields (map field_key parts.fields)
  pub numbered_methods : AreFirst methods parts.methods
