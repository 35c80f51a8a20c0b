-- The fields that rewriting adds to a class, with the entries that they name (JVM Specification, Java SE 7, sections 4.5 and 4.7.2).
use Rattle.std.specs.Prelude.{ℕ, ℤ, suc, List, [], ◌∷◌, ◌++◌, Result, Ok, Bool, true, false, ◌&&◌, not, codes}
use Rattle.std.specs.Int.{w64, cast_signed}
use Rattle.jmodel.specs.declared.refusal.Refusal.{Refusal}
use Rattle.jmodel.specs.format.ClassFile.{Attribute, Member, Pool, ClassFile}
use Rattle.objects.specs.linking.StaticBases.{has_base}
use Rattle.jmodel.specs.format.PoolAdding.{add_text, add_long}
use Rattle.jmodel.specs.format.Reading.{◌>>=◌}
use Rattle.objects.specs.semantics.Program.{Field}
use Rattle.objects.specs.linking.Resolution.{is_interface}
use Rattle.member_code.specs.Growing.{Growth, grow_from}
use Rattle.member_code.specs.Coding.{high, low, typed_name}
use Rattle.field_members.specs.Names.{address_name, base_name, base_type}

-- a public static final synthetic field
abbrev pub added_field : ℕ × ℕ → List Attribute → Member
added_field named attributes = record { flags = 0x1019; name = named.0; descriptor = named.1; attributes = attributes }

-- the attribute that gives a field its constant
unfoldable pub constant_value : ℤ → Pool → Growth Attribute
constant_value n pool = do
  named ← add_text pool (codes "ConstantValue")
  value ← add_long named.1 n
  Ok (record { name = named.0; bytes = high value.0 ∷ low value.0 ∷ [] }, value.1)

-- f__ADDRESS__ of type J, whose constant is the place of f: its distance from the header
unfoldable pub address_of : Field → Pool → Growth Member
address_of f pool = do
  named ← typed_name (address_name f) (codes "J") pool
  value ← constant_value (cast_signed w64 (suc f.index)) named.1
  Ok (added_field named.0 (value.0 ∷ []), value.1)

-- __CLASS_BASE__ of type Object, which the loader gives the object of the class's static fields
unfoldable pub static_base : Pool → Growth Member
static_base pool = do
  named ← typed_name base_name base_type pool
  Ok (added_field named.0 [], named.1)

-- a class that isn't an interface, and has a static field
abbrev pub needs_base : ClassFile → Bool
needs_base c = has_base c && not (is_interface c)

abbrev pub bases : Bool → Pool → Growth (List Member)
bases true pool = static_base pool >>= λ base. Ok (base.0 ∷ [], base.1)
bases false pool = Ok ([], pool)

-- an address for each of some fields, then the static base
unfoldable pub added_fields : List Field → Bool → Pool → Growth (List Member)
added_fields fs based pool = do
  addresses ← grow_from (λ n f. address_of f) 0 fs pool
  base ← bases based addresses.1
  Ok (addresses.0 ++ base.0, base.1)

abbrev pub and_fields : ClassFile → List Member → Pool → ClassFile
and_fields c fields pool = record c { pool = pool; fields = c.fields ++ fields }

-- A class with the fields that are added for its own, which are these.
abbrev pub with_fields : List Field → ClassFile → Result ClassFile Refusal
with_fields fs c = added_fields fs (needs_base c) c.pool >>= λ added. Ok (and_fields c added.0 added.1)
