-- The accessors that are added to a class are those of its fields.
use Rattle.std.specs.Prelude.{◌≡◌, ℕ, suc, ◌<◌, List, [], ◌∷◌, length, drop, Some, Ok, false, codes}
use Rattle.jmodel.specs.declared.class_file.FieldType.{FieldType}
use Rattle.jmodel.specs.format.ClassFile.{ClassFile}
use Rattle.jmodel.specs.format.Pool.{MemberName}
use Rattle.jmodel.specs.format.Descriptor.{IsClassName, DescribesField}
use Rattle.objects.specs.linking.Each.{each}
use Rattle.objects.specs.linking.Members.{own_name}
use Rattle.jmodel.specs.format.PoolAdding.{IsLonger}
use Rattle.jmodel.specs.declared.value.Value.TheVariants.{Ref}
use Rattle.objects.specs.declared.op.Op.TheVariants.{Constant}
use Rattle.objects.specs.semantics.Program.{Field}
use Rattle.objects.specs.linking.Decoding.{Symbols, field_number, get_static_op}
use Rattle.objects.specs.linking.Layout.{class_read, declared_as}
use Rattle.objects.specs.rewriting.Rewriting.{distance, accessors}
use Rattle.member_code.specs.Meaning.{meaning}
use Rattle.field_members.specs.Names.{address_name, base_name, base_type}
use Rattle.field_members.specs.Accessors.{with_accessors}

-- how code names a field, its address and the static base of its class
abbrev pub member_of : Field → (name descriptor : List ℕ) → MemberName
member_of f name descriptor = record { class = f.class; name = name; descriptor = descriptor }

abbrev pub field_named : Field → MemberName
field_named f = member_of f f.name f.descriptor

abbrev pub address_named : Field → MemberName
address_named f = member_of f (address_name f) (codes "J")

abbrev pub base_named : Field → MemberName
base_named f = member_of f base_name base_type

-- What the symbols of a rewritten class say of a field of it, which has the number n: its name leads to it, its address and the static base are
-- constants, and its class and its type are read as its own.
pub record IsKnown (s : Symbols) (n : ℕ) (f : Field) : Type 0 where
  pub own : own_name s.class ≡ f.class
  pub class_named : IsClassName f.class
  pub class_same : class_read s.classes f.class ≡ f.class
  pub type : FieldType
  pub describes : DescribesField f.descriptor type
  pub declared : declared_as s.classes type ≡ f.declared
  pub number : field_number s (field_named f) ≡ Some n
  pub address : get_static_op s (address_named f) ≡ Some (distance f.index)
  pub base : (o : ℕ) → f.base ≡ Some o → get_static_op s (base_named f) ≡ Some (Constant (Ref o))

-- the same of fields, the first of which has the number n
abbrev pub AreKnown : Symbols → ℕ → List Field → Type 0
AreKnown s n [] = Unit {0}
AreKnown s n (f ∷ fs) = IsKnown s n f × AreKnown s (suc n) fs

-- With the symbols of a rewritten class, whose pool is that of the class with accessors and perhaps more, the methods that were added mean the accessors.
abbrev pub AccessorsLaw : Type 0
AccessorsLaw = (fs : List Field) (n : ℕ) (old new : ClassFile) (s : Symbols) → length old.pool < 65535 → with_accessors fs old ≡ Ok new → IsLonger new.pool s.class.pool → AreKnown s n fs
    → each (meaning s false) (drop (length old.methods) new.methods) ≡ Some (accessors n fs)
