-- In rewritten code, a read of an added field is a constant.
use Rattle.std.specs.Prelude.{◌≡◌, ◌≢◌, ℕ, ◌<◌, List, [], ◌∷◌, ◌++◌, length, Some, Ok, false}
use Rattle.std.specs.List.{AllByRecursion}
use Rattle.jmodel.specs.format.ClassFile.{Member, Pool, ClassFile}
use Rattle.jmodel.specs.format.Pool.{utf8}
use Rattle.objects.specs.linking.Members.{own_name}
use Rattle.jmodel.specs.format.PoolAdding.{IsLonger}
use Rattle.jmodel.specs.declared.value.Value.TheVariants.{Ref}
use Rattle.objects.specs.declared.op.Op.TheVariants.{Constant}
use Rattle.objects.specs.semantics.Program.{Field}
use Rattle.objects.specs.linking.Decoding.{Symbols, get_static_op}
use Rattle.objects.specs.linking.Reserved.{is_reserved}
use Rattle.objects.specs.rewriting.Rewriting.{distance}
use Rattle.field_members.specs.Fields.{with_fields}
use Rattle.field_members.specs.AccessorsLaw.{address_named, base_named}

-- a field of a class file whose name has no part that rewriting keeps for itself
abbrev pub IsUnreserved : Pool → Member → Type 0
IsUnreserved pool m = (name : List ℕ) × (utf8 pool m.name ≡ Some name) × (is_reserved name ≡ false)

-- no two of one name
abbrev pub AreApart : List Field → Type 0
AreApart [] = Unit {0}
AreApart (f ∷ fs) = AllByRecursion (λ (g : Field). f.name ≢ g.name) fs × AreApart fs

-- Fields of a class, no two of one name. Neither they, nor others of the program, nor those of the class's file have a reserved name.
pub record AreOrdinary (s : Symbols) (old : ClassFile) (fs : List Field) : Type 0 where
  pub members : AllByRecursion (IsUnreserved old.pool) old.fields
  pub all : AllByRecursion (λ (f : Field). is_reserved f.name ≡ false) s.fields
  pub own : AllByRecursion (λ (f : Field). own_name s.class ≡ f.class) fs
  pub apart : AreApart fs

-- a class that has the pool and the fields of another first
pub record Begins (new : ClassFile) (later : ClassFile) : Type 0 where
  pub pool : IsLonger new.pool later.pool
  pub fields : (more : List Member) × (later.fields ≡ new.fields ++ more)

-- The address of a field is its distance from the header, and the static base is the object of the class's static fields.
pub record AreConstants (s : Symbols) (fs : List Field) : Type 0 where
  pub addresses : AllByRecursion (λ (f : Field). get_static_op s (address_named f) ≡ Some (distance f.index)) fs
  pub bases : AllByRecursion (λ (f : Field). get_static_op s (base_named f) ≡ Some (Constant (Ref s.base))) fs

abbrev pub FieldsLaw : Type 0
FieldsLaw = (fs : List Field) (old new : ClassFile) (s : Symbols) → length old.pool < 65535 → with_fields fs old ≡ Ok new → Begins new s.class → AreOrdinary s old fs → AreConstants s fs
