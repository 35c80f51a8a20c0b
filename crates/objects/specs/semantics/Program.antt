-- Programs, with every name resolved (JVM Specification, Java SE 7, sections 5.3 and 5.4).
use Rattle.std.specs.Prelude.{ℕ, ℤ, zero, suc, ◌&&◌, List, [], ◌∷◌, Option, Some, None, Bool, true, false, slice_get, option_and_then, option_map, position, bytes_eq, if◌then◌else◌}
use Rattle.std.specs.List.{list_any}
use Rattle.jmodel.specs.declared.name.MethodName.{MethodName}
use Rattle.jmodel.specs.declared.typing.VType.{VType}
use Rattle.objects.specs.declared.op.Op.{Op}
use Rattle.objects.specs.declared.op.WordType.{WordType}
use Rattle.objects.specs.declared.op.Catch.{Catch}
use Rattle.objects.specs.declared.op.Dispatch.{Dispatch}
use Rattle.objects.specs.declared.op.Dispatch.TheVariants as dispatch

-- The type of a word as it is declared. Of a reference it has the class as typing reads it: an interface is Object there. An array has its descriptor.
pub record Declared : Type 0 where
  pub word : WordType
  pub class : List ℕ

-- What the objects of a type hold: the words of their fields, or elements that are all alike. What is stored in an array of references is an
-- instance of the type with the name.
pub data Holds : Type 0 where
  Words : (fields : List Declared) → Holds
  Elements : (declared : Declared) (name : List ℕ) → Holds

-- A type of objects: its name, its name as typing reads it, and what its objects hold. `lineage` has a class and those above it, the nearest first. It is
-- empty for an array, and for the static fields of a class. `instance_of` has each name that the type is an instance of, those of interfaces among them.
pub record Row : Type 0 where
  pub name : List ℕ
  pub read : List ℕ
  pub holds : Holds
  pub lineage : List (List ℕ)
  pub instance_of : List (List ℕ)

-- A field: its names and descriptor, the reference of its class's static fields where it is one of them, its place among the values of its object, and its type.
pub record Field : Type 0 where
  pub class : List ℕ
  pub name : List ℕ
  pub descriptor : List ℕ
  pub base : Option ℕ
  pub index : ℕ
  pub declared : Declared

pub record Method : Type 0 where
  pub name : MethodName
  pub dispatch : Dispatch
  -- the types of the places of its parameters, the object first, and how many they are
  pub parameters : List VType
  pub places : ℕ
  -- how many places all its locals have, and its operand stack at most
  pub locals : ℕ
  pub max_stack : ℕ
  -- the type of what it gives
  pub result : Option VType
  -- whether entering it is a turn, and its frames count
  pub counted : Bool
  -- how many attempts it may make, where it is marked or a static initialiser
  pub retries : Option ℤ
  pub ops : List Op
  pub catches : List Catch

-- Type t is row t - 1. The texts are the references of string constants.
pub record Program : Type 0 where
  pub types : List Row
  pub texts : List ℕ
  pub fields : List Field
  pub methods : List Method

abbrev pub method_at : Program → ℕ → Option Method
method_at P m = slice_get P.methods m

-- the instruction at a place
abbrev pub op_at : Program → ℕ → ℕ → Option Op
op_at P m pc = option_and_then (λ (k : Method). slice_get k.ops pc) (method_at P m)

abbrev pub is_counted_in : Option Method → Bool
is_counted_in None = false
is_counted_in (Some k) = k.counted

-- whether frames of a method count
abbrev pub is_counted : Program → ℕ → Bool
is_counted P m = is_counted_in (method_at P m)

abbrev pub field_at : Program → ℕ → Option Field
field_at P f = slice_get P.fields f

abbrev pub row_at : Program → ℕ → Option Row
row_at P zero = None
row_at P (suc t) = slice_get P.types t

-- the name of a type
abbrev pub name_at : Program → ℕ → Option (List ℕ)
name_at P t = option_map (λ (r : Row). r.name) (row_at P t)

abbrev pub is_instance_in : List ℕ → Option Row → Bool
is_instance_in name None = false
is_instance_in name (Some r) = list_any (bytes_eq name) r.instance_of

-- the run-time test: whether objects of a type are instances of a class, an interface or an array type
abbrev pub is_instance : Program → ℕ → List ℕ → Bool
is_instance P t name = is_instance_in name (row_at P t)

-- whether the class of an object has a part in which method runs
abbrev pub is_selectable : Dispatch → Bool
is_selectable dispatch.Virtual = true
is_selectable dispatch.Abstract = true
is_selectable d = false

-- Whether the class declares o, and calls of k by an object's class find it: o has k's name and descriptor.
abbrev pub overrides : Method → List ℕ → Method → Bool
overrides k class o = is_selectable o.dispatch && (bytes_eq o.name.class class && (bytes_eq o.name.name k.name.name && bytes_eq o.name.descriptor k.name.descriptor))

abbrev pub or_else : Option ℕ → Option ℕ → Option ℕ
or_else None o = o
or_else (Some m) o = Some m

-- the number of the first such method from a class upward
abbrev pub first_in : Program → Method → List (List ℕ) → Option ℕ
first_in P k [] = None
first_in P k (c ∷ cs) = or_else (position (overrides k c) P.methods) (first_in P k cs)

abbrev pub lineage_in : Option Row → List (List ℕ)
lineage_in None = []
lineage_in (Some r) = r.lineage

-- whether there are instructions
abbrev pub is_code : List Op → Bool
is_code [] = false
is_code (o ∷ os) = true

-- whether a method has code: one of any dispatch may have none
abbrev pub has_code : Option Method → Bool
has_code None = false
has_code (Some k) = is_code k.ops

-- a method that can run
abbrev pub runnable : Program → Option ℕ → Option ℕ
runnable P None = None
runnable P (Some m) = if has_code (method_at P m) then Some m else None

abbrev pub selected_by : Bool → Program → ℕ → ℕ → Method → Option ℕ
selected_by true P type m k = runnable P (first_in P k (lineage_in (row_at P type)))
selected_by false P type m k = runnable P (Some m)

-- The method that a call of method m runs over an object of a type: itself, where calls find it by its name; else the first from the object's class upward.
-- There is none where that one has no code (JVM Specification, Java SE 7, section 6.5, invokevirtual).
abbrev pub selected : Program → ℕ → ℕ → Option ℕ
selected P type m = option_and_then (λ (k : Method). selected_by (is_selectable k.dispatch) P type m k) (method_at P m)
