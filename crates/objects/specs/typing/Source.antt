-- Programs that are rewritten: what linking makes of class files keeps these rules.
use Rattle.std.specs.Prelude.{◌≡◌, ◌≢◌, ℕ, ◌+◌, ◌<◌, ◌≤◌, ◌^◌, List, [], ◌∷◌, ◌++◌, ◌⊎◌, length, Option, Some, None, Bool, true, false, slice_get, find, bytes_eq, codes, FitsSigned, ℤ}
use Rattle.std.specs.List.{AllByRecursion}
use Rattle.std.specs.Int.{w32, w64}
use Rattle.jmodel.specs.declared.value.Value.{Value}
use Rattle.jmodel.specs.declared.value.Value.TheVariants.{Int}
use Rattle.jmodel.specs.declared.value.Value.TheVariants as value
use Rattle.jmodel.specs.declared.typing.VType.{VType}
use Rattle.jmodel.specs.declared.typing.VType.TheVariants as type
use Rattle.objects.specs.declared.op.Trap.{Trap}
use Rattle.objects.specs.declared.op.WordType.{WordType}
use Rattle.objects.specs.declared.op.WordType.TheVariants as word
use Rattle.objects.specs.declared.op.Dispatch.{Dispatch}
use Rattle.objects.specs.declared.op.Dispatch.TheVariants as dispatch
use Rattle.objects.specs.declared.op.Op.{Op}
use Rattle.objects.specs.declared.op.Op.TheVariants as op
use Rattle.objects.specs.declared.op.Catch.{Catch}
use Rattle.objects.specs.declared.op.Catches.{Catches}
use Rattle.objects.specs.declared.op.Catches.TheVariants.{Conflict}
use Rattle.objects.specs.semantics.WordTypes.{type_descriptor}
use Rattle.objects.specs.linking.Library.{trap_type}
use Rattle.objects.specs.semantics.Program.{Declared, Holds, Words, Elements, Row, Field, Method, Program, method_at, field_at, row_at, is_instance}
use Rattle.objects.specs.typing.TypeOrder.{object_class, throwable_class, string_class, context_class, conflict_classes, is_array, is_class_name, from_class, classes_from, IsWithin, name_read, descriptor_of}
use Rattle.objects.specs.typing.Typing.{is_constructor, arguments, results}
use Rattle.objects.specs.rewriting.Rewriting.{with_context}

-- ---- types as typing reads them

-- the name of a class or an array as typing reads it, which is at most itself and Object
pub record IsReadName (P : Program) (n : List ℕ) : Type 0 where
  pub itself : IsWithin P (type.Ref n) (type.Ref n)
  pub top : IsWithin P (type.Ref n) (type.Ref object_class)
  pub read : name_read P n ≡ n

-- the name in a type, where there is one, is such
abbrev pub IsReadType : Program → VType → Type 0
IsReadType P (type.Ref n) = IsReadName P n
IsReadType P t = Unit {0}

-- so is the class of a word, where it is a reference
abbrev pub IsReadWord : Program → WordType → List ℕ → Type 0
IsReadWord P word.Reference c = IsReadName P c
IsReadWord P w c = Unit {0}

-- a name of a class or an array that is at most itself; an array's is as typing reads it
pub record IsKnownName (P : Program) (n : List ℕ) : Type 0 where
  pub itself : IsWithin P (type.Ref n) (type.Ref n)
  pub array : is_array n ≡ true → name_read P n ≡ n

-- the name in a type, where there is one, is known
abbrev pub IsKnownType : Program → VType → Type 0
IsKnownType P (type.Ref n) = IsKnownName P n
IsKnownType P t = Unit {0}

-- ---- types of objects

-- A class stands right under another class of the program, whose words come first in its objects.
pub record IsUnder (P : Program) (r : Row) (words : List Declared) : Type 0 where
  pub number : ℕ
  pub upper : Row
  pub upper_words : List Declared
  pub own : List Declared
  pub is : row_at P number ≡ Some upper
  pub class : upper.lineage ≢ []
  pub lineage : r.lineage ≡ r.name ∷ upper.lineage
  pub holds : upper.holds ≡ Words upper_words
  pub words_are : words ≡ upper_words ++ own

-- A class, by what its objects hold: typing reads it by its name, by which it is found. Only Object stands under no other (JVM Specification, section 4.1).
pub record IsClass (P : Program) (r : Row) (words : List Declared) : Type 0 where
  pub named : is_class_name r.name ≡ true
  pub read : r.read ≡ r.name
  pub found : find (λ (d : Row). bytes_eq d.name r.name) P.types ≡ Some r
  pub placed : ((r.name ≡ object_class) × (r.lineage ≡ r.name ∷ [])) ⊎ IsUnder P r words

-- the descriptor of an element
abbrev pub element_descriptor : Declared → List ℕ
element_descriptor d = by d.word
  where
    by : WordType → List ℕ
    by word.Reference = descriptor_of d.class
    by t = type_descriptor t

-- an array type: typing reads it by the descriptor of its elements
pub record IsArray (P : Program) (r : Row) (d : Declared) (name : List ℕ) : Type 0 where
  pub read : r.read ≡ codes "[" ++ element_descriptor d
  pub element : d.word ≡ word.Reference → d.class ≡ name_read P name
  pub apart : r.lineage ≡ []

abbrev pub IsRowOf : Program → Row → Holds → Type 0
IsRowOf P r (Words ds) = ((r.lineage ≡ []) × (r.read ≡ [])) ⊎ IsClass P r ds
IsRowOf P r (Elements d name) = IsArray P r d name

-- a field of objects is one of the words of the class that declares it, which isn't Object
pub record IsDeclared (P : Program) (f : Field) : Type 0 where
  pub below : f.class ≢ object_class
  pub number : ℕ
  pub row : Row
  pub words : List Declared
  pub is : row_at P number ≡ Some row
  pub name : row.name ≡ f.class
  pub class : IsClass P row words
  pub holds : row.holds ≡ Words words
  pub place : slice_get words f.index ≡ Some f.declared

-- the class of an exception that an instruction throws, which has no fields
pub record IsTrapClass (P : Program) (x : Trap) : Type 0 where
  pub row : Row
  pub is : row_at P (trap_type x) ≡ Some row
  pub empty : row.holds ≡ Words []
  pub below : IsWithin P (type.Ref row.read) (type.Ref throwable_class)

-- The run-time test of types and typing agree: an instance is at most what typing reads of the name, and what is at most a type is an instance of it.
-- The classes above the transaction's conflict stand under one another as they do in the library, and its context right under Object. Texts have a class.
pub record AreTypes (P : Program) : Type 0 where
  pub rows : (t : ℕ) (r : Row) → row_at P t ≡ Some r → IsRowOf P r r.holds
  pub instances : (t : ℕ) (r : Row) (n : List ℕ) → row_at P t ≡ Some r → is_instance P t n ≡ true → IsWithin P (type.Ref r.read) (type.Ref (name_read P n))
  pub within : (t : ℕ) (r : Row) (n : List ℕ) → row_at P t ≡ Some r → IsWithin P (type.Ref r.read) (type.Ref n) → is_instance P t n ≡ true
  pub fields : (i : ℕ) (f : Field) → field_at P i ≡ Some f → f.base ≡ None → IsDeclared P f
  pub traps : (x : Trap) → IsTrapClass P x
  pub conflict : AllByRecursion (λ n. classes_from P n ≡ from_class n conflict_classes) conflict_classes
  pub context : classes_from P context_class ≡ from_class context_class conflict_classes
  pub string : IsKnownName P string_class

-- ---- fields

-- a static field's object has an address of 64 bits, and isn't null; so has the place
pub record IsBase (f : Field) (o : ℕ) : Type 0 where
  pub object : 1 < o
  pub address : o + f.index + 1 < 2 ^ 64

abbrev pub IsBased : Field → Option ℕ → Type 0
IsBased f None = f.index + 1 < 2 ^ 64
IsBased f (Some o) = IsBase f o

pub record IsSourceField (P : Program) (f : Field) : Type 0 where
  pub based : IsBased f f.base
  pub read : IsReadWord P f.declared.word f.declared.class

-- ---- instructions

abbrev pub IsConstant : Value → Type 0
IsConstant (Int n) = FitsSigned w32 n
IsConstant (value.Long n) = FitsSigned w64 n
IsConstant (value.Ref o) = o ≡ 0

pub record HasField (P : Program) (n : ℕ) (base : Option ℕ) : Type 0 where
  pub field : Field
  pub there : field_at P n ≡ Some field
  pub base_is : field.base ≡ base

-- a method with an object, which a call has
pub record HasMethod (P : Program) (m : ℕ) : Type 0 where
  pub method : Method
  pub there : method_at P m ≡ Some method
  pub over_object : method.dispatch ≢ dispatch.Static

-- A method over an object, by whose class a call finds what runs. Where it is a constructor, its class is no interface: typing reads it by its name.
pub record HasVirtual (P : Program) (m : ℕ) : Type 0 where
  pub method : Method
  pub there : method_at P m ≡ Some method
  pub over_object : method.dispatch ≢ dispatch.Static
  pub constructor : is_constructor method ≡ true → name_read P method.name.class ≡ method.name.class

pub record HasStatic (P : Program) (m : ℕ) : Type 0 where
  pub method : Method
  pub there : method_at P m ≡ Some method
  pub static : method.dispatch ≡ dispatch.Static

abbrev pub IsMadeOf : Bool → Row → Holds → Type 0
IsMadeOf false r (Words ds) = r.read ≡ r.name
IsMadeOf true r (Elements d name) = Unit {0}
IsMadeOf array r h = ⊥

-- a type of which objects, or arrays, are made
pub record CanMake (P : Program) (t : ℕ) (array : Bool) : Type 0 where
  pub row : Row
  pub there : row_at P t ≡ Some row
  pub known : IsKnownName P row.read
  pub holds : IsMadeOf array row row.holds

-- An instruction of an original method: its fields, methods and targets are there, and it isn't one of transactional code. That its locals are there is typing's.
abbrev pub IsSourceOp : Program → Method → Op → Type 0
IsSourceOp P k (op.Constant v) = IsConstant v
IsSourceOp P k (op.Text n) = n < length P.texts
IsSourceOp P k (op.Branch t to) = to < length k.ops
IsSourceOp P k (op.BranchInts t to) = to < length k.ops
IsSourceOp P k (op.BranchNull b to) = to < length k.ops
IsSourceOp P k (op.BranchReferences b to) = to < length k.ops
IsSourceOp P k (op.Goto to) = to < length k.ops
IsSourceOp P k (op.Switch other cases) = (other < length k.ops) × AllByRecursion (λ (c : ℤ × ℕ). c.1 < length k.ops) cases
IsSourceOp P k (op.GetStatic f) = (o : ℕ) × HasField P f (Some o)
IsSourceOp P k (op.PutStatic f) = (o : ℕ) × HasField P f (Some o)
IsSourceOp P k (op.GetField f c) = HasField P f None
IsSourceOp P k (op.PutField f c) = HasField P f None
IsSourceOp P k (op.InvokeStatic m) = HasStatic P m
IsSourceOp P k (op.InvokeSpecial m) = HasMethod P m
IsSourceOp P k (op.InvokeVirtual m c) = HasVirtual P m
IsSourceOp P k (op.InvokeInterface m c) = HasVirtual P m
IsSourceOp P k (op.New t) = CanMake P t false
IsSourceOp P k (op.NewArray t) = CanMake P t true
IsSourceOp P k (op.CheckCast c) = IsKnownName P (name_read P c)
IsSourceOp P k op.GetContext = ⊥
IsSourceOp P k (op.Context c) = ⊥
IsSourceOp P k o = Unit {0}

-- an entry of an original method takes no conflict
abbrev pub IsSourceCatches : Catches → Type 0
IsSourceCatches Conflict = ⊥
IsSourceCatches c = Unit {0}

pub record IsSourceCatch (P : Program) (k : Method) (c : Catch) : Type 0 where
  pub from : c.from ≤ length k.ops
  pub to : c.to ≤ length k.ops
  pub catches : IsSourceCatches c.catches

-- ---- methods

-- types of parameters, of which the first place of a long was just before, or not
abbrev pub AreParametersAfter : Bool → List VType → Type 0
AreParametersAfter false [] = Unit {0}
AreParametersAfter false (type.Int ∷ ts) = AreParametersAfter false ts
AreParametersAfter false (type.Ref n ∷ ts) = AreParametersAfter false ts
AreParametersAfter false (type.Long ∷ ts) = AreParametersAfter true ts
AreParametersAfter true (type.Second ∷ ts) = AreParametersAfter false ts
AreParametersAfter after ts = ⊥

-- ints, references, and longs in two places
abbrev pub AreParameters : List VType → Type 0
AreParameters ts = AreParametersAfter false ts

abbrev pub IsResult : Option VType → Type 0
IsResult None = Unit {0}
IsResult (Some type.Int) = Unit {0}
IsResult (Some type.Long) = Unit {0}
IsResult (Some (type.Ref n)) = Unit {0}
IsResult (Some t) = ⊥

-- A method that isn't static has its object first: one of its class as typing reads it, so any object where that is an interface. A constructor isn't static.
abbrev pub HasObject : Program → Dispatch → Method → Type 0
HasObject P dispatch.Static k = is_constructor k ≡ false
HasObject P dispatch.Abstract k = (c : List ℕ) × (k.parameters ≡ type.Ref c ∷ arguments k)
HasObject P d k = k.parameters ≡ type.Ref (name_read P k.name.class) ∷ arguments k

-- a method without code, whatever its dispatch, has no entries and isn't marked; one that is found as abstract has none
abbrev pub HasCode : List Op → Method → Type 0
HasCode [] k = (k.catches ≡ []) × (k.retries ≡ None)
HasCode (o ∷ os) k = k.dispatch ≢ dispatch.Abstract

-- A constructor isn't marked: an attempt of it could not be made again over the same object.
pub record IsSourceMethod (P : Program) (k : Method) : Type 0 where
  pub counted : k.counted ≡ true
  pub class : IsKnownName P k.name.class
  pub parameters : AreParameters k.parameters
  pub many : length k.parameters ≡ k.places
  pub object : HasObject P k.dispatch k
  pub code : HasCode k.ops k
  pub result : IsResult k.result
  pub takes : AllByRecursion (IsReadType P) k.parameters
  pub gives : AllByRecursion (IsReadType P) (results k)
  pub unmarked : is_constructor k ≡ true → k.retries ≡ None
  pub entries : AllByRecursion (IsSourceCatch P k) k.catches
  pub each : AllByRecursion (IsSourceOp P k) k.ops

-- Methods over objects that have one descriptor take and give the same, and duplicates have other names than methods have.
pub record AreNamed (P : Program) : Type 0 where
  pub described : (i j : ℕ) (k o : Method) → method_at P i ≡ Some k → method_at P j ≡ Some o → k.dispatch ≢ dispatch.Static → o.dispatch ≢ dispatch.Static
      → k.name.descriptor ≡ o.name.descriptor → (arguments k ≡ arguments o) × (k.result ≡ o.result)
  pub apart : (i j : ℕ) (k o : Method) → method_at P i ≡ Some k → method_at P j ≡ Some o → with_context k.name.descriptor ≢ o.name.descriptor
  pub initialisers : (i : ℕ) (k : Method) → method_at P i ≡ Some k → k.name.name ≡ codes "<clinit>" → k.dispatch ≡ dispatch.Static
  pub reserved : (i : ℕ) (k : Method) → method_at P i ≡ Some k → k.name.name ≢ codes "__CLINIT__"

-- values that a call from outside may have: numbers, and null
abbrev pub AreArguments : List VType → List Value → Type 0
AreArguments [] [] = Unit {0}
AreArguments (type.Int ∷ ts) (Int x ∷ vs) = FitsSigned w32 x × AreArguments ts vs
AreArguments (type.Long ∷ type.Second ∷ ts) (value.Long x ∷ vs) = FitsSigned w64 x × AreArguments ts vs
AreArguments (type.Ref n ∷ ts) (value.Ref o ∷ vs) = (o ≡ 0) × AreArguments ts vs
AreArguments ts vs = ⊥

pub record IsSource (P : Program) : Type 0 where
  pub types : AreTypes P
  pub fields : AllByRecursion (IsSourceField P) P.fields
  pub methods : AllByRecursion (IsSourceMethod P) P.methods
  pub names : AreNamed P
