-- How words stand for a state, and what it is that an entry says of the original method.
use Rattle.std.specs.Prelude.{◌≡◌, ◌≢◌, ℕ, zero, suc, ◌+◌, ◌/◌, ◌%◌, ◌^◌, ◌<◌, ◌≤◌, List, [], ◌∷◌, length, Bool, true, false, Option, Some, None, slice_get, FitsSigned}
use Rattle.std.specs.List.{AllByRecursion}
use Rattle.std.specs.Int.{w64}
use Rattle.jmodel.specs.declared.value.Value.{Value}
use Rattle.jmodel.specs.declared.value.Value.TheVariants as value
use Rattle.jmodel.specs.declared.typing.VType.TheVariants as type
use Rattle.jmodel.specs.history.History.{Call, Entry, Words, overlaid, Agrees}
use Rattle.objects.specs.declared.op.WordType.{WordType}
use Rattle.objects.specs.declared.op.WordType.TheVariants as word
use Rattle.objects.specs.semantics.WordTypes.{IsNumberOf}
use Rattle.objects.specs.semantics.Value.{word_of}
use Rattle.objects.specs.semantics.Program.{Declared, Holds, Words as HoldsWords, Elements, Row, Field, Program, row_at}
use Rattle.objects.specs.typing.TypeOrder.{IsWithin, string_class}
use Rattle.objects.specs.semantics.Region.{Region}
use Rattle.objects.specs.semantics.State.{Object, State}
pub use Rattle.objects.specs.semantics.State.{header}
use Rattle.objects.specs.semantics.Call.{Calls}

-- values lie one after another from an address on
abbrev pub AreLaid : Words → ℕ → List Value → Type 0
AreLaid words a [] = Unit {0}
AreLaid words a (v ∷ vs) = (words a ≡ word_of v) × AreLaid words (a + 1) vs

-- an object lies at a reference
pub record IsLaid (words : Words) (reference : ℕ) (o : Object) : Type 0 where
  pub header_lies : words reference ≡ header o
  pub values_lie : AreLaid words (reference + 1) o.values

-- An object lies wholly in the region of its reference, below the region's used words; a region has size words. Reference 1 is the conflict's.
pub record IsInRegion (size : ℕ) (used : ℕ → ℕ) (reference : ℕ) (o : Object) : Type 0 where
  pub there : 1 < reference
  pub inside : reference % size + length o.values + 1 ≤ size
  pub below : reference % size + length o.values + 1 ≤ used (reference / size)
  pub address : reference + length o.values < 2 ^ 64

-- an object of a class or an array type, or of one under it, by its name
pub record IsObjectOf (P : Program) (σ : State) (n : List ℕ) (reference : ℕ) : Type 0 where
  pub object : Object
  pub row : Row
  pub there : σ.objects reference ≡ Some object
  pub is : row_at P object.type ≡ Some row
  pub below : IsWithin P (type.Ref row.read) (type.Ref n)

-- null, or such an object
abbrev pub IsReferenceTo : Program → State → List ℕ → ℕ → Type 0
IsReferenceTo P σ n zero = Unit {0}
IsReferenceTo P σ n (suc o) = IsObjectOf P σ n (suc o)

-- a value that a word of a declared type may hold: one of its numbers, or a reference to its class
abbrev pub IsValueOf : Program → State → List ℕ → WordType → Value → Type 0
IsValueOf P σ class word.Reference (value.Ref o) = IsReferenceTo P σ class o
IsValueOf P σ class word.Reference v = ⊥
IsValueOf P σ class word.Long (value.Long x) = FitsSigned w64 x
IsValueOf P σ class word.Long v = ⊥
IsValueOf P σ class t (value.Int x) = IsNumberOf t x
IsValueOf P σ class t v = ⊥

abbrev pub IsHeld : Program → State → Declared → Value → Type 0
IsHeld P σ d v = IsValueOf P σ d.class d.word v

abbrev pub AreHeld : Program → State → List Declared → List Value → Type 0
AreHeld P σ [] [] = Unit {0}
AreHeld P σ (d ∷ ds) (v ∷ vs) = IsHeld P σ d v × AreHeld P σ ds vs
AreHeld P σ ds vs = ⊥

-- what an object holds, as its type says: the words of fields, or elements, of which there are fewer than 2^31
abbrev pub IsHolding : Program → State → Holds → Bool → List Value → Type 0
IsHolding P σ (HoldsWords ds) false vs = AreHeld P σ ds vs
IsHolding P σ (Elements d name) true vs = (length vs < 2147483648) × AllByRecursion (IsHeld P σ d) vs
IsHolding P σ h array vs = ⊥

-- an object has a type of the program, and holds what that says
pub record IsTyped (P : Program) (σ : State) (o : Object) : Type 0 where
  pub row : Row
  pub is : row_at P o.type ≡ Some row
  pub holds : IsHolding P σ row.holds o.array o.values

-- a static field is one of the words of an object
pub record HasStatic (P : Program) (σ : State) (reference : ℕ) (f : Field) : Type 0 where
  pub base : Object
  pub row : Row
  pub words : List Declared
  pub there : σ.objects reference ≡ Some base
  pub is : row_at P base.type ≡ Some row
  pub holds : row.holds ≡ HoldsWords words
  pub place : slice_get words f.index ≡ Some f.declared

abbrev pub HasBase : Program → State → Option ℕ → Field → Type 0
HasBase P σ None f = Unit {0}
HasBase P σ (Some o) f = HasStatic P σ o f

abbrev pub IsFieldHeld : Program → State → Field → Type 0
IsFieldHeld P σ f = HasBase P σ f.base f

-- The objects of a state lie in their regions and hold values of their types; the objects of static fields are there, and so are string constants.
pub record IsHeap (P : Program) (size : ℕ) (σ : State) : Type 0 where
  pub regions : (r : ℕ) (o : Object) → σ.objects r ≡ Some o → IsInRegion size σ.used r o
  pub typed : (r : ℕ) (o : Object) → σ.objects r ≡ Some o → IsTyped P σ o
  pub fields : AllByRecursion (IsFieldHeld P σ) P.fields
  pub texts : AllByRecursion (IsObjectOf P σ string_class) P.texts

-- The words stand for the state. Of two objects one ends before the other begins; beyond a region's used words all are 0.
pub record Represents (P : Program) (size : ℕ) (words : Words) (σ : State) : Type 0 where
  pub laid : (r : ℕ) (o : Object) → σ.objects r ≡ Some o → IsLaid words r o
  pub apart : (r q : ℕ) (o p : Object) → σ.objects r ≡ Some o → σ.objects q ≡ Some p → r < q → r + length o.values < q
  pub heap : IsHeap P size σ
  pub free : (a : ℕ) → σ.used (a / size) ≤ a % size → words a ≡ 0

-- the region of a call
abbrev pub region_of : ℕ → Call → Region
region_of size c = record { number = c.region; size = size }

-- An entry is explained by the original program: from each state that words stand for, if these have what the entry read
-- and its region its used words, the call, run alone, gives the entry's answer and the state that its writes leave.
pub record ExplainsFrom (P : Program) (size budget : ℕ) (e : Entry) (words : Words) (σ : State) : Type 0 where
  pub after : State
  pub calls : Calls P budget (region_of size e.call) e.call.method e.call.args σ e.answer after
  pub represents : Represents P size (overlaid e.writes words) after
  pub used : after.used e.call.region ≡ e.used_after
  pub others : (region : ℕ) → region ≢ e.call.region → after.used region ≡ σ.used region

abbrev pub Explains : Program → ℕ → ℕ → Entry → Type 0
Explains P size budget e = (words : Words) (σ : State) → Represents P size words σ → Agrees words e.reads
    → σ.used e.call.region ≡ e.used_before → ExplainsFrom P size budget e words σ
