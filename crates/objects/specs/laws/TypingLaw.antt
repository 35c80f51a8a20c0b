-- The laws of typed code.
use Rattle.std.specs.Prelude.{◌≡◌, ◌≢◌, ℕ, List, Some, true, slice_get}
use Rattle.std.specs.List.{AllByRecursion}
use Rattle.jmodel.specs.declared.value.Value.{Value}
use Rattle.jmodel.specs.declared.typing.VType.TheVariants.{UninitThis}
use Rattle.objects.specs.declared.op.Dispatch.TheVariants as dispatch
use Rattle.objects.specs.declared.op.Op.TheVariants.{PutField}
use Rattle.objects.specs.semantics.Program.{Field, Method, Program, method_at, field_at, has_code}
use Rattle.objects.specs.typing.Source.{IsKnownType, IsSourceMethod, IsSource, AreArguments}
use Rattle.objects.specs.semantics.Region.{Region}
use Rattle.objects.specs.semantics.State.{State}
use Rattle.objects.specs.semantics.Call.{Direct, On, Asking, Ended, Stuck, direct, call_start}
use Rattle.objects.specs.history.Meaning.{IsHeap}
use Rattle.objects.specs.typing.Typing.{Types, Table, types_at, IsTyping, IsTypable, IsNarrowest}
use Rattle.objects.specs.rewriting.Rewriting.{word_places, rewritten}

-- the table of a method is a typing of it
pub record HasTyping (P : Program) (Ts : List Table) (m : ℕ) (k : Method) : Type 0 where
  pub table : Table
  pub there : slice_get Ts m ≡ Some table
  pub typing : IsTyping P k table

-- a program with tables that are typings of its methods that have code
pub record IsTypedProgram (P : Program) (Ts : List Table) : Type 0 where
  pub source : IsSource P
  pub typed : (m : ℕ) (k : Method) → method_at P m ≡ Some k → has_code (Some k) ≡ true → HasTyping P Ts m k

-- a run that isn't stuck, over a heap whose objects have values of their types
abbrev pub IsSafe : Program → ℕ → Direct → Type 0
IsSafe P size (On fs k σ) = IsHeap P size σ
IsSafe P size (Asking a fs k σ) = IsHeap P size σ
IsSafe P size (Ended x σ) = IsHeap P size σ
IsSafe P size Stuck = ⊥

-- A call of a static method that has code, of a typed program, over such a heap is never stuck, and keeps it so.
abbrev pub TypedSafety : Type 0
TypedSafety = (P : Program) (Ts : List Table) → IsTypedProgram P Ts → (budget m : ℕ) (G : Region) (k : Method) → slice_get P.methods m ≡ Some k → k.dispatch ≡ dispatch.Static → has_code (Some k) ≡ true
    → (args : List Value) → AreArguments k.parameters args → (σ : State) → IsHeap P G.size σ → (n : ℕ) → IsSafe P G.size (direct P G n (call_start P m args budget σ))

-- What the rewriting asks of a method's table beside: its types have known names, and no field of an object is stored to before another constructor has run
-- over it, since an accessor takes an object that is built.
pub record IsRewritable (P : Program) (k : Method) (T : Table) : Type 0 where
  pub known : (pc : ℕ) (h : Types) → types_at T pc ≡ Some h → AllByRecursion (IsKnownType P) h.locals × AllByRecursion (IsKnownType P) h.stack
  pub late : (pc n : ℕ) (c : List ℕ) (h : Types) (f : Field) → types_at T pc ≡ Some h → slice_get k.ops pc ≡ Some (PutField n c) → field_at P n ≡ Some f → slice_get h.stack (word_places f.declared.word) ≢ Some UninitThis

-- Each method of a rewritten program that has code has a typing: those that stay, wrappers, accessors, duplicates, and those of the helper of arrays.
abbrev pub TypedRewriting : Type 0
TypedRewriting = (P : Program) (Ts : List Table) → IsTypedProgram P Ts
    → ((m : ℕ) (k : Method) (T : Table) → method_at P m ≡ Some k → slice_get Ts m ≡ Some T → has_code (Some k) ≡ true → IsRewritable P k T)
    → (m : ℕ) (k : Method) → method_at (rewritten P Ts) m ≡ Some k → has_code (Some k) ≡ true → IsTypable (rewritten P Ts) k

-- The types of a source method's narrowest typing have known names.
abbrev pub NarrowestIsKnown : Type 0
NarrowestIsKnown = (P : Program) → IsSource P → (k : Method) → IsSourceMethod P k → (T : Table) → IsTyping P k T → IsNarrowest P k T
    → (pc : ℕ) (h : Types) → types_at T pc ≡ Some h → AllByRecursion (IsKnownType P) h.locals × AllByRecursion (IsKnownType P) h.stack
