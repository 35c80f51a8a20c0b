-- A call of an original method, run alone over a state.
use Rattle.std.specs.Prelude.{◌≡◌, ℕ, zero, suc, List, [], ◌∷◌, Option, Some, None, Bool, true, false}
use Rattle.std.specs.List.{flat_map}
use Rattle.jmodel.specs.declared.value.Value.{Value}
use Rattle.jmodel.specs.declared.value.Answer.{Answer}
use Rattle.jmodel.specs.declared.value.Answer.TheVariants.{Returned, Threw, Budget, Depth, Heap}
use Rattle.objects.specs.declared.op.Slot.TheVariants.{Ref}
use Rattle.objects.specs.declared.op.Place.{Place}
use Rattle.objects.specs.declared.op.Use.{Use}
use Rattle.objects.specs.declared.op.Made.{Made}
use Rattle.objects.specs.declared.op.Made.TheVariants.{Pushed, Raised}
use Rattle.objects.specs.declared.op.Request.TheVariants.{Get, Put}
use Rattle.objects.specs.declared.op.Asking.{Asking as Wanted}
use Rattle.objects.specs.declared.op.Asking.TheVariants.{Go, Turn, Enter, Return, Throw, Raise, Make, Head, Ask}
use Rattle.objects.specs.semantics.Value.{pushed, slots_of}
use Rattle.objects.specs.semantics.Program.{Row, Method, Program, method_at, row_at, name_at}
use Rattle.objects.specs.semantics.Step.{Frames, Asked, Asks, Fails, started, step, unwinds, advanced, resumed, told}
use Rattle.objects.specs.semantics.Region.{Region, next_reference, has_words}
use Rattle.objects.specs.semantics.State.{Object, State, value_held, put, words_of, length_of, with_object, object_of, type_at}

-- A run: its frames, the turns that are left, and the state; or an instruction of it that wants something more.
pub data Direct : Type 0 where
  On : (fs : Frames) (turns : ℕ) (σ : State) → Direct
  Asking : (a : Wanted) (fs : Frames) (turns : ℕ) (σ : State) → Direct
  Ended : (x : Answer) (σ : State) → Direct
  Stuck : Direct

abbrev pub turned : Frames → ℕ → State → Direct
turned fs zero σ = Ended Budget σ
turned fs (suc k) σ = On fs k σ

-- the turn is counted first
abbrev pub entered : Bool → Frames → ℕ → State → Direct
entered deep fs zero σ = Ended Budget σ
entered true fs (suc k) σ = Ended Depth σ
entered false fs (suc k) σ = On fs k σ

abbrev pub got : Option Value → Frames → ℕ → State → Direct
got None fs k σ = Stuck
got (Some v) fs k σ = On (resumed (pushed v []) fs) k σ

abbrev pub set_at : Option Value → Place → Value → Frames → ℕ → State → Direct
set_at None p v fs k σ = Stuck
set_at (Some old) p v fs k σ = On (advanced fs) k (put σ p v)

-- an exception that no frame took ends the call, with the name of its class
abbrev pub threw_of : Option (List ℕ) → State → Direct
threw_of None σ = Stuck
threw_of (Some class) σ = Ended (Threw class) σ

-- where an exception of a type went
abbrev pub on_thrown : Program → ℕ → Asked → ℕ → State → Direct
on_thrown P t (Asks Go fs) k σ = On fs k σ
on_thrown P t (Asks Turn fs) k σ = turned fs k σ
on_thrown P t (Asks (Throw o) fs) k σ = threw_of (name_at P t) σ
on_thrown P t a k σ = Stuck

-- an exception is thrown by its type, which is one of the program
abbrev pub throws : Option Row → Program → ℕ → ℕ → Frames → ℕ → State → Direct
throws None P o t fs k σ = Stuck
throws (Some r) P o t fs k σ = on_thrown P t (unwinds P o t fs) k σ

abbrev pub on_raise : Option ℕ → Program → ℕ → Frames → ℕ → State → Direct
on_raise None P o fs k σ = Stuck
on_raise (Some t) P o fs k σ = throws (row_at P t) P o t fs k σ

-- the region has no room for an object
abbrev pub full : Region → Object → State → Direct
full G o σ = Ended (Heap (σ.used G.number) (words_of o) G.size) σ

-- a new object is pushed, or thrown
abbrev pub on_made : Made → Program → ℕ → Object → Frames → ℕ → State → Direct
on_made Pushed P o b fs k τ = On (resumed (Ref o ∷ []) fs) k τ
on_made Raised P o b fs k τ = on_thrown P b.type (unwinds P o b.type fs) k τ

abbrev pub makes : Bool → Made → Program → Region → Object → Frames → ℕ → State → Direct
makes true m P G b fs k σ = on_made m P (next_reference G (σ.used G.number)) b fs k (with_object G b σ)
makes false m P G b fs k σ = full G b σ

-- a new object, where there is room for it
abbrev pub with_room : Made → Program → Region → Object → Frames → ℕ → State → Direct
with_room m P G b fs k σ = makes (has_words G (σ.used G.number) (words_of b)) m P G b fs k σ

abbrev pub made : Option Row → ℕ → ℕ → Made → Program → Region → Frames → ℕ → State → Direct
made None t n m P G fs k σ = Stuck
made (Some r) t n m P G fs k σ = with_room m P G (object_of t n r) fs k σ

-- an instruction goes on, or wants something more
abbrev pub followed : Asked → ℕ → State → Direct
followed (Asks Go fs) k σ = On fs k σ
followed (Asks a fs) k σ = Asking a fs k σ
followed Fails k σ = Stuck

-- it goes on by the header of an object
abbrev pub headed : Option Object → Program → Use → ℕ → Frames → ℕ → State → Direct
headed None P u o fs k σ = Stuck
headed (Some b) P u o fs k σ = followed (told P u o b.type (length_of b) fs) k σ

abbrev pub on_asking : Program → Region → Wanted → Frames → ℕ → State → Direct
on_asking P G Go fs k σ = On fs k σ
on_asking P G Turn fs k σ = turned fs k σ
on_asking P G (Enter deep) fs k σ = entered deep fs k σ
on_asking P G (Return v) fs k σ = Ended (Returned v) σ
on_asking P G (Raise o) fs k σ = on_raise (type_at σ o) P o fs k σ
on_asking P G (Make t n m) fs k σ = made (row_at P t) t n m P G fs k σ
on_asking P G (Head o u) fs k σ = headed (σ.objects o) P u o fs k σ
on_asking P G (Ask (Get p)) fs k σ = got (value_held σ p) fs k σ
on_asking P G (Ask (Put p v)) fs k σ = set_at (value_held σ p) p v fs k σ
on_asking P G a fs k σ = Stuck

abbrev pub on_asked : Program → Region → Asked → ℕ → State → Direct
on_asked P G (Asks a fs) k σ = on_asking P G a fs k σ
on_asked P G Fails k σ = Stuck

abbrev pub next_direct : Program → Region → Direct → Direct
next_direct P G (On fs k σ) = on_asked P G (step P fs) k σ
next_direct P G (Asking a fs k σ) = on_asking P G a fs k σ
next_direct P G d = d

-- n steps, which take words of a region
abbrev pub direct : Program → Region → ℕ → Direct → Direct
direct P G zero d = d
direct P G (suc n) d = direct P G n (next_direct P G d)

-- the entering of the method is the first turn
abbrev pub starts : Option Method → ℕ → List Value → ℕ → State → Direct
starts None m args budget σ = Stuck
starts (Some k) m args budget σ = turned (started m k (flat_map slots_of args) ∷ []) budget σ

abbrev pub call_start : Program → ℕ → List Value → ℕ → State → Direct
call_start P m args budget σ = starts (method_at P m) m args budget σ

-- after a refusal the state is the one before the call
abbrev pub kept : Answer → State → State → State
kept (Returned v) σ τ = τ
kept (Threw class) σ τ = τ
kept x σ τ = σ

-- The call of a method, which takes words of a region, ends with this answer and leaves this state.
pub record Calls (P : Program) (budget : ℕ) (G : Region) (m : ℕ) (args : List Value) (σ : State) (x : Answer) (τ : State) : Type 0 where
  pub steps : ℕ
  pub last : State
  pub ends : direct P G steps (call_start P m args budget σ) ≡ Ended x last
  pub leaves : τ ≡ kept x σ last
