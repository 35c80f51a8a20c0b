-- A run over a state is never spent.
use Rattle.std.proofs.Common.{◌≡◌, ◌≢◌, ℕ, zero, suc, List, Option, Some, None, Bool, true, false, subst}
use Rattle.jmodel.specs.declared.value.Value.{Value}
use Rattle.jmodel.specs.declared.value.Answer.{Answer}
use Rattle.jmodel.specs.declared.value.Answer.TheVariants.{Spent}
use Rattle.objects.specs.declared.op.Made.{Made}
use Rattle.objects.specs.declared.op.Made.TheVariants.{Pushed, Raised}
use Rattle.objects.specs.declared.op.Use.{Use}
use Rattle.objects.specs.declared.op.Place.{Place}
use Rattle.objects.specs.declared.op.Request.TheVariants.{Get, Put}
use Rattle.objects.specs.declared.op.Asking.{Asking as Wanted}
use Rattle.objects.specs.declared.op.Asking.TheVariants.{Go, Turn, Enter, Return, Throw, Raise, Make, Head, Ask}
use Rattle.objects.specs.semantics.Program.{Row, Method, Program, method_at, row_at, name_at}
use Rattle.objects.specs.semantics.Step.{Frames, Asked, Asks, Fails, step, unwinds, told}
use Rattle.objects.specs.semantics.Region.{Region, has_words}
use Rattle.objects.specs.semantics.State.{Object, State, value_held, words_of, length_of, object_of, type_at}
use Rattle.objects.specs.semantics.Call.{Direct, On, Asking, Ended, Stuck, turned, entered, got, set_at, threw_of, on_thrown, throws, on_raise, on_made, makes, made, followed, headed, on_asking, on_asked, next_direct, direct, starts, call_start}

abbrev pub IsUnspent : Direct → Type 0
IsUnspent (Ended x σ) = x ≢ Spent
IsUnspent d = Unit {0}

turned_so : (fs : Frames) (k : ℕ) (σ : State) → IsUnspent (turned fs k σ)
turned_so fs zero σ = λ e. cc
turned_so fs (suc k) σ = tt

entered_so : (deep : Bool) (fs : Frames) (k : ℕ) (σ : State) → IsUnspent (entered deep fs k σ)
entered_so deep fs zero σ = λ e. cc
entered_so true fs (suc k) σ = λ e. cc
entered_so false fs (suc k) σ = tt

got_so : (v : Option Value) (fs : Frames) (k : ℕ) (σ : State) → IsUnspent (got v fs k σ)
got_so None fs k σ = tt
got_so (Some v) fs k σ = tt

set_so : (o : Option Value) (p : Place) (v : Value) (fs : Frames) (k : ℕ) (σ : State) → IsUnspent (set_at o p v fs k σ)
set_so None p v fs k σ = tt
set_so (Some old) p v fs k σ = tt

threw_so : (n : Option (List ℕ)) (σ : State) → IsUnspent (threw_of n σ)
threw_so None σ = tt
threw_so (Some class) σ = λ e. cc

thrown_so : (P : Program) (t : ℕ) (a : Asked) (k : ℕ) (σ : State) → IsUnspent (on_thrown P t a k σ)
thrown_so P t (Asks Go fs) k σ = tt
thrown_so P t (Asks Turn fs) k σ = turned_so fs k σ
thrown_so P t (Asks (Throw o) fs) k σ = threw_so (name_at P t) σ
thrown_so P t a k σ = tt

throws_so : (r : Option Row) (P : Program) (o t : ℕ) (fs : Frames) (k : ℕ) (σ : State) → IsUnspent (throws r P o t fs k σ)
throws_so None P o t fs k σ = tt
throws_so (Some r) P o t fs k σ = thrown_so P t (unwinds P o t fs) k σ

raise_so : (t : Option ℕ) (P : Program) (o : ℕ) (fs : Frames) (k : ℕ) (σ : State) → IsUnspent (on_raise t P o fs k σ)
raise_so None P o fs k σ = tt
raise_so (Some t) P o fs k σ = throws_so (row_at P t) P o t fs k σ

on_made_so : (m : Made) (P : Program) (o : ℕ) (b : Object) (fs : Frames) (k : ℕ) (σ : State) → IsUnspent (on_made m P o b fs k σ)
on_made_so Pushed P o b fs k σ = tt
on_made_so Raised P o b fs k σ = thrown_so P b.type (unwinds P o b.type fs) k σ

makes_so : (room : Bool) (m : Made) (P : Program) (G : Region) (b : Object) (fs : Frames) (k : ℕ) (σ : State) → IsUnspent (makes room m P G b fs k σ)
makes_so true m P G b fs k σ = on_made_so m P _ b fs k _
makes_so false m P G b fs k σ = λ e. cc

made_so : (r : Option Row) (t n : ℕ) (m : Made) (P : Program) (G : Region) (fs : Frames) (k : ℕ) (σ : State) → IsUnspent (made r t n m P G fs k σ)
made_so None t n m P G fs k σ = tt
made_so (Some r) t n m P G fs k σ = makes_so (has_words G (σ.used G.number) (words_of (object_of t n r))) m P G (object_of t n r) fs k σ

followed_so : (a : Asked) (k : ℕ) (σ : State) → IsUnspent (followed a k σ)
followed_so (Asks Go fs) k σ = tt
followed_so (Asks a fs) k σ = tt
followed_so Fails k σ = tt

headed_so : (b : Option Object) (P : Program) (u : Use) (o : ℕ) (fs : Frames) (k : ℕ) (σ : State) → IsUnspent (headed b P u o fs k σ)
headed_so None P u o fs k σ = tt
headed_so (Some b) P u o fs k σ = followed_so (told P u o b.type (length_of b) fs) k σ

asking_so : (P : Program) (G : Region) (a : Wanted) (fs : Frames) (k : ℕ) (σ : State) → IsUnspent (on_asking P G a fs k σ)
asking_so P G Go fs k σ = tt
asking_so P G Turn fs k σ = turned_so fs k σ
asking_so P G (Enter deep) fs k σ = entered_so deep fs k σ
asking_so P G (Return v) fs k σ = λ e. cc
asking_so P G (Raise o) fs k σ = raise_so (type_at σ o) P o fs k σ
asking_so P G (Make t n m) fs k σ = made_so (row_at P t) t n m P G fs k σ
asking_so P G (Head o u) fs k σ = headed_so (σ.objects o) P u o fs k σ
asking_so P G (Ask (Get p)) fs k σ = got_so (value_held σ p) fs k σ
asking_so P G (Ask (Put p v)) fs k σ = set_so (value_held σ p) p v fs k σ
asking_so P G a fs k σ = tt

asked_so : (P : Program) (G : Region) (a : Asked) (k : ℕ) (σ : State) → IsUnspent (on_asked P G a k σ)
asked_so P G (Asks a fs) k σ = asking_so P G a fs k σ
asked_so P G Fails k σ = tt

next_so : (P : Program) (G : Region) (d : Direct) → IsUnspent d → IsUnspent (next_direct P G d)
next_so P G (On fs k σ) h = asked_so P G (step P fs) k σ
next_so P G (Asking a fs k σ) h = asking_so P G a fs k σ
next_so P G (Ended x σ) h = h
next_so P G Stuck h = tt

direct_so : (P : Program) (G : Region) (n : ℕ) (d : Direct) → IsUnspent d → IsUnspent (direct P G n d)
direct_so P G zero d h = h
direct_so P G (suc n) d h = direct_so P G n (next_direct P G d) (next_so P G d h)

starts_so : (k : Option Method) (m : ℕ) (args : List Value) (budget : ℕ) (σ : State) → IsUnspent (starts k m args budget σ)
starts_so None m args budget σ = tt
starts_so (Some k) m args budget σ = turned_so _ budget σ

pub call_unspent : (P : Program) (G : Region) (n m : ℕ) (args : List Value) (budget : ℕ) (σ : State) (x : Answer) (τ : State) → direct P G n (call_start P m args budget σ) ≡ Ended x τ → x ≢ Spent
call_unspent P G n m args budget σ x τ e = subst IsUnspent e (direct_so P G n (call_start P m args budget σ) (starts_so (method_at P m) m args budget σ))
