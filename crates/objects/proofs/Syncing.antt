-- Where frames of the original and those of the duplicates stand alike, an object that the attempt makes next the original makes.
use Rattle.std.proofs.Common.{◌≡◌, ◌≢◌, ℕ, zero, suc, ◌+◌, List, Option, Some, false}
use Rattle.std.specs.Prelude.{slice_get, nat_eq}
use Rattle.std.specs.List.{AllByRecursion}
use Rattle.jmodel.specs.declared.value.Value.{Value}
use Rattle.jmodel.specs.declared.value.Answer.{Answer}
use Rattle.jmodel.specs.declared.typing.VType.{VType}
use Rattle.jmodel.specs.history.History.{Words, Agrees}
use Rattle.objects.specs.declared.op.Slot.{Slot}
use Rattle.objects.specs.declared.op.Phase.TheVariants.{Open}
use Rattle.objects.specs.semantics.Program.{Method, Program, is_counted}
use Rattle.objects.specs.semantics.State.{State}
use Rattle.objects.specs.semantics.Step.{Frames, catch_at}
use Rattle.objects.specs.rewriting.Attempt.{Log, Bounds, Meter, Run, On, Asking, Ended, Stuck}
use Rattle.objects.specs.typing.Typing.{Table}
use Rattle.objects.specs.laws.TypingLaw.{IsTypedProgram}
use Rattle.objects.proofs.Fields.{some_at}
use Rattle.objects.proofs.Inner.{IsAdded, IsInnerOp}
use Rattle.objects.proofs.Tied.{Tied, Callers, top, typed_code}
use Rattle.objects.proofs.Tied as tied
use Rattle.objects.proofs.Replies.{SameLogs}
use Rattle.objects.proofs.Makes.{IsSynced, read_in, steps_synced, leads_synced}
use Rattle.objects.proofs.Walking.{Serves}
use Rattle.objects.proofs.Goals.{Here, IsGoal, EndsAs, out, back, threw}
use Rattle.objects.specs.laws.Law.{IsOnWay}

module _ (P : Program) (Ts : List Table) (S : IsTypedProgram P Ts) (Q : Program) (B : Bounds) (mn : ℕ) (args : List Value) (ws : Words) (σ : State) (gives : Option VType) (c q z : ℕ) (slots : List Slot) (first_added : ℕ)
    (ops_inner : (m : ℕ) (k : Method) → IsAdded Q first_added m → slice_get Q.methods m ≡ Some k → AllByRecursion (IsInnerOp Q first_added) k.ops) (uncounted : is_counted Q mn ≡ false) (catch : catch_at Q mn (q + 1) 0 ≡ Some z)
    (catch_other : (t : ℕ) → nat_eq t 0 ≡ false → catch_at Q mn (q + 1) t ≡ Some (z + 4)) where
  abbrev pub Going : Run → Type 0
  Going d = (r : Log) → Agrees ws r → d ≢ Stuck r

  -- for each number of replies but none: what is made next is made alone
  abbrev pub SyncGoal : ℕ → Run → Type 0
  SyncGoal zero d = Going d
  SyncGoal (suc n) d = Going d × (Agrees ws (read_in d) → IsSynced P Q B mn args σ d)

  abbrev pub SyncAstray : ℕ → Run → Type 0
  SyncAstray n d = Unit {0}

  less : (n : ℕ) (d : Run) → SyncGoal (suc n) d → SyncGoal n d
  less zero d g = g.0
  less (suc n) d g = g

  going : (n : ℕ) (d : Run) → SyncGoal n d → Going d
  going zero d g = g
  going (suc n) d g = g.0

  goes_silent : (d e : Run) → SameLogs d e → Going d
  goes_silent (On p fs M w r) e l s a f = cc
  goes_silent (Asking x fs M w r) e l s a f = cc
  goes_silent (Ended x M w r) e l s a f = absurd l
  goes_silent (Stuck r) e l s a f = absurd l

  goes_on_way : (w r : Log) (d : Run) → IsOnWay w r d → Going d
  goes_on_way w r (On p fs M v q) e s a f = cc
  goes_on_way w r (Asking x fs M v q) e s a f = cc
  goes_on_way w r (Ended x M v q) e s a f = absurd e
  goes_on_way w r (Stuck q) e s a f = absurd e

  pub sync_goal : IsGoal P Ts S Q B mn args ws σ gives c q z slots first_added ops_inner uncounted catch catch_other SyncGoal SyncAstray
  sync_goal = record {
    more = less;
    leads = λ j n d e l g. (goes_silent d e l.0, λ a. leads_synced P Q B mn args σ j d e l.1 (going n e g (read_in d) a));
    steps = λ n w r d e way far agrees step g. (goes_on_way w r d way, λ a. steps_synced P Q B mn args σ d e step (going n e g (read_in d) a));
    looks = λ n wl gs M w r d e way synced set above far agrees refused step g. (goes_on_way w r d way, λ a. synced);
    reads = λ n wl gs M w r d a next way synced set above far agrees refused step astray g. (goes_on_way w r d way, λ a. synced);
    stray_on = λ n wl gs M w s set inside gone. tt;
    stray_follows = λ n wl a M w s set inner gone. tt;
    stray_throws = λ n wl row o t gs M w s set inside gone. tt;
  }

  ends_going : (τ : State) (x : Answer) (e : Run) → EndsAs P Ts S Q B mn args ws σ gives c q z slots first_added ops_inner uncounted catch catch_other τ x e → Going e
  ends_going τ x e (out y M r keeps agrees) s a f = cc
  ends_going τ x e (back v wl j M w r set ok stands agrees) s a f = cc
  ends_going τ x e (threw class o t wl M w r set thrown named stands agrees) s a f = cc

  module _ (serves : Serves P Ts S Q B mn args ws σ gives c q z slots first_added ops_inner uncounted catch catch_other SyncGoal) where
    pub synced_here : (fs gs : Frames) (τ : State) (M : Meter) (w r : Log) → Here P Ts S Q B mn args ws σ fs τ M w r → tied.Run P Ts S mn q gives c slots fs gs → IsSynced P Q B mn args σ (On Open gs M w r)
    synced_here fs gs τ M w r here (top m pc dn k T l l' s fs0 gs0 t stands callers) =
        let o = some_at k.ops pc stands.inside in
        let g = serves 0 m pc dn k T l l' s fs0 gs0 t stands callers τ M w r here
        (record {
          on = λ j fs2 gs2 τ2 M2 w2 r2 f here2 tie2 s a e. cc;
          ends = λ j x τ2 e f end. ends_going τ2 x e end;
        }) o.0 o.1 in
        g.1 here.agrees
