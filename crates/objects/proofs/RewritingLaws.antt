-- The laws of the rewriting, from what holds of a wrapper's call after all replies.
use Rattle.std.proofs.Common.{◌≡◌, ℕ, ℤ, List, Some, refl, sym, ap, subst, ◌∙◌}
use Rattle.std.specs.Prelude.{slice_get}
use Rattle.jmodel.specs.declared.value.Value.{Value}
use Rattle.jmodel.specs.declared.value.Answer.{Answer}
use Rattle.jmodel.specs.history.History.{Entry, Words, overlaid, Agrees, memory_after, used_after}
use Rattle.objects.specs.declared.op.Dispatch.TheVariants as dispatch
use Rattle.objects.specs.semantics.Program.{Method, Program}
use Rattle.objects.specs.semantics.State.{State}
use Rattle.objects.specs.semantics.Call.{Calls, kept}
use Rattle.objects.specs.rewriting.Attempt.{Log, Reply, Bounds, Run, On, Asking, Ended, Stuck, run, run_start, Runs}
use Rattle.objects.specs.history.Meaning.{Represents, region_of}
use Rattle.objects.specs.typing.Source.{AreArguments}
use Rattle.objects.specs.typing.Typing.{Table}
use Rattle.objects.specs.laws.TypingLaw.{IsTypedProgram}
use Rattle.objects.specs.rewriting.Rewriting.{rewritten}
use Rattle.objects.specs.laws.Law.{TellsOf, Simulation, Soundness, SnapshotSoundness, IsOnWay, Matched, Prefix}
use Rattle.objects.proofs.Sound.{IsSound, HasEnded}
use Rattle.objects.proofs.SerialProof.{serial_of}
use Rattle.objects.proofs.Simulated.{simulated}

module _ (P : Program) (Ts : List Table) (S : IsTypedProgram P Ts) (B : Bounds) (m : ℕ) (k : Method) (n : ℤ) (there : slice_get P.methods m ≡ Some k) (static : k.dispatch ≡ dispatch.Static) (marked : k.retries ≡ Some n) (args : List Value) (fit : AreArguments k.parameters args) where
  abbrev Q : Program
  Q = rewritten P Ts

  -- the original's call, as an entry's
  module _ (x : Answer) (used : ℕ) (w r : Log) (e : Entry) (tells : TellsOf B m args x used w r e) (σ τ : State) where
    called : Calls P B.budget B.region m args σ x τ → Calls P B.budget (region_of B.region.size e.call) e.call.method e.call.args σ e.answer τ
    called h =
        subst (λ (g : ℕ). Calls P B.budget (record { number = g; size = B.region.size }) e.call.method e.call.args σ e.answer τ) (sym tells.region)
        (subst (λ (i : ℕ). Calls P B.budget B.region i e.call.args σ e.answer τ) (sym tells.method)
        (subst (λ (vs : List Value). Calls P B.budget B.region m vs σ e.answer τ) (sym tells.given) (subst (λ (y : Answer). Calls P B.budget B.region m args σ y τ) (sym tells.answer) h)))

  module _ (ws : Words) (σ : State) (represents : Represents P B.region.size ws σ) (own : σ.used B.region.number ≡ B.used) where
    sound_at : (vs : List Reply) (c : Run) → run Q B vs (run_start Q B m args) ≡ c → IsSound P Q B m args ws σ c
    sound_at vs c e = subst (IsSound P Q B m args ws σ) e (simulated P Ts S B m k n there static marked args fit ws σ represents own vs)

    pub ended_so : (x : Answer) (used : ℕ) (w r : Log) (runs : Runs Q B m args x used w r) → Agrees ws r → HasEnded P Q B m args ws σ x runs.meter w
    ended_so x used w r runs agrees = (sound_at runs.comes.0 (Ended x runs.meter w r) runs.comes.1 agrees).1 runs.made

    pub never_stuck : (vs : List Reply) (r : Log) → run Q B vs (run_start Q B m args) ≡ Stuck r → Agrees ws r → ⊥
    never_stuck vs r e agrees = sound_at vs (Stuck r) e agrees

    pub matched : (vs : List Reply) (w r : Log) (c : Run) → run Q B vs (run_start Q B m args) ≡ c → IsOnWay w r c → Agrees ws r → Matched P B m args w ws σ
    matched vs w r (On p fs M v s) e way agrees = subst (λ (l : Log). Matched P B m args l ws σ) (sym way.0) (sound_at vs (On p fs M v s) e (subst (Agrees ws) way.1 agrees)).0
    matched vs w r (Asking a fs M v s) e way agrees = subst (λ (l : Log). Matched P B m args l ws σ) (sym way.0) (sound_at vs (Asking a fs M v s) e (subst (Agrees ws) way.1 agrees)).0
    matched vs w r c e way agrees = absurd way

pub simulation : Simulation
simulation P Ts S B m k n there static marked args fit x used w r runs e tells ws σ represents agrees own =
    let own2 : σ.used B.region.number ≡ B.used = ap σ.used (sym tells.region) ∙ own ∙ tells.used_before in
    let h = ended_so P Ts S B m k n there static marked args fit ws σ represents own2 x used w r runs (subst (Agrees ws) tells.reads agrees) in
    let τ : State = kept x σ h.last in
    record {
      after = τ;
      calls = called P Ts S B m k n there static marked args fit x used w r e tells σ τ (record { steps = h.steps; last = h.last; ends = h.ends; leaves = refl });
      represents = subst (λ (l : Log). Represents P B.region.size (overlaid l ws) τ) (sym tells.writes) h.represents;
      used = ap τ.used tells.region ∙ h.own ∙ runs.leaves ∙ sym tells.used_after;
      others = λ region other. h.others region (λ d. other (d ∙ sym tells.region));
    }

pub soundness : Soundness
soundness P Ts S B m k n there static marked args fit vs r e ws σ represents agrees own = never_stuck P Ts S B m k n there static marked args fit ws σ represents own vs r e agrees

pub prefix : Prefix
prefix P Ts S B m k n there static marked args fit vs w r way ws σ represents agrees own = matched P Ts S B m k n there static marked args fit ws σ represents own vs w r _ refl way agrees

pub snapshot_soundness : SnapshotSoundness
snapshot_soundness P Ts S B m k n there static marked args fit vs r e h ws used σ represents has are explained agrees own =
    let after = serial_of P B.region.size B.budget h ws used σ represents has are explained in
    never_stuck P Ts S B m k n there static marked args fit (memory_after h ws) after.after after.represents (after.used B.region.number ∙ ap (used_after h B.region.number) (has B.region.number) ∙ own) vs r e agrees
