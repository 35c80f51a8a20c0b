-- Where a call of the original method ends, a run of the rewritten code ends with the same answer and state.
use Rattle.std.proofs.Common.{◌≡◌, ℕ, ℤ, ◌+◌, ◌<◌, List, length, Some, false, refl, sym, ap, subst, ◌∙◌, arith}
use Rattle.std.specs.Prelude.{slice_get, nat_eq}
use Rattle.std.specs.List.{AllByRecursion, flat_map}
use Rattle.jmodel.specs.declared.value.Value.{Value}
use Rattle.jmodel.specs.declared.value.Answer.{Answer}
use Rattle.jmodel.specs.history.History.{Words, overlaid}
use Rattle.objects.specs.declared.op.Slot.{Slot}
use Rattle.objects.specs.declared.op.Dispatch.TheVariants as dispatch
use Rattle.objects.specs.semantics.Value.{slots_of}
use Rattle.objects.specs.semantics.Program.{Method, Program, is_counted}
use Rattle.objects.specs.semantics.Step.{catch_at}
use Rattle.objects.specs.semantics.State.{State}
use Rattle.objects.specs.semantics.Call.{Calls}
use Rattle.objects.specs.rewriting.Attempt.{Bounds, Run, run_start, count_of}
use Rattle.objects.specs.history.Meaning.{Represents}
use Rattle.objects.specs.typing.Typing.{Table}
use Rattle.objects.specs.laws.TypingLaw.{IsTypedProgram}
use Rattle.objects.specs.typing.Source.{AreArguments}
use Rattle.objects.specs.rewriting.Rewriting.{rewritten, wrapper_method, conflict_at}
use Rattle.objects.specs.laws.Law.{Completion, Meets}
use Rattle.objects.proofs.Inner.{IsAdded, IsInnerOp}
use Rattle.objects.proofs.Selection.{duplicate_is, selected_moved}
use Rattle.objects.proofs.Wrapper.{call_place}
use Rattle.objects.proofs.Places.{Rewrites, rewrites}
use Rattle.objects.proofs.Walking.{Serves}
use Rattle.objects.proofs.Served.{all_served}
use Rattle.objects.proofs.Simulated.{wrapper_there, is_wrapper, has_typing, is_tied, ops_inner, uncounted, catch, catch_other}
use Rattle.objects.proofs.Completes.{Completes, Goal, Astray, complete_goal}
use Rattle.objects.proofs.Completing.{completes_runs}
use Rattle.objects.proofs.Unspent.{call_unspent}

module _ (P : Program) (Ts : List Table) (S : IsTypedProgram P Ts) (B : Bounds) (m : ℕ) (k : Method) (n : ℤ) (there : slice_get P.methods m ≡ Some k) (static : k.dispatch ≡ dispatch.Static) (marked : k.retries ≡ Some n) (some_retries : 0 < count_of n) (some_attempts : 0 < B.attempts)
    (args : List Value) (fit : AreArguments k.parameters args) (ws : Words) (σ : State) (represents : Represents P B.region.size ws σ) (own : σ.used B.region.number ≡ B.used) (x : Answer) (τ : State) (calls : Calls P B.budget B.region m args σ x τ) where
  abbrev Q : Program
  Q = rewritten P Ts

  abbrev R : Rewrites P Ts Q
  R = rewrites P Ts

  abbrev slots : List Slot
  slots = flat_map slots_of args

  abbrev inner : (i : ℕ) (o : Method) → IsAdded Q (length P.methods) i → slice_get Q.methods i ≡ Some o → AllByRecursion (IsInnerOp Q (length P.methods)) o.ops
  inner = ops_inner P Ts S B m k n there static marked

  abbrev plain : is_counted Q m ≡ false
  plain = uncounted P Ts S B m k n there static marked

  abbrev met : catch_at Q m (call_place k + 1) 0 ≡ Some (conflict_at k)
  met = catch P Ts S B m k n there static marked

  abbrev other : (t : ℕ) → nat_eq t 0 ≡ false → catch_at Q m (call_place k + 1) t ≡ Some (conflict_at k + 4)
  other = catch_other P Ts S B m k n there static marked

  abbrev IsGoal : ℕ → Run → Type 0
  IsGoal = Goal P Ts S Q B m args ws σ x calls.last

  serves : Serves P Ts S Q B m args ws σ k.result k.places (call_place k) (conflict_at k) slots (length P.methods) inner plain met other IsGoal
  serves =
      all_served P Ts S Q R (duplicate_is P Ts) (selected_moved P Ts S.source.names) B m args ws σ k.result k.places (call_place k) (conflict_at k) slots (length P.methods) inner plain met other IsGoal (Astray P Ts S Q B m args ws σ x calls.last)
      (complete_goal P Ts S Q B m args ws σ x calls.last k.result k.places (call_place k) (conflict_at k) slots (length P.methods) inner plain met other) (omega arith)

  led : Completes P Ts S Q B m args ws σ x calls.last (run_start Q B m args)
  led =
      completes_runs P Ts S Q R (length P.methods) inner B m k there static (has_typing P Ts S B m k n there static marked).table (is_tied P Ts S B m k n there static marked) args fit ws σ represents own
      (wrapper_method P (R.wrapper m k n there marked).0 m n k) (wrapper_there P Ts S B m k n there static marked) refl refl (R.wrapper m k n there marked).0 n (call_place k) (conflict_at k) (is_wrapper P Ts S B m k n there static marked) plain met other
      some_retries some_attempts x calls.last calls.steps calls.ends serves

  pub meets : Meets P Ts B m args ws x τ
  meets = record {
    writes = led.writes;
    reads = led.reads;
    runs = record { meter = led.meter; comes = (led.replies, led.comes); leaves = led.used ∙ ap (λ (ρ : State). ρ.used B.region.number) (sym calls.leaves); made = call_unspent P B.region calls.steps m args B.budget σ x calls.last calls.ends };
    agrees = led.agrees;
    represents = subst (Represents P B.region.size (overlaid led.writes ws)) (sym calls.leaves) led.represents;
  }

pub completion : Completion
completion P Ts S B m k n there static marked some_retries some_attempts args fit ws σ represents own x τ calls = meets P Ts S B m k n there static marked some_retries some_attempts args fit ws σ represents own x τ calls
