-- Runs, step by step.
use Rattle.std.proofs.Common.{◌≡◌, ℕ, Bool, List, [], ◌∷◌, ◌++◌, Result, Ok, ◌⊎◌, inl, inr, refl, ap, ◌∙◌}
use Rattle.objects.specs.declared.op.Phase.TheVariants.{Closed}
use Rattle.objects.specs.declared.op.Asking.{Asking}
use Rattle.objects.specs.declared.op.Asking.TheVariants.{Go, Turn, Enter, Return, Throw, Raise, Make, Head, Ask}
use Rattle.objects.specs.declared.op.Made.{Made}
use Rattle.objects.specs.declared.op.Use.{Use}
use Rattle.objects.specs.declared.op.Request.{Request}
use Rattle.objects.specs.declared.op.Request.TheVariants as request
use Rattle.jmodel.specs.declared.value.Answer.TheVariants.{Returned}
use Rattle.objects.specs.semantics.Program.{Program}
use Rattle.objects.specs.semantics.Step.{Frames, Asked, Fails, step}
use Rattle.objects.specs.rewriting.Attempt.{Log, Bounds, Meter, Run, On, Ended, Stuck, Reply, Gives, class_of, threw_of, on_request, on_asked, next_run, run, Comes}
use Rattle.machine.specs.declared.failure.Failure.{Failure}
use Rattle.machine.specs.Meets.{IsStep}

pub run_append : (P : Program) (B : Bounds) (us vs : List Reply) (c : Run) → run P B (us ++ vs) c ≡ run P B vs (run P B us c)
run_append P B [] vs c = refl
run_append P B (u ∷ us) vs c = run_append P B us vs (next_run P B u c)

-- a run from c to d, and one from there on
pub comes_trans : (P : Program) (B : Bounds) (c d e : Run) → Comes P B c d → Comes P B d e → Comes P B c e
comes_trans P B c d e (us, p) (vs, q) = (us ++ vs, run_append P B us vs c ∙ rw p q)

pub comes_here : (P : Program) (B : Bounds) (c : Run) → Comes P B c c
comes_here P B c = ([], refl)

pub comes_next : (P : Program) (B : Bounds) (c d : Run) (v : Reply) → next_run P B v c ≡ d → Comes P B c d
comes_next P B c d v e = (v ∷ [], e)

-- one more step
pub comes_on : (P : Program) (B : Bounds) (c d e : Run) (v : Reply) → Comes P B c d → next_run P B v d ≡ e → Comes P B c e
comes_on P B c d e v h p = comes_trans P B c d e h (comes_next P B d e v p)

-- a step after the commit
abbrev pub after_commit : Program → Log → Log → Meter → Frames → Result Asking Failure → Run
after_commit P w r m gs (Ok Go) = On Closed gs m w r
after_commit P w r m gs (Ok (Return x)) = Ended (Returned x) m w r
after_commit P w r m gs (Ok (Throw o)) = threw_of (class_of P m.thrown o) m w r
after_commit P w r m gs result = Stuck r

closed_request : (P : Program) (B : Bounds) (q : Request) (v : Reply) (fs : Frames) (m : Meter) (w r : Log) → on_request P B q Closed v fs m w r ≡ Stuck r
closed_request P B (request.Get p) v fs m w r = refl
closed_request P B (request.Put p x) v fs m w r = refl
closed_request P B (request.Begin n) v fs m w r = refl
closed_request P B (request.Look p) v fs m w r = refl
closed_request P B (request.Read p t) v fs m w r = refl
closed_request P B (request.Write p x) v fs m w r = refl
closed_request P B request.Commit v fs m w r = refl
closed_request P B request.Rollback v fs m w r = refl

-- after the commit an instruction that asks for anything is stuck
pub closed_step : (P : Program) (B : Bounds) (fs gs : Frames) (m : Meter) (w r : Log) (a : Asking) → IsStep (Ok a) gs (step P fs)
    → next_run P B (Gives 0) (On Closed fs m w r) ≡ after_commit P w r m gs (Ok a)
closed_step P B fs gs m w r Go e = ap (λ (x : Asked). on_asked P B x Closed (Gives 0) m w r) e
closed_step P B fs gs m w r Turn e = ap (λ (x : Asked). on_asked P B x Closed (Gives 0) m w r) e
closed_step P B fs gs m w r (Enter deep) e = ap (λ (x : Asked). on_asked P B x Closed (Gives 0) m w r) e
closed_step P B fs gs m w r (Return x) e = ap (λ (x : Asked). on_asked P B x Closed (Gives 0) m w r) e
closed_step P B fs gs m w r (Throw o) e = ap (λ (x : Asked). on_asked P B x Closed (Gives 0) m w r) e
closed_step P B fs gs m w r (Raise o) e = ap (λ (x : Asked). on_asked P B x Closed (Gives 0) m w r) e
closed_step P B fs gs m w r (Make t n d) e = ap (λ (x : Asked). on_asked P B x Closed (Gives 0) m w r) e
closed_step P B fs gs m w r (Head o u) e = ap (λ (x : Asked). on_asked P B x Closed (Gives 0) m w r) e
closed_step P B fs gs m w r (Ask q) e = ap (λ (x : Asked). on_asked P B x Closed (Gives 0) m w r) e ∙ closed_request P B q (Gives 0) gs m w r

-- a step that fails is stuck
pub fails : (P : Program) (B : Bounds) (fs : Frames) (m : Meter) (w r : Log) → step P fs ≡ Fails → next_run P B (Gives 0) (On Closed fs m w r) ≡ Stuck r
fails P B fs m w r e = ap (λ (x : Asked). on_asked P B x Closed (Gives 0) m w r) e

abbrev IsWanting : Asking → Type 0
IsWanting a = (a ≡ Turn) ⊎ (((x : Bool) × (a ≡ Enter x)) ⊎ (((x : ℕ) × (a ≡ Raise x)) ⊎ (((x : ℕ) × (y : ℕ) × (z : Made) × (a ≡ Make x y z)) ⊎ (((x : ℕ) × (y : Use) × (a ≡ Head x y)) ⊎ ((x : Request) × (a ≡ Ask x))))))

-- what isn't Go, Return or Throw is stuck
pub closed_stuck : (P : Program) (B : Bounds) (fs gs : Frames) (m : Meter) (w r : Log) (a : Asking) → IsWanting a
    → IsStep (Ok a) gs (step P fs) → next_run P B (Gives 0) (On Closed fs m w r) ≡ Stuck r
closed_stuck P B fs gs m w r a k e = closed_step P B fs gs m w r a e ∙ is_stuck k
  where
    is_stuck : IsWanting a → after_commit P w r m gs (Ok a) ≡ Stuck r
    is_stuck (inl q) = rw q refl
    is_stuck (inr (inl q)) = rw q.1 refl
    is_stuck (inr (inr (inl q))) = rw q.1 refl
    is_stuck (inr (inr (inr (inl q)))) = rw q.3 refl
    is_stuck (inr (inr (inr (inr (inl q))))) = rw q.2 refl
    is_stuck (inr (inr (inr (inr (inr q))))) = rw q.1 refl
