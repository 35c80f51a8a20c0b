-- A turn whose last instruction leaves something to be done.
use Rattle.std.proofs.Common.{◌≡◌, List, [], ◌∷◌, Result, Ok}
use Rattle.objects.specs.declared.event.Event.{Event}
use Rattle.objects.specs.declared.op.Doing.{Doing}
use Rattle.objects.specs.declared.op.Asking.{Asking}
use Rattle.objects.specs.semantics.Program.{Program}
use Rattle.objects.specs.semantics.Step.{Frame, Frames, on_doing}
use Rattle.objects.specs.rewriting.Attempt.{Log, Bounds, On, on_asking}
use Rattle.objects.specs.rewriting.Events.{AreOfAsking}
use Rattle.machine.specs.declared.failure.Failure.{Failure}
use Rattle.machine.specs.declared.running.Running.{Running}
use Rattle.machine.specs.declared.running.Todo.{Todo}
use Rattle.machine.specs.Meets.{IsStep}
use Rattle.machine.specs.Running.{at, meter, phase_of, IsTurn, IsPlain, HasTurned}
use Rattle.machine.proofs.Turning.{turned_from, turned_waiting, waits_step, step_is}

-- what it asks for with these frames is served
pub turned_asks : (P : Program) (B : Bounds) (a b : Running) (f : Frame) (fs : Frames) (a' : Running) (d : Doing) (x : Asking) (T : List Event → Type 0) (H : Log → Log → Type 0) (result : Result Todo Failure) (w r : Log)
    → IsPlain P a b (Ok d) → IsStep (Ok x) (f ∷ fs) (on_doing P d b.frame b.callers)
    → IsTurn B (λ v. on_asking P B x (phase_of b.stage) v (f ∷ fs) (meter b) w r) (λ v. AreOfAsking P B x (phase_of b.stage) v (meter b)) T H a' result
    → HasTurned P B (at a w r) T H a' result
turned_asks P B a b f fs a' d x T H result w r k e t =
    let c = record b { frame = f; callers = fs } in
    let run = On (phase_of b.stage) (k.frame ∷ b.callers) (meter b) w r in
    turned_from P B (at a w r) run [] T T H a' result (k.comes B w r) tt (λ es t. t)
    (turned_waiting P B x c a' w r run T H result (waits_step P B c (k.frame ∷ b.callers) x w r (step_is (f ∷ fs) x _ _ (k.does b.callers) e)) t)
