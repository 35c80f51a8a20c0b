-- Instructions that ask for nothing, one after another.
use Rattle.std.proofs.Common.{◌≡◌, ℕ, ℤ, suc, Bool, true, false, ◌&&◌, nat_le, [], ◌∷◌, Result, Ok, Err, Option, Some, None, option_and_then, slice_get, refl, ap, ◌∙◌}
use Rattle.objects.specs.declared.op.Op.{Op}
use Rattle.objects.specs.declared.op.Doing.{Doing}
use Rattle.objects.specs.declared.op.Doing.TheVariants.{Next, Jump, Trap}
use Rattle.objects.specs.declared.op.Phase.{Phase}
use Rattle.objects.specs.declared.op.Phase.TheVariants.{Open}
use Rattle.objects.specs.semantics.Program.{Program, Method, method_at, op_at, is_counted, is_counted_in}
use Rattle.objects.specs.semantics.Step.{Frame, Frames, Asked, Does, Wrong, Fails, step, acts, does, next, at as at_place, jumps, goes, on_did, on_doing}
use Rattle.objects.specs.rewriting.Attempt.{Log, Bounds, Meter, Run, On, Gives, on_asked, next_run, with_turns}
use Rattle.machine.specs.declared.failure.Failure.{Failure}
use Rattle.machine.specs.declared.failure.Failure.TheVariants as failure
use Rattle.machine.specs.declared.running.Running.{Running}
use Rattle.machine.specs.declared.plain.Flow.{Flow}
use Rattle.machine.specs.declared.plain.Flow.TheVariants as flow
use Rattle.machine.specs.declared.plain.Outcome.{Outcome}
use Rattle.machine.specs.declared.plain.Outcome.TheVariants as outcome
use Rattle.machine.specs.declared.plain.Over.{Over}
use Rattle.machine.specs.declared.plain.Over.TheVariants as over
use Rattle.machine.specs.declared.plain.OverTwo.{OverTwo}
use Rattle.machine.specs.declared.plain.OverTwo.TheVariants as over_two
use Rattle.machine.specs.Meets.{Meets, IsDone, Flows, IsFlow, FlowsOn, IsOutcome, FlowsOver, IsOver, FlowsOverTwo, IsOverTwo, HasOps, with_int}
use Rattle.machine.specs.Running.{at, meter, phase_of, Way, Reaches, HasDone, IsStraight, IsGone, IsPlain}
use Rattle.machine.proofs.Ways.{way_here, way_trans, way_quiet, step_tells, jump_quiet}

-- the instruction that a frame stands at
pub step_at : (P : Program) (f : Frame) (fs : Frames) (o : Op) → op_at P f.method f.pc ≡ Some o → step P (f ∷ fs) ≡ on_did P (does P o f) fs
step_at P f fs o e = ap (λ x. acts P x f fs) e

pub step_none : (P : Program) (f : Frame) (fs : Frames) → op_at P f.method f.pc ≡ None → step P (f ∷ fs) ≡ Fails
step_none P f fs e = ap (λ x. acts P x f fs) e

pub step_does : (P : Program) (f g : Frame) (fs : Frames) (o : Op) (d : Doing) → op_at P f.method f.pc ≡ Some o → does P o f ≡ Does d g → step P (f ∷ fs) ≡ on_doing P d g fs
step_does P f g fs o d e h = step_at P f fs o e ∙ ap (λ x. on_did P x fs) h

pub step_wrong : (P : Program) (f : Frame) (fs : Frames) (o : Op) → op_at P f.method f.pc ≡ Some o → does P o f ≡ Wrong → step P (f ∷ fs) ≡ Fails
step_wrong P f fs o e h = step_at P f fs o e ∙ ap (λ x. on_did P x fs) h

-- the instruction at a place of a method of the program
pub op_found : (P : Program) (m pc : ℕ) (k : Method) (o : Op) → method_at P m ≡ Some k → slice_get k.ops pc ≡ Some o → op_at P m pc ≡ Some o
op_found P m pc k o e h = ap (λ (x : Option Method). option_and_then (λ (y : Method). slice_get y.ops pc) x) e ∙ h

pub op_missing : (P : Program) (m pc : ℕ) (k : Method) → method_at P m ≡ Some k → slice_get k.ops pc ≡ None → op_at P m pc ≡ None
op_missing P m pc k e h = ap (λ (x : Option Method). option_and_then (λ (y : Method). slice_get y.ops pc) x) e ∙ h

pub method_missing : (P : Program) (m pc : ℕ) → method_at P m ≡ None → op_at P m pc ≡ None
method_missing P m pc e = ap (λ (x : Option Method). option_and_then (λ (y : Method). slice_get y.ops pc) x) e

pub counted_of : (P : Program) (m : ℕ) (k : Method) → method_at P m ≡ Some k → is_counted P m ≡ k.counted
counted_of P m k e = ap is_counted_in e

-- what an instruction does, seen from the step
pub done_of : (P : Program) (f g : Frame) (fs : Frames) (o : Op) (x : Result Doing Failure) → op_at P f.method f.pc ≡ Some o → Meets x g (does P o f) → IsDone P x g fs (step P (f ∷ fs))
done_of P f g fs o (Ok d) e h = step_does P f g fs o d e h
done_of P f g fs o (Err failure.Wrong) e h = step_wrong P f fs o e h
done_of P f g fs o (Err failure.NoMemory) e h = tt

pub done_none : (P : Program) (f : Frame) (fs : Frames) (e : Failure) → e ≡ failure.Wrong → op_at P f.method f.pc ≡ None → IsDone P (Err e) f fs (step P (f ∷ fs))
done_none P f fs e q h = rw q (step_none P f fs h)

pub has_ops : (P : Program) (m : ℕ) (k : Method) → method_at P m ≡ Some k → HasOps P m k.ops
has_ops P m k e = λ pc. ap (λ (x : Option Method). option_and_then (λ (y : Method). slice_get y.ops pc) x) e

-- a run after a step whose frames are these
pub runs_step : (P : Program) (B : Bounds) (fs : Frames) (x : Asked) (p : Phase) (m : Meter) (w r : Log) → step P fs ≡ x
    → next_run P B (Gives 0) (On p fs m w r) ≡ on_asked P B x p (Gives 0) m w r
runs_step P B fs x p m w r e = ap (λ (y : Asked). on_asked P B y p (Gives 0) m w r) e

-- a jump that is no turn
pub jumps_free : (P : Program) (B : Bounds) (counts : Bool) (to : ℕ) (f : Frame) (fs : Frames) (p : Phase) (m : Meter) (w r : Log)
    → is_counted P f.method ≡ counts → (counts && nat_le to f.pc) ≡ false
    → on_asked P B (jumps P to f fs) p (Gives 0) m w r ≡ On p (at_place to f ∷ fs) m w r
jumps_free P B counts to f fs p m w r e h =
    ap (λ (x : Bool). on_asked P B (goes (x && nat_le to f.pc) (at_place to f ∷ fs)) p (Gives 0) m w r) e
    ∙ ap (λ (x : Bool). on_asked P B (goes x (at_place to f ∷ fs)) p (Gives 0) m w r) h

-- a jump that is a turn, of which the attempt has more
pub jumps_turn : (P : Program) (B : Bounds) (counts : Bool) (to k : ℕ) (f : Frame) (fs : Frames) (m : Meter) (w r : Log)
    → is_counted P f.method ≡ counts → (counts && nat_le to f.pc) ≡ true → m.turns ≡ suc k
    → on_asked P B (jumps P to f fs) Open (Gives 0) m w r ≡ On Open (at_place to f ∷ fs) (record m { turns = k }) w r
jumps_turn P B counts to k f fs m w r e h t =
    ap (λ (x : Bool). on_asked P B (goes (x && nat_le to f.pc) (at_place to f ∷ fs)) Open (Gives 0) m w r) e
    ∙ ap (λ (x : Bool). on_asked P B (goes x (at_place to f ∷ fs)) Open (Gives 0) m w r) h
    ∙ ap (λ (n : ℕ). with_turns B n (at_place to f ∷ fs) m w r) t

-- what an instruction that may not be done leads to, seen from the step
pub flow_of : (P : Program) (f g : Frame) (fs : Frames) (o : Op) (x : Result Flow Failure) → op_at P f.method f.pc ≡ Some o → Flows x g f (does P o f) → IsFlow P x g f fs (step P (f ∷ fs))
flow_of P f g fs o (Ok flow.Next) e h = step_does P f g fs o Next e h
flow_of P f g fs o (Ok (flow.Jump to)) e h = step_does P f g fs o (Jump to) e h
flow_of P f g fs o (Ok (flow.Trap t)) e h = step_does P f g fs o (Trap t) e h
flow_of P f g fs o (Ok flow.Other) e h = h
flow_of P f g fs o (Err x) e h = done_of P f g fs o (Err x) e h

-- the same where an int may be held behind it
pub outcome_of : (P : Program) (f g : Frame) (fs : Frames) (o : Op) (x : Result Outcome Failure) → op_at P f.method f.pc ≡ Some o → FlowsOn x g f (does P o f) → IsOutcome P x g f fs (step P (f ∷ fs))
outcome_of P f g fs o (Ok (outcome.Int i)) e h = step_does P f (with_int i g) fs o Next e h
outcome_of P f g fs o (Ok (outcome.Flow w)) e h = flow_of P f g fs o (Ok w) e h
outcome_of P f g fs o (Err x) e h = done_of P f g fs o (Err x) e h

-- the same before which an int is held
pub over_of : (P : Program) (f g : Frame) (fs : Frames) (o : Op) (x : Result Over Failure) (top : ℤ) → op_at P f.method f.pc ≡ Some o → FlowsOver x top g f (does P o f) → IsOver P x top g f fs (step P (f ∷ fs))
over_of P f g fs o (Ok (over.Int i)) top e h = step_does P f (with_int i g) fs o Next e h
over_of P f g fs o (Ok (over.Pair i)) top e h = step_does P f (with_int i (with_int top g)) fs o Next e h
over_of P f g fs o (Ok (over.Flow w)) top e h = flow_of P f g fs o (Ok w) e h
over_of P f g fs o (Err x) top e h = done_of P f g fs o (Err x) e h

-- the same before which two ints are held
pub over_two_of : (P : Program) (f g : Frame) (fs : Frames) (o : Op) (r : Result OverTwo Failure) (x y : ℤ) → op_at P f.method f.pc ≡ Some o → FlowsOverTwo r x y g f (does P o f) → IsOverTwo P r x y g f fs (step P (f ∷ fs))
over_two_of P f g fs o (Ok (over_two.Int z)) x y e h = step_does P f (with_int z g) fs o Next e h
over_two_of P f g fs o (Ok (over_two.Third z)) x y e h = step_does P f (with_int z (with_int y (with_int x g))) fs o Next e h
over_two_of P f g fs o (Ok (over_two.Flow w)) x y e h = flow_of P f g fs o (Ok w) e h
over_two_of P f g fs o (Ok over_two.Under) x y e h = h
over_two_of P f g fs o (Err z) x y e h = done_of P f g fs o (Err z) e h

module _ (P : Program) (f g f' : Frame) where
  -- one more instruction of a frame that goes on to the next
  pub reaches_next : (h : Frame) → Reaches P f g → ((fs : Frames) → step P (g ∷ fs) ≡ on_doing P Next f' fs) → h ≡ next f' → Reaches P f h
  reaches_next h k e q = λ B p fs m w r.
      way_quiet P B (On p (f ∷ fs) m w r) (On p (g ∷ fs) m w r) (On p (h ∷ fs) m w r) (Gives 0) (k B p fs m w r)
      (runs_step P B (g ∷ fs) _ p m w r (e fs) ∙ rw q refl)
      (step_tells P B (Gives 0) p (g ∷ fs) m w r (on_doing P Next f' fs) [] (e fs) refl)

  -- or one that doesn't
  pub straight_ends : (x : Result Flow Failure) → Reaches P f g → ((fs : Frames) → IsFlow P x f' g fs (step P (g ∷ fs))) → IsStraight P f f' x
  straight_ends (Ok flow.Next) k h = record { frame = g; reaches = k; does = h }
  straight_ends (Ok (flow.Jump to)) k h = record { frame = g; reaches = k; does = h }
  straight_ends (Ok (flow.Trap t)) k h = record { frame = g; reaches = k; does = h }
  straight_ends (Ok flow.Other) k h = rw (h []) k
  straight_ends (Err e) k h = record { frame = g; reaches = k; does = h }

  -- or that an int is held behind
  pub reaches_held : (x : ℤ) (h : Frame) → Reaches P f g → ((fs : Frames) → step P (g ∷ fs) ≡ on_doing P Next (with_int x f') fs) → h ≡ next f' → Reaches P f (with_int x h)
  reaches_held x h k e q = λ B p fs m w r.
      way_quiet P B (On p (f ∷ fs) m w r) (On p (g ∷ fs) m w r) (On p (with_int x h ∷ fs) m w r) (Gives 0) (k B p fs m w r)
      (runs_step P B (g ∷ fs) _ p m w r (e fs) ∙ rw q refl)
      (step_tells P B (Gives 0) p (g ∷ fs) m w r (on_doing P Next (with_int x f') fs) [] (e fs) refl)

  -- more instructions, before those that are done
  pub reaches_trans : Reaches P f g → Reaches P g f' → Reaches P f f'
  reaches_trans k h = λ B p fs m w r.
      way_trans P B (On p (f ∷ fs) m w r) (On p (g ∷ fs) m w r) (On p (f' ∷ fs) m w r) [] [] (k B p fs m w r) (h B p fs m w r)

module _ (P : Program) (f g f' : Frame) (k : Reaches P f g) where
  done_behind : (x : Result Doing Failure) → HasDone P g f' x → HasDone P f f' x
  done_behind x h = record { frame = h.frame; reaches = reaches_trans P f g h.frame k h.reaches; does = h.does }

  pub straight_behind : (x : Result Flow Failure) → IsStraight P g f' x → IsStraight P f f' x
  straight_behind (Ok flow.Next) h = done_behind (Ok Next) h
  straight_behind (Ok (flow.Jump to)) h = done_behind (Ok (Jump to)) h
  straight_behind (Ok (flow.Trap t)) h = done_behind (Ok (Trap t)) h
  straight_behind (Ok flow.Other) h = reaches_trans P f g f' k h
  straight_behind (Err e) h = done_behind (Err e) h

pub reaches_here : (P : Program) (f : Frame) → Reaches P f f
reaches_here P f = λ B p fs m w r. way_here P B (On p (f ∷ fs) m w r)

module _ (P : Program) (a b : Running) (k : (B : Bounds) (w r : Log) → Way P B (at a w r) [] (at b w r)) where
  -- what comes behind others
  pub way_behind : (B : Bounds) (w r : Log) (d : Run) → Way P B (at b w r) [] d → Way P B (at a w r) [] d
  way_behind B w r d h = way_trans P B (at a w r) (at b w r) d [] [] (k B w r) h

  -- instructions of the current frame
  pub goes_on : (g : Frame) → Reaches P b.frame g → (B : Bounds) (w r : Log) → Way P B (at a w r) [] (at (record b { frame = g }) w r)
  goes_on g h = λ B w r. way_behind B w r (at (record b { frame = g }) w r) (h B (phase_of b.stage) b.callers (meter b) w r)

  pub gone_ends : (f : Frame) (x : Result Flow Failure) → IsStraight P b.frame f x → IsGone P a (record b { frame = f }) x
  gone_ends f (Ok flow.Next) h = record { frame = h.frame; comes = goes_on h.frame h.reaches; does = h.does }
  gone_ends f (Ok (flow.Jump to)) h = record { frame = h.frame; comes = goes_on h.frame h.reaches; does = h.does }
  gone_ends f (Ok (flow.Trap t)) h = record { frame = h.frame; comes = goes_on h.frame h.reaches; does = h.does }
  gone_ends f (Ok flow.Other) h = goes_on f h
  gone_ends f (Err e) h = record { frame = h.frame; comes = goes_on h.frame h.reaches; does = h.does }

  -- and a jump
  pub goes_jump : (f : Frame) (to : ℕ) (c : Running) → HasDone P b.frame f (Ok (Jump to))
      → ((B : Bounds) (w r : Log) → on_asked P B (jumps P to f b.callers) (phase_of b.stage) (Gives 0) (meter b) w r ≡ at c w r)
      → (B : Bounds) (w r : Log) → Way P B (at a w r) [] (at c w r)
  goes_jump f to c h j = λ B w r.
      way_quiet P B (at a w r) (On (phase_of b.stage) (h.frame ∷ b.callers) (meter b) w r) (at c w r) (Gives 0) (goes_on h.frame h.reaches B w r)
      (runs_step P B (h.frame ∷ b.callers) _ (phase_of b.stage) (meter b) w r (h.does b.callers) ∙ j B w r)
      (step_tells P B (Gives 0) (phase_of b.stage) (h.frame ∷ b.callers) (meter b) w r (jumps P to f b.callers) [] (h.does b.callers)
      (jump_quiet P B (is_counted P f.method && nat_le to f.pc) (at_place to f ∷ b.callers) (phase_of b.stage) (Gives 0) (meter b)))

  -- a stretch of instructions
  pub plain_behind : (c : Running) (x : Result Doing Failure) → IsPlain P b c x → IsPlain P a c x
  plain_behind c x h = record {
    frame = h.frame;
    comes = λ B w r. way_behind B w r (On (phase_of c.stage) (h.frame ∷ c.callers) (meter c) w r) (h.comes B w r);
    does = h.does;
  }

  -- an instruction of another kind
  pub goes_next : (g f : Frame) → ((fs : Frames) → step P (b.frame ∷ fs) ≡ on_doing P Next g fs) → f ≡ next g
      → (B : Bounds) (w r : Log) → Way P B (at a w r) [] (at (record b { frame = f }) w r)
  goes_next g f e q = goes_on f (reaches_next P b.frame b.frame g f (reaches_here P b.frame) e q)
