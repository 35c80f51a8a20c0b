-- The code after a commit.
use Rattle.std.proofs.Common.{◌≡◌, ℕ, List, [], Result, Ok, Err}
use Rattle.jmodel.specs.declared.value.Answer.{Answer}
use Rattle.jmodel.specs.history.History.{Call, Entry}
use Rattle.objects.specs.declared.op.Phase.TheVariants.{Closed}
use Rattle.objects.specs.semantics.Program.{Program}
use Rattle.objects.specs.semantics.Step.{Frames, step}
use Rattle.objects.specs.rewriting.Attempt.{Log, Bounds, Meter, Run, On, Stuck, Reply, Gives, next_run}
use Rattle.machine.specs.declared.failure.Failure.{Failure}
use Rattle.machine.specs.declared.failure.Failure.TheVariants as failure
use Rattle.machine.specs.declared.running.Running.{Running}
use Rattle.machine.specs.Meets.{IsStep}
use Rattle.machine.specs.Running.{Way, Holds, IsFinished, IsCommit}
use Rattle.machine.proofs.Comes.{fails}
use Rattle.machine.proofs.Ways.{way_trans, way_quiet, closed_quiet}

-- a step after the commit tells nothing
pub closed_on : (P : Program) (B : Bounds) (c d : Run) (fs : Frames) (m : Meter) (w r : Log) → Way P B c [] (On Closed fs m w r) → next_run P B (Gives 0) (On Closed fs m w r) ≡ d → Way P B c [] d
closed_on P B c d fs m w r h e = way_quiet P B c (On Closed fs m w r) d (Gives 0) h e (closed_quiet P B (step P fs) (Gives 0) m)

-- a run after the commit ends on an error
pub finish_fails : (P : Program) (B : Bounds) (c : Run) (fs gs : Frames) (m : Meter) (w r : Log) (e : Failure) → Way P B c [] (On Closed fs m w r)
    → IsStep (Err e) gs (step P fs) → IsFinished P B c m w r (Err e)
finish_fails P B c fs gs m w r failure.Wrong h e = closed_on P B c (Stuck r) fs m w r h (fails P B fs m w r e)
finish_fails P B c fs gs m w r failure.NoMemory h e = tt

-- a run that comes to another ends as that does
pub finish_from : (P : Program) (B : Bounds) (c d : Run) (m : Meter) (w r : Log) (x : Result Answer Failure) → Way P B c [] d → IsFinished P B d m w r x → IsFinished P B c m w r x
finish_from P B c d m w r (Ok x) h t = (way_trans P B c d _ [] [] h t.0, t.1)
finish_from P B c d m w r (Err failure.Wrong) h t = way_trans P B c d (Stuck r) [] [] h t
finish_from P B c d m w r (Err failure.NoMemory) h t = tt

-- a commit whose call has no value
pub commit_fails : (P : Program) (B : Bounds) (c : Reply → Run) (A : Call → ℕ → Type 0) (allows : Entry → Type 0) (K : Log → Type 0) (S : List Entry → ℕ → Log → Log → Type 0) (h : List Entry) (n : ℕ) (r w : Log) (a : Running) (m : Meter) (e : Failure)
    → IsFinished P B (c (Gives 0)) m w r (Err e) → Holds (S h) K n a.stage a.tried r w → IsCommit P B c A allows K S h n m r w a (Err e)
commit_fails P B c A allows K S h n r w a m failure.Wrong f s = (s, f)
commit_fails P B c A allows K S h n r w a m failure.NoMemory f s =
    record { conflicts = s.conflicts; reads = r; writes = w; later = s.later; stands = s.stands; idle = s.idle }
