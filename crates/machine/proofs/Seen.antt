-- Turns of a call, of which it is known what its attempts have read.
use Rattle.std.proofs.Common.{◌≡◌, ◌≢◌, ◌⊎◌, inl, inr, ℕ, ◌+◌, ◌<◌, List, [], ◌∷◌, ◌++◌, Result, refl, sym, ◌∙◌, arith}
use Rattle.std.proofs.lemmas.List.{append-nil}
use Rattle.jmodel.specs.declared.value.Answer.{Answer}
use Rattle.jmodel.specs.declared.value.Answer.TheVariants as answer
use Rattle.objects.specs.declared.event.Event.{Event}
use Rattle.objects.specs.semantics.Program.{Program}
use Rattle.objects.specs.semantics.Step.{Frames}
use Rattle.objects.specs.semantics.Traps.{IsOpen}
use Rattle.objects.specs.rewriting.Attempt.{Log, Bounds, Meter, Run, On, Ended, Reply, Gives, Refuses, set_back, on_commit, next_run}
use Rattle.objects.specs.rewriting.Events.{AreOfStep}
use Rattle.machine.specs.declared.failure.Failure.{Failure}
use Rattle.machine.specs.declared.running.Running.{Running}
use Rattle.machine.specs.declared.running.Stage.{Stage}
use Rattle.machine.specs.declared.running.Stage.TheVariants.{Ready, Open, Doomed}
use Rattle.machine.specs.declared.running.Todo.{Todo}
use Rattle.machine.specs.Running.{at, frames, meter, phase_of, Way, Knew, Knows, Moves, HasTurned}
use Rattle.machine.proofs.Comes.{run_append}
use Rattle.machine.proofs.Ways.{told_append, way_trans, way_more}
use Rattle.machine.proofs.Knowing.{knew_open, knew_doomed}
use Rattle.machine.proofs.Seeing.{From, To, KnowsFewer, all_to, all_from, known_at, knows_between, knows_append}

-- a way on which K is known of what attempts have read
abbrev pub Seen : Program → Bounds → (Log → Type 0) → Run → List Event → Run → Type 0
Seen P B K c es d = (w : Way P B c es d) × Knows P B K w.0 c

-- one from there on, in which an attempt of this number is open at most
pub seen_on : (P : Program) (B : Bounds) (K : Log → Type 0) → KnowsFewer K → (c d e : Run) (ds es : List Event) (w : Way P B c ds d) → Knows P B K w.0 c → Way P B d es e → (t : ℕ) → From t d → To K t e → Seen P B K c (ds ++ es) e
seen_on P B K fewer c d e ds es (us, p, s) k (vs, q, x) t f l =
    ((us ++ vs, run_append P B us vs c ∙ rw p q, told_append P B us vs c ds es s (rw p x)), knows_append P B K us vs c k (rw p (knows_between P B K fewer t vs d f (rw q l))))

-- the same up to a commit that the engine refuses
pub seen_lost : (P : Program) (B : Bounds) (K : Log → Type 0) → KnowsFewer K → (c d b e : Run) (ds es fs : List Event) (w : Way P B c ds d) → Knows P B K w.0 c → Way P B d es b → (t : ℕ) → From t d → To K t (next_run P B (Gives 0) b)
    → next_run P B Refuses b ≡ e → ((r : Log) → IsOpen r e → ⊥) → AreOfStep P B Refuses b fs → Seen P B K c (ds ++ (es ++ fs)) e
seen_lost P B K fewer c d b e ds es fs (us, p, s) k (vs, q, x) t f l n shut y =
    let ends : To K t b = all_to P B K fewer t (Gives 0 ∷ []) b l in
    let before : Knows P B K vs d = knows_between P B K fewer t vs d f (rw q ends) in
    let last : Knows P B K (Refuses ∷ []) b = (known_at P B K fewer t b (rw q at (all_from P B K fewer t vs d f)) ends, λ r h. absurd (shut r (rw n at h))) in
    let step : (fs ≡ fs ++ []) = sym (append-nil fs) in (
      (
        us ++ (vs ++ Refuses ∷ []),
        run_append P B us (vs ++ Refuses ∷ []) c ∙ rw p (run_append P B vs (Refuses ∷ []) d ∙ rw q n),
        told_append P B us (vs ++ Refuses ∷ []) c ds (es ++ fs) s (rw p (told_append P B vs (Refuses ∷ []) d es fs x (rw q (fs, [], y, refl, step)))),
      ),
      knows_append P B K us (vs ++ Refuses ∷ []) c k (rw p (knows_append P B K vs (Refuses ∷ []) d before (rw q last))),
    )

-- up to what a turn leads to
pub seen_turned : (P : Program) (B : Bounds) (K : Log → Type 0) → KnowsFewer K → (c d : Run) (ds fs : List Event) (T' : List Event → Type 0) (H : Log → Log → Type 0) (a : Running) (result : Result Todo Failure) (e : Run) (v : Reply)
    → (w : Way P B c ds d) → Knows P B K w.0 c → (u : HasTurned P B d T' H a result) → next_run P B v u.before ≡ e → AreOfStep P B v u.before fs → (t : ℕ) → From t d → To K t e → Seen P B K c (ds ++ (u.events ++ fs)) e
seen_turned P B K fewer c d ds fs T' H a result e v w k u q x t f l = seen_on P B K fewer c d e ds (u.events ++ fs) w k (way_more P B d u.before e v u.events fs u.comes q x) t f l

-- ---- by the stage

-- the number of the attempt that is open, or of the next
abbrev pub coming : Stage → ℕ → ℕ
coming Open t = t
coming s t = t + 1

pub from_at : (s : Stage) (fs : Frames) (m : Meter) (w r : Log) → From (coming s m.tried) (On (phase_of s) fs m w r)
from_at Ready fs m w r = omega arith
from_at Open fs m w r = omega arith
from_at Doomed fs m w r = omega arith

-- outside an attempt the next isn't begun
pub before_next : (s : Stage) (k u : ℕ) → Moves s k Ready u → u < coming s k
before_next Ready k u e = omega (arith, e)
before_next Open k u e = absurd e
before_next Doomed k u e = omega (arith, e)

-- in one, its reads are known, or it met a conflict before
pub numbered : (K : Log → Type 0) (s z : Stage) (k u : ℕ) (r : Log) → z ≢ Ready → Moves s k z u → Knew K z u r → (u < coming s k) ⊎ ((u ≡ coming s k) × K r)
numbered K s Ready k u r n e known = absurd (n refl)
numbered K Ready Open k u r n e known = inr (e, knew_open K u r known)
numbered K Ready Doomed k u r n e known = absurd e
numbered K Open Open k u r n e known = inr (e, knew_open K u r known)
numbered K Open Doomed k u r n e known = inr (e, knew_doomed K u r known)
numbered K Doomed Open k u r n e known = absurd e
numbered K Doomed Doomed k u r n e known = inl (omega (arith, e))

pub to_at : (K : Log → Type 0) (s z : Stage) (k : ℕ) (fs : Frames) (m : Meter) (w r : Log) → Moves s k z m.tried → Knew K z m.tried r → To K (coming s k) (On (phase_of z) fs m w r)
to_at K s Ready k fs m w r e known = before_next s k m.tried e
to_at K s Open k fs m w r e known = numbered K s Open k m.tried r (λ q. cc) e known
to_at K s Doomed k fs m w r e known = numbered K s Doomed k m.tried r (λ q. cc) e known

pub to_ended : (K : Log → Type 0) (t : ℕ) (x : Answer) (m : Meter) (w r : Log) → x ≢ answer.Spent → (m.tried < t) ⊎ ((m.tried ≡ t) × K r) → To K t (Ended x m w r)
to_ended K t answer.Spent m w r other l = absurd (other refl)
to_ended K t x m w r other l = l

-- no attempt is open outside one
pub shut : (a : Running) → a.stage ≡ Ready → (w q r : Log) → IsOpen r (at a w q) → ⊥
shut a e w q r h = rw e at h

pub open_not : (z : Stage) → z ≡ Open → z ≢ Ready
open_not z e q = let f : Open ≡ Ready = sym e ∙ q in let no : ⊥ = cc in no

-- ---- from the stage of a call to what it ends as

-- a refusal
pub seen_refused : (P : Program) (B : Bounds) (K : Log → Type 0) → KnowsFewer K → (c : Run) (a : Running) (w r : Log) (ds fs : List Event) (T' : List Event → Type 0) (H : Log → Log → Type 0) (b : Running) (result : Result Todo Failure) (x : Answer) (q : Log) (v : Reply)
    → (k : Way P B c ds (at a w r)) → Knows P B K k.0 c → (u : HasTurned P B (at a w r) T' H b result) → next_run P B v u.before ≡ Ended x (set_back B (meter b)) [] q → AreOfStep P B v u.before fs
    → x ≢ answer.Spent → b.stage ≡ Open → Moves a.stage a.tried b.stage b.tried → Knew K b.stage b.tried q → Seen P B K c (ds ++ (u.events ++ fs)) (Ended x (set_back B (meter b)) [] q)
seen_refused P B K fewer c a w r ds fs T' H b result x q v k known u e t other is moves knew =
    seen_turned P B K fewer c (at a w r) ds fs T' H b result (Ended x (set_back B (meter b)) [] q) v k known u e t (coming a.stage a.tried) (from_at a.stage (frames a) (meter a) w r)
    (to_ended K (coming a.stage a.tried) x (set_back B (meter b)) [] q other (numbered K a.stage b.stage a.tried b.tried q (open_not b.stage is) moves knew))

-- no attempt more
pub seen_spent : (P : Program) (B : Bounds) (K : Log → Type 0) → KnowsFewer K → (c : Run) (a : Running) (w r : Log) (ds fs : List Event) (T' : List Event → Type 0) (H : Log → Log → Type 0) (b : Running) (result : Result Todo Failure) (v : Reply)
    → (k : Way P B c ds (at a w r)) → Knows P B K k.0 c → (u : HasTurned P B (at a w r) T' H b result) → next_run P B v u.before ≡ Ended answer.Spent (meter b) [] [] → AreOfStep P B v u.before fs
    → b.stage ≡ Ready → Moves a.stage a.tried b.stage b.tried → Seen P B K c (ds ++ (u.events ++ fs)) (Ended answer.Spent (meter b) [] [])
seen_spent P B K fewer c a w r ds fs T' H b result v k known u e t is moves =
    seen_turned P B K fewer c (at a w r) ds fs T' H b result (Ended answer.Spent (meter b) [] []) v k known u e t (coming a.stage a.tried) (from_at a.stage (frames a) (meter a) w r)
    (before_next a.stage a.tried b.tried (rw is at moves))

-- a commit: the step of the engine's reply, and those behind it
pub seen_committed : (P : Program) (B : Bounds) (K : Log → Type 0) → KnowsFewer K → (c : Run) (a : Running) (w r : Log) (ds fs gs : List Event) (T' : List Event → Type 0) (H : Log → Log → Type 0) (b : Running) (result : Result Todo Failure) (x : Answer) (n : Run) (y q : Log) (v : Reply)
    → (k : Way P B c ds (at a w r)) → Knows P B K k.0 c → (u : HasTurned P B (at a w r) T' H b result) → next_run P B v u.before ≡ n → AreOfStep P B v u.before fs → Way P B n gs (Ended x (meter b) y q)
    → x ≢ answer.Spent → b.stage ≡ Open → Moves a.stage a.tried b.stage b.tried → Knew K b.stage b.tried q → Seen P B K c (ds ++ ((u.events ++ fs) ++ gs)) (Ended x (meter b) y q)
seen_committed P B K fewer c a w r ds fs gs T' H b result x n y q v k known u e t way other is moves knew =
    seen_on P B K fewer c (at a w r) (Ended x (meter b) y q) ds ((u.events ++ fs) ++ gs) k known
    (way_trans P B (at a w r) n (Ended x (meter b) y q) (u.events ++ fs) gs (way_more P B (at a w r) u.before n v u.events fs u.comes e t) way) (coming a.stage a.tried) (from_at a.stage (frames a) (meter a) w r)
    (to_ended K (coming a.stage a.tried) x (meter b) y q other (numbered K a.stage b.stage a.tried b.tried q (open_not b.stage is) moves knew))

-- a commit that the engine refuses
pub seen_again : (P : Program) (B : Bounds) (K : Log → Type 0) → KnowsFewer K → (c : Run) (a : Running) (w r : Log) (ds fs : List Event) (T' : List Event → Type 0) (H : Log → Log → Type 0) (b : Running) (result : Result Todo Failure) (d : Running) (y q : Log)
    → (k : Way P B c ds (at a w r)) → Knows P B K k.0 c → (u : HasTurned P B (at a w r) T' H b result) → ((v : Reply) → next_run P B v u.before ≡ on_commit B v (frames b) (meter b) y q) → next_run P B Refuses u.before ≡ at d [] [] → AreOfStep P B Refuses u.before fs
    → d.stage ≡ Ready → b.stage ≡ Open → Moves a.stage a.tried b.stage b.tried → Knew K b.stage b.tried q → Seen P B K c (ds ++ (u.events ++ fs)) (at d [] [])
seen_again P B K fewer c a w r ds fs T' H b result d y q k known u commits e t closed is moves knew =
    seen_lost P B K fewer c (at a w r) u.before (at d [] []) ds u.events fs k known u.comes (coming a.stage a.tried) (from_at a.stage (frames a) (meter a) w r)
    (rw (commits (Gives 0)) (numbered K a.stage b.stage a.tried b.tried q (open_not b.stage is) moves knew)) e (λ s h. shut d closed [] [] s h) t
