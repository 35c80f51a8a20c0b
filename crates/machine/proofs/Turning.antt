-- One turn of a call, from what the engine and the frames do.
use Rattle.std.proofs.Common.{◌≡◌, ℕ, zero, suc, true, false, List, [], ◌∷◌, ◌++◌, Some, None, Result, Ok, Err, Option, ◌⊎◌, inl, inr, refl, ap, subst, sym, ◌∙◌}
use Rattle.std.proofs.lemmas.List.{append_assoc}
use Rattle.jmodel.specs.declared.value.Value.{Value}
use Rattle.objects.specs.declared.event.Event.{Event}
use Rattle.objects.specs.declared.op.Doing.{Doing}
use Rattle.objects.specs.declared.op.Place.{Place}
use Rattle.objects.specs.declared.op.WordType.{WordType}
use Rattle.objects.specs.declared.op.Asking.{Asking}
use Rattle.objects.specs.declared.op.Asking.TheVariants as A
use Rattle.objects.specs.declared.op.Request.{Request}
use Rattle.objects.specs.declared.op.Request.TheVariants as request
use Rattle.objects.specs.declared.op.Use.{Use}
use Rattle.objects.specs.declared.op.Use.TheVariants as U
use Rattle.objects.specs.declared.op.Element.TheVariants as element
use Rattle.objects.specs.declared.op.Made.{Made}
use Rattle.objects.specs.declared.op.Slot.TheVariants as slot
use Rattle.objects.specs.declared.op.Phase.{Phase}
use Rattle.objects.specs.declared.op.Phase.TheVariants.{Ready, Open, Doomed, Closed}
use Rattle.objects.specs.semantics.Value.{pushed, value_of}
use Rattle.objects.specs.semantics.Program.{Program}
use Rattle.objects.specs.semantics.Step.{Frames, Asked, Asks, Fails, step, on_doing, resumed}
use Rattle.objects.specs.rewriting.Attempt.{Comes, Log, Bounds, Meter, Run, On, Stuck, Reply, Gives, returned, threw, address, answered, written, recorded, on_read, on_head, heads, heading, making, followed, on_asking, on_asked, next_run, turned, with_turns, with_depth, entered}
use Rattle.objects.specs.rewriting.Attempt as attempt
use Rattle.objects.specs.rewriting.Events.{AreOfAsking, AreOfStep, AreOfHead, AreOfHeader, AreOpen}
use Rattle.machine.specs.declared.failure.Failure.{Failure}
use Rattle.machine.specs.declared.failure.Failure.TheVariants as failure
use Rattle.machine.specs.declared.running.Running.{Running}
use Rattle.machine.specs.declared.running.Todo.{Todo}
use Rattle.machine.specs.declared.running.Todo.TheVariants.{Go, Commit, Refuse, Spent}
use Rattle.machine.specs.declared.running.Stage.{Stage}
use Rattle.machine.specs.declared.running.Stage.TheVariants as stage
use Rattle.machine.specs.Meets.{IsStep, GoesOn, loads_plain}
use Rattle.machine.specs.Running.{at, frames, meter, phase_of, Lands, Waits, IsNotHead, IsHeaded, IsFollowed, Following, Way, Told, IsTurn, IsPlain, HasTurned}
use Rattle.machine.proofs.Ways.{none_told, nothing_told, none_after, told_as, open_append, way_here, way_trans, way_more, step_tells}

-- a reply, what was told, and what holds after it, make a turn
pub turn_of : (B : Bounds) (f : Reply → Run) (D : Reply → List Event → Type 0) (T : List Event → Type 0) (H : Log → Log → Type 0) (a : Running) (result : Result Todo Failure) (r w : Log) (v : Reply)
    → H r w → Lands B (f v) a w r result → Told (D v) T → IsTurn B f D T H a result
turn_of B f D T H a (Ok Go) r w v h e t = (r, w, h, (v, e, t))
turn_of B f D T H a (Ok Commit) r w v h e t = absurd e
turn_of B f D T H a (Ok (Refuse l)) r w v h e t = (r, w, h, (v, e, t))
turn_of B f D T H a (Ok Spent) r w v h e t = (r, w, h, (v, e, t))
turn_of B f D T H a (Err failure.Wrong) r w v h e t = (r, w, h, (v, e, t))
turn_of B f D T H a (Err failure.NoMemory) r w v h e t = (r, w, h, none_told (D v) T t)

-- a read of what the engine vouched for
pub reads : (p : Place) (t : WordType) (P : Program) (fs : Frames) (m : Meter) (w r : Log) (a word : ℕ) → a ≡ address p → word ≡ answered w a word
    → on_read (Gives word) P p t fs m w r ≡ On Open (resumed (pushed (value_of t word) []) fs) m w (recorded (written w a) a word r)
reads p t P fs m w r a word e f =
    rw e (ap (λ (x : ℕ). On Open (resumed (pushed (value_of t x) []) fs) m w (recorded (written w (address p)) (address p) word r)) (sym (rw e at f)))

-- a turn's end, seen from an equal run
pub lands_as : (B : Bounds) (x y : Run) (a : Running) (result : Result Todo Failure) (r w : Log) → x ≡ y → Lands B y a w r result → Lands B x a w r result
lands_as B x y a result r w e h = rw e h

-- a step that asks
pub asks : (P : Program) (B : Bounds) (v : Reply) (p : Phase) (fs gs : Frames) (m : Meter) (w r : Log) (a : Asking) → step P fs ≡ Asks a gs
    → next_run P B v (On p fs m w r) ≡ on_asking P B a p v gs m w r
asks P B v p fs gs m w r a e = ap (λ (x : Asked). on_asked P B x p v m w r) e

-- a turn that is counted, as one with a depth
pub with_turns_depth : (B : Bounds) (k : ℕ) (gs : Frames) (m : Meter) (w r : Log) → with_turns B k gs m w r ≡ with_depth B false k gs m w r
with_turns_depth B zero gs m w r = refl
with_turns_depth B (suc k) gs m w r = refl

-- a turn is the entering of a method that isn't too deep
pub turned_entered : (B : Bounds) (p : Phase) (gs : Frames) (m : Meter) (w r : Log) → turned B p gs m w r ≡ entered B p false gs m w r
turned_entered B Ready gs m w r = refl
turned_entered B Open gs m w r = with_turns_depth B m.turns gs m w r
turned_entered B Doomed gs m w r = refl
turned_entered B Closed gs m w r = refl

-- a turn of an equal run, told of from another place
pub turn_as : (B : Bounds) (f g : Reply → Run) (D D' : Reply → List Event → Type 0) (T T' : List Event → Type 0) (H : Log → Log → Type 0) (a : Running) (result : Result Todo Failure)
    → ((v : Reply) → f v ≡ g v) → ((v : Reply) (es : List Event) → D' v es → D v es) → ((es : List Event) → T' es → T es) → IsTurn B g D' T' H a result → IsTurn B f D T H a result
turn_as B f g D D' T T' H a (Ok Go) e d k t = (t.0, t.1, t.2, (t.3.0, e t.3.0 ∙ t.3.1, told_as (D' t.3.0) (D t.3.0) T' T (d t.3.0) k t.3.2))
turn_as B f g D D' T T' H a (Ok Commit) e d k t = (t.0, t.1, t.2, (λ v. e v ∙ t.3 v), ((λ v. d v [] (t.4.0 v)), k [] t.4.1))
turn_as B f g D D' T T' H a (Ok (Refuse l)) e d k t = (t.0, t.1, t.2, (t.3.0, e t.3.0 ∙ t.3.1, told_as (D' t.3.0) (D t.3.0) T' T (d t.3.0) k t.3.2))
turn_as B f g D D' T T' H a (Ok Spent) e d k t = (t.0, t.1, t.2, (t.3.0, e t.3.0 ∙ t.3.1, told_as (D' t.3.0) (D t.3.0) T' T (d t.3.0) k t.3.2))
turn_as B f g D D' T T' H a (Err failure.Wrong) e d k t = (t.0, t.1, t.2, (t.3.0, e t.3.0 ∙ t.3.1, told_as (D' t.3.0) (D t.3.0) T' T (d t.3.0) k t.3.2))
turn_as B f g D D' T T' H a (Err failure.NoMemory) e d k t = (t.0, t.1, t.2, none_after T' T [] tt k t.3)

-- a run whose step asks waits for that
pub waits_step : (P : Program) (B : Bounds) (b : Running) (f : Frames) (x : Asking) (w r : Log) → IsStep (Ok x) (frames b) (step P f) → Waits P B x b w r (On (phase_of b.stage) f (meter b) w r)
waits_step P B b f x w r e = ((λ v. by x e v), (λ v es d. tells x e v es d))
  where
    by : (x : Asking) → IsStep (Ok x) (frames b) (step P f) → (v : Reply) → next_run P B v (On (phase_of b.stage) f (meter b) w r) ≡ on_asking P B x (phase_of b.stage) v (frames b) (meter b) w r
    by A.Go e v = asks P B v (phase_of b.stage) f (frames b) (meter b) w r A.Go e
    by A.Turn e v = asks P B v (phase_of b.stage) f (frames b) (meter b) w r A.Turn e
    by (A.Enter d) e v = asks P B v (phase_of b.stage) f (frames b) (meter b) w r (A.Enter d) e
    by (A.Return x) e v = asks P B v (phase_of b.stage) f [] (meter b) w r (A.Return x) e
    by (A.Throw o) e v = asks P B v (phase_of b.stage) f [] (meter b) w r (A.Throw o) e
    by (A.Raise o) e v = asks P B v (phase_of b.stage) f (frames b) (meter b) w r (A.Raise o) e
    by (A.Make t n d) e v = asks P B v (phase_of b.stage) f (frames b) (meter b) w r (A.Make t n d) e
    by (A.Head o u) e v = asks P B v (phase_of b.stage) f (frames b) (meter b) w r (A.Head o u) e
    by (A.Ask q) e v = asks P B v (phase_of b.stage) f (frames b) (meter b) w r (A.Ask q) e

    tells : (x : Asking) → IsStep (Ok x) (frames b) (step P f) → (v : Reply) (es : List Event) → AreOfAsking P B x (phase_of b.stage) v (meter b) es → AreOfStep P B v (On (phase_of b.stage) f (meter b) w r) es
    tells A.Go e v es d = step_tells P B v (phase_of b.stage) f (meter b) w r (Asks A.Go (frames b)) es e d
    tells A.Turn e v es d = step_tells P B v (phase_of b.stage) f (meter b) w r (Asks A.Turn (frames b)) es e d
    tells (A.Enter x) e v es d = step_tells P B v (phase_of b.stage) f (meter b) w r (Asks (A.Enter x) (frames b)) es e d
    tells (A.Return x) e v es d = step_tells P B v (phase_of b.stage) f (meter b) w r (Asks (A.Return x) []) es e d
    tells (A.Throw o) e v es d = step_tells P B v (phase_of b.stage) f (meter b) w r (Asks (A.Throw o) []) es e d
    tells (A.Raise o) e v es d = step_tells P B v (phase_of b.stage) f (meter b) w r (Asks (A.Raise o) (frames b)) es e d
    tells (A.Make t n x) e v es d = step_tells P B v (phase_of b.stage) f (meter b) w r (Asks (A.Make t n x) (frames b)) es e d
    tells (A.Head o u) e v es d = step_tells P B v (phase_of b.stage) f (meter b) w r (Asks (A.Head o u) (frames b)) es e d
    tells (A.Ask q) e v es d = step_tells P B v (phase_of b.stage) f (meter b) w r (Asks (A.Ask q) (frames b)) es e d

-- a run that comes to another turns as that does
pub turned_from : (P : Program) (B : Bounds) (c d : Run) (ds : List Event) (T T' : List Event → Type 0) (H : Log → Log → Type 0) (a : Running) (result : Result Todo Failure)
    → Way P B c ds d → AreOpen ds → ((es : List Event) → T es → T' (ds ++ es)) → HasTurned P B d T H a result → HasTurned P B c T' H a result
turned_from P B c d ds T T' H a result k o f u = record {
  before = u.before;
  events = ds ++ u.events;
  no_entry = open_append ds u.events o u.no_entry;
  comes = way_trans P B c d u.before ds u.events k u.comes;
  turn = turn_as B (λ v. next_run P B v u.before) (λ v. next_run P B v u.before) (λ v es. AreOfStep P B v u.before es) (λ v es. AreOfStep P B v u.before es)
      (λ es. T' ((ds ++ u.events) ++ es)) (λ es. T (u.events ++ es)) H a result (λ v. refl) (λ v es t. t)
      (λ es t. subst T' (sym (append_assoc ds u.events es)) (f (u.events ++ es) t)) u.turn;
}

-- what a run waits for is served
pub turned_waiting : (P : Program) (B : Bounds) (x : Asking) (a a' : Running) (w r : Log) (c : Run) (T : List Event → Type 0) (H : Log → Log → Type 0) (result : Result Todo Failure)
    → Waits P B x a w r c → IsTurn B (λ v. on_asking P B x (phase_of a.stage) v (frames a) (meter a) w r) (λ v. AreOfAsking P B x (phase_of a.stage) v (meter a)) T H a' result → HasTurned P B c T H a' result
turned_waiting P B x a a' w r c T H result e t = record {
  before = c;
  events = [];
  no_entry = tt;
  comes = way_here P B c;
  turn = turn_as B (λ v. next_run P B v c) (λ v. on_asking P B x (phase_of a.stage) v (frames a) (meter a) w r) (λ v es. AreOfStep P B v c es) (λ v. AreOfAsking P B x (phase_of a.stage) v (meter a)) T T H a' result e.0 e.1 (λ es k. k) t;
}

-- an error among instructions that ask for nothing
pub plain_fails : (P : Program) (B : Bounds) (a b a' : Running) (T : List Event → Type 0) (H : Log → Log → Type 0) (e : Failure) (w r : Log)
    → IsPlain P a b (Err e) → T [] → H r w → HasTurned P B (at a w r) T H a' (Err e)
plain_fails P B a b a' T H failure.Wrong w r k t h = record {
  before = On (phase_of b.stage) (k.frame ∷ b.callers) (meter b) w r;
  events = [];
  no_entry = tt;
  comes = k.comes B w r;
  turn = (
    r,
    w,
    h,
    (
      Gives 0,
      ap (λ (x : Asked). on_asked P B x (phase_of b.stage) (Gives 0) (meter b) w r) (k.does b.callers),
      ([], step_tells P B (Gives 0) (phase_of b.stage) (k.frame ∷ b.callers) (meter b) w r Fails [] (k.does b.callers) refl, tt, t),
    ),
  );
}
plain_fails P B a b a' T H failure.NoMemory w r k t h = record {
  before = On (phase_of b.stage) (k.frame ∷ b.callers) (meter b) w r;
  events = [];
  no_entry = tt;
  comes = k.comes B w r;
  turn = (r, w, h, nothing_told T t);
}

-- an error behind them
pub settle_fails : (P : Program) (B : Bounds) (a b a' : Running) (d : Doing) (gs : Frames) (T : List Event → Type 0) (H : Log → Log → Type 0) (e : Failure) (w r : Log)
    → (k : IsPlain P a b (Ok d)) → IsStep (Err e) gs (on_doing P d b.frame b.callers) → T [] → H r w → HasTurned P B (at a w r) T H a' (Err e)
settle_fails P B a b a' d gs T H failure.Wrong w r k s t h = record {
  before = On (phase_of b.stage) (k.frame ∷ b.callers) (meter b) w r;
  events = [];
  no_entry = tt;
  comes = k.comes B w r;
  turn = (
    r,
    w,
    h,
    (
      Gives 0,
      ap (λ (x : Asked). on_asked P B x (phase_of b.stage) (Gives 0) (meter b) w r) (k.does b.callers ∙ s),
      ([], step_tells P B (Gives 0) (phase_of b.stage) (k.frame ∷ b.callers) (meter b) w r Fails [] (k.does b.callers ∙ s) refl, tt, t),
    ),
  );
}
settle_fails P B a b a' d gs T H failure.NoMemory w r k s t h = record {
  before = On (phase_of b.stage) (k.frame ∷ b.callers) (meter b) w r;
  events = [];
  no_entry = tt;
  comes = k.comes B w r;
  turn = (r, w, h, nothing_told T t);
}

-- a step as an instruction left it to be done
pub step_is : (gs : Frames) (x : Asking) (y z : Asked) → y ≡ z → IsStep (Ok x) gs z → IsStep (Ok x) gs y
step_is gs x y z e h = rw e h

-- before the commit the last frame gives nothing
pub gives_early : (s : Stage) (v : Option Value) (m : Meter) (w r : Log) → returned (phase_of s) v m w r ≡ Stuck r
gives_early stage.Ready v m w r = refl
gives_early stage.Open v m w r = refl
gives_early stage.Doomed v m w r = refl

-- and throws nothing
pub throws_early : (P : Program) (s : Stage) (o : ℕ) (m : Meter) (w r : Log) → threw P (phase_of s) o m w r ≡ Stuck r
throws_early P stage.Ready o m w r = refl
throws_early P stage.Open o m w r = refl
throws_early P stage.Doomed o m w r = refl

-- so what is given or thrown to nobody is wrong there
pub answer_early : (P : Program) (B : Bounds) (a : Running) (x : Asking) (w r : Log) (T : List Event → Type 0) (H : Log → Log → Type 0)
    → ((v : Option Value) × (x ≡ A.Return v)) ⊎ (((o : ℕ) × (x ≡ A.Throw o)) ⊎ ((o : ℕ) × (u : Use) × (x ≡ A.Head o u))) → IsNotHead x → T [] → H r w
    → IsTurn B (λ v. on_asking P B x (phase_of a.stage) v (frames a) (meter a) w r) (λ v. AreOfAsking P B x (phase_of a.stage) v (meter a)) T H a (Err failure.Wrong)
answer_early P B a x w r T H (inl (y, q)) other t h = (r, w, h, (Gives 0, rw q (gives_early a.stage y (meter a) w r), ([], rw q refl, tt, t)))
answer_early P B a x w r T H (inr (inl (o, q))) other t h = (r, w, h, (Gives 0, rw q (throws_early P a.stage o (meter a) w r), ([], rw q refl, tt, t)))
answer_early P B a x w r T H (inr (inr (o, u, q))) other t h = let no : ⊥ = rw q at other in absurd no

module _ (P : Program) (B : Bounds) (x : Asking) (a a' : Running) (c : Run) (f : Reply → Run) (D : Reply → List Event → Type 0) (T T' T'' : List Event → Type 0) (H H' : Log → Log → Type 0) (k : Following P B T H c x a)
    (q : (v : Reply) → next_run P B v k.run ≡ f v) (d : (v : Reply) (es : List Event) → D v es → AreOfStep P B v k.run es) (j : (es : List Event) → T' es → T'' (k.events ++ es)) where
  -- an error at a header is one of the turn
  pub head_fails : (e : Failure) → IsHeaded f D T' H' a' (Err e) → HasTurned P B c T'' H' a' (Err e)
  head_fails failure.Wrong t = record {
    before = k.run;
    events = k.events;
    no_entry = k.no_entry;
    comes = k.comes;
    turn = (t.0, t.1, t.2, (t.3.0, q t.3.0 ∙ t.3.1, told_as (D t.3.0) (λ es. AreOfStep P B t.3.0 k.run es) T' (λ es. T'' (k.events ++ es)) (d t.3.0) j t.3.2));
  }
  head_fails failure.NoMemory t = record {
    before = k.run;
    events = k.events;
    no_entry = k.no_entry;
    comes = k.comes;
    turn = (t.0, t.1, t.2, none_after T' (λ es. T'' (k.events ++ es)) [] tt j t.3);
  }

  -- a header was read, and the instruction went on
  pub head_goes : (next : Option Asking) → next ≡ None → IsHeaded f D T' H' a' (Ok next) → HasTurned P B c T'' H' a' (Ok Go)
  head_goes next e t =
      let u : IsHeaded f D T' H' a' (Ok None) = subst (λ (y : Option Asking). IsHeaded f D T' H' a' (Ok y)) e t in
      record {
        before = k.run;
        events = k.events;
        no_entry = k.no_entry;
        comes = k.comes;
        turn = (u.0, u.1, u.2, (u.3.0, q u.3.0 ∙ u.3.1, told_as (D u.3.0) (λ es. AreOfStep P B u.3.0 k.run es) T' (λ es. T'' (k.events ++ es)) (d u.3.0) j u.3.2));
      }

  -- or asks for more
  pub head_asks : (y : Asking) (next : Option Asking) → next ≡ Some y → a'.stage ≡ stage.Open → IsHeaded f D T' H' a' (Ok next) → Following P B T'' H' c y a'
  head_asks y next e opened t =
      let u : IsHeaded f D T' H' a' (Ok (Some y)) = subst (λ (z : Option Asking). IsHeaded f D T' H' a' (Ok z)) e t in
      record {
        reads = u.0;
        writes = u.1;
        run = attempt.Asking y (frames a') (meter a') u.1 u.0;
        holds = u.2;
        events = k.events ++ u.3.2.0;
        no_entry = open_append k.events u.3.2.0 k.no_entry u.3.2.2;
        comes = way_more P B c k.run _ u.3.0 k.events u.3.2.0 k.comes (q u.3.0 ∙ u.3.1) (d u.3.0 u.3.2.0 u.3.2.1);
        waits = ((λ v. rw opened refl), (λ v es g. rw opened at g));
        told = j u.3.2.0 u.3.2.3;
      }

-- a run that waits for a header
pub waits_head : (P : Program) (B : Bounds) (x : Asking) (o : ℕ) (u : Use) (a : Running) (w r : Log) (c : Run) → x ≡ A.Head o u → Waits P B x a w r c
    → (v : Reply) → next_run P B v c ≡ heading (phase_of a.stage) v P u o (frames a) (meter a) w r
waits_head P B x o u a w r c e k v = k.0 v ∙ rw e refl

-- and what it tells
pub waits_head_tells : (P : Program) (B : Bounds) (x : Asking) (o : ℕ) (u : Use) (a : Running) (w r : Log) (c : Run) → x ≡ A.Head o u → Waits P B x a w r c
    → (v : Reply) (es : List Event) → AreOfAsking P B (A.Head o u) (phase_of a.stage) v (meter a) es → AreOfStep P B v c es
waits_head_tells P B x o u a w r c e k v es d = k.1 v es (rw e d)

-- a run that follows from the start of an instruction's asking
pub follows_here : (P : Program) (B : Bounds) (T : List Event → Type 0) (H : Log → Log → Type 0) (c : Run) (x : Asking) (a : Running) (w r : Log) → T [] → H r w → Waits P B x a w r c → Following P B T H c x a
follows_here P B T H c x a w r t h k = record { reads = r; writes = w; run = c; holds = h; events = []; no_entry = tt; comes = way_here P B c; waits = k; told = t }

-- where an instruction stands that was told a header, after the engine's reply
pub headed_of : (x : Run) (f : Reply → Run) (D : Reply → List Event → Type 0) (T : List Event → Type 0) (H : Log → Log → Type 0) (a : Running) (result : Result (Option Asking) Failure) (r w : Log) (v : Reply)
    → f v ≡ x → H r w → IsFollowed x a w r result → Told (D v) T → IsHeaded f D T H a result
headed_of x f D T H a (Ok next) r w v e h t g = (r, w, h, (v, e ∙ t, g))
headed_of x f D T H a (Err failure.Wrong) r w v e h t g = (r, w, h, (v, e ∙ t, g))
headed_of x f D T H a (Err failure.NoMemory) r w v e h t g = (r, w, h, none_told (D v) T g)

-- what is told a header asks for more
pub followed_asks : (x : Asked) (a : Asking) (b : Running) (w r : Log) → ¬ (a ≡ A.Go) → GoesOn a → IsStep (Ok a) (frames b) x → followed x (meter b) w r ≡ attempt.Asking a (frames b) (meter b) w r
followed_asks x A.Go b w r not on e = absurd (not refl)
followed_asks x A.Turn b w r not on e = ap (λ (y : Asked). followed y (meter b) w r) e
followed_asks x (A.Enter d) b w r not on e = ap (λ (y : Asked). followed y (meter b) w r) e
followed_asks x (A.Return v) b w r not on e = absurd on
followed_asks x (A.Throw o) b w r not on e = absurd on
followed_asks x (A.Raise o) b w r not on e = ap (λ (y : Asked). followed y (meter b) w r) e
followed_asks x (A.Make t n d) b w r not on e = ap (λ (y : Asked). followed y (meter b) w r) e
followed_asks x (A.Head o u) b w r not on e = ap (λ (y : Asked). followed y (meter b) w r) e
followed_asks x (A.Ask q) b w r not on e = ap (λ (y : Asked). followed y (meter b) w r) e

-- but for a plain load of an element, a header is read
pub heads_other : (v : Reply) (P : Program) (u : Use) (o : ℕ) (fs : Frames) (m : Meter) (w r : Log) → loads_plain u ≡ false → heads v P u o fs m w r ≡ on_head v P u o fs m w r
heads_other v P (U.Selects k) o fs m w r e = refl
heads_other v P (U.Implements k c) o fs m w r e = refl
heads_other v P (U.Casts c) o fs m w r e = refl
heads_other v P (U.Tests c) o fs m w r e = refl
heads_other v P U.Measures o fs m w r e = refl
heads_other v P (U.Indexes i element.Load) o fs m w r e = let no : ⊥ = cc in absurd no
heads_other v P (U.Indexes i (element.Store x)) o fs m w r e = refl
heads_other v P (U.Indexes i element.Look) o fs m w r e = refl
heads_other v P (U.Indexes i (element.Write x)) o fs m w r e = refl
heads_other v P (U.Fits a p x) o fs m w r e = refl

-- which pushes what is of no use
pub heads_plain : (v : Reply) (P : Program) (u : Use) (o : ℕ) (fs : Frames) (m : Meter) (w r : Log) → loads_plain u ≡ true → heads v P u o fs m w r ≡ On Open (resumed (slot.Loaded ∷ []) fs) m w r
heads_plain v P (U.Indexes i element.Load) o fs m w r e = refl
heads_plain v P (U.Indexes i (element.Store x)) o fs m w r e = let no : ⊥ = cc in absurd no
heads_plain v P (U.Indexes i element.Look) o fs m w r e = let no : ⊥ = cc in absurd no
heads_plain v P (U.Indexes i (element.Write x)) o fs m w r e = let no : ⊥ = cc in absurd no
heads_plain v P (U.Selects k) o fs m w r e = let no : ⊥ = cc in absurd no
heads_plain v P (U.Implements k c) o fs m w r e = let no : ⊥ = cc in absurd no
heads_plain v P (U.Casts c) o fs m w r e = let no : ⊥ = cc in absurd no
heads_plain v P (U.Tests c) o fs m w r e = let no : ⊥ = cc in absurd no
heads_plain v P U.Measures o fs m w r e = let no : ⊥ = cc in absurd no
heads_plain v P (U.Fits a p x) o fs m w r e = let no : ⊥ = cc in absurd no

-- a header's events
pub head_tells : (u : Use) (v : Reply) (o : ℕ) (es : List Event) → loads_plain u ≡ false → AreOfHeader v o es → AreOfHead u v o es
head_tells (U.Selects k) v o es e t = t
head_tells (U.Implements k c) v o es e t = t
head_tells (U.Casts c) v o es e t = t
head_tells (U.Tests c) v o es e t = t
head_tells U.Measures v o es e t = t
head_tells (U.Indexes i element.Load) v o es e t = let no : ⊥ = cc in absurd no
head_tells (U.Indexes i (element.Store x)) v o es e t = t
head_tells (U.Indexes i element.Look) v o es e t = t
head_tells (U.Indexes i (element.Write x)) v o es e t = t
head_tells (U.Fits a p x) v o es e t = t

-- a plain load tells nothing
pub plain_tells : (u : Use) (v : Reply) (o : ℕ) → loads_plain u ≡ true → AreOfHead u v o []
plain_tells (U.Indexes i element.Load) v o e = refl
plain_tells (U.Indexes i (element.Store x)) v o e = let no : ⊥ = cc in absurd no
plain_tells (U.Indexes i element.Look) v o e = let no : ⊥ = cc in absurd no
plain_tells (U.Indexes i (element.Write x)) v o e = let no : ⊥ = cc in absurd no
plain_tells (U.Selects k) v o e = let no : ⊥ = cc in absurd no
plain_tells (U.Implements k c) v o e = let no : ⊥ = cc in absurd no
plain_tells (U.Casts c) v o e = let no : ⊥ = cc in absurd no
plain_tells (U.Tests c) v o e = let no : ⊥ = cc in absurd no
plain_tells U.Measures v o e = let no : ⊥ = cc in absurd no
plain_tells (U.Fits a p x) v o e = let no : ⊥ = cc in absurd no

-- outside an attempt none is
pub head_outside : (s : Stage) (v : Reply) (P : Program) (u : Use) (o : ℕ) (fs : Frames) (m : Meter) (w r : Log) → (s ≡ stage.Ready) ⊎ (s ≡ stage.Doomed) → heading (phase_of s) v P u o fs m w r ≡ Stuck r
head_outside s v P u o fs m w r (inl e) = rw e refl
head_outside s v P u o fs m w r (inr e) = rw e refl

-- nor an object made
pub make_outside : (s : Stage) (t n : ℕ) (d : Made) (v : Reply) (P : Program) (B : Bounds) (fs : Frames) (m : Meter) (w r : Log) → (s ≡ stage.Ready) ⊎ (s ≡ stage.Doomed) → making (phase_of s) t n d v P B fs m w r ≡ Stuck r
make_outside s t n d v P B fs m w r (inl e) = rw e refl
make_outside s t n d v P B fs m w r (inr e) = rw e refl

-- and nothing is told there
pub head_outside_tells : (P : Program) (B : Bounds) (s : Stage) (o : ℕ) (u : Use) (v : Reply) (m : Meter) → (s ≡ stage.Ready) ⊎ (s ≡ stage.Doomed) → AreOfAsking P B (A.Head o u) (phase_of s) v m []
head_outside_tells P B s o u v m (inl e) = rw e refl
head_outside_tells P B s o u v m (inr e) = rw e refl

pub make_outside_tells : (P : Program) (B : Bounds) (s : Stage) (t n : ℕ) (d : Made) (v : Reply) (m : Meter) → (s ≡ stage.Ready) ⊎ (s ≡ stage.Doomed) → AreOfAsking P B (A.Make t n d) (phase_of s) v m []
make_outside_tells P B s t n d v m (inl e) = rw e refl
make_outside_tells P B s t n d v m (inr e) = rw e refl

-- an error is told as one of a header
pub lands_followed : (B : Bounds) (x : Run) (a : Running) (w r : Log) (e : Failure) → Lands B x a w r (Err e) → IsFollowed x a w r (Err e)
lands_followed B x a w r failure.Wrong h = h
lands_followed B x a w r failure.NoMemory h = tt

-- what asks for no header
pub not_head : (x : Asking) → ¬ ((o : ℕ) × (u : Use) × (x ≡ A.Head o u)) → IsNotHead x
not_head A.Go n = tt
not_head A.Turn n = tt
not_head (A.Enter d) n = tt
not_head (A.Return v) n = tt
not_head (A.Throw o) n = tt
not_head (A.Raise o) n = tt
not_head (A.Make t k d) n = tt
not_head (A.Head o u) n = absurd (n (o, u, refl))
not_head (A.Ask q) n = tt

-- what isn't asked for at this stage
abbrev pub IsUnserved : Request → Stage → Type 0
IsUnserved (request.Begin n) s = s ≡ stage.Ready → ⊥
IsUnserved request.Rollback s = s ≡ stage.Doomed → ⊥
IsUnserved (request.Put p x) s = Unit {0}
IsUnserved q s = s ≡ stage.Open → ⊥

-- it leads nowhere, and nothing is told
pub unserved : (P : Program) (B : Bounds) (q : Request) (s : Stage) (v : Reply) (fs : Frames) (m : Meter) (w r : Log) → IsUnserved q s
    → (on_asking P B (A.Ask q) (phase_of s) v fs m w r ≡ Stuck r) × AreOfAsking P B (A.Ask q) (phase_of s) v m []
unserved P B (request.Begin n) stage.Ready v fs m w r out = absurd (out refl)
unserved P B (request.Get p) stage.Open v fs m w r out = absurd (out refl)
unserved P B (request.Look p) stage.Open v fs m w r out = absurd (out refl)
unserved P B (request.Read p t) stage.Open v fs m w r out = absurd (out refl)
unserved P B (request.Write p x) stage.Open v fs m w r out = absurd (out refl)
unserved P B request.Commit stage.Open v fs m w r out = absurd (out refl)
unserved P B request.Rollback stage.Doomed v fs m w r out = absurd (out refl)
unserved P B q s v fs m w r out = (refl, refl)

pub unserved_turn : (P : Program) (B : Bounds) (q : Request) (a : Running) (T : List Event → Type 0) (H : Log → Log → Type 0) (w r : Log) → IsUnserved q a.stage → T [] → H r w
    → IsTurn B (λ v. on_asking P B (A.Ask q) (phase_of a.stage) v (frames a) (meter a) w r) (λ v. AreOfAsking P B (A.Ask q) (phase_of a.stage) v (meter a)) T H a (Err failure.Wrong)
unserved_turn P B q a T H w r out t s = let u = unserved P B q a.stage (Gives 0) (frames a) (meter a) w r out in (r, w, s, (Gives 0, u.0, ([], u.1, tt, t)))
