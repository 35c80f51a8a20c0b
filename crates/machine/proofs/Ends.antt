-- How calls end.
use Rattle.std.proofs.Common.{◌≡◌, ◌≢◌, inl, ℕ, ◌+◌, ◌-◌, ◌<◌, ◌≤◌, ◌^◌, List, [], ◌∷◌, ◌++◌, Result, Ok, Err, refl, sym, ◌∙◌, subst, arith}
use Rattle.jmodel.specs.declared.value.Answer.{Answer}
use Rattle.jmodel.specs.declared.value.Answer.TheVariants as answer
use Rattle.jmodel.specs.declared.value.Value.{Value}
use Rattle.objects.specs.declared.event.Event.{Event}
use Rattle.objects.specs.declared.event.Event.TheVariants as event
use Rattle.objects.specs.semantics.Program.{Program}
use Rattle.objects.specs.rewriting.Events.{AreOfStep, AreOpen}
use Rattle.objects.specs.rewriting.Attempt.{Log, Bounds, Meter, Run, Ended, Stuck, Reply, Gives, set_back, next_run, run_start, Comes, Runs}
use Rattle.jmodel.specs.history.History.{Call, Entry, made}
use Rattle.objects.proofs.Regions.{keeps_region}
use Rattle.machine.specs.declared.failure.Failure.{Failure}
use Rattle.machine.specs.declared.failure.Failure.TheVariants as failure
use Rattle.machine.specs.declared.running.Running.{Running}
use Rattle.machine.specs.declared.running.Stage.{Stage}
use Rattle.machine.specs.declared.running.Stage.TheVariants.{Ready, Open}
use Rattle.machine.specs.declared.running.Limit.{Limit}
use Rattle.machine.specs.declared.running.Limit.TheVariants as limit
use Rattle.machine.specs.declared.running.Todo.{Todo}
use Rattle.machine.specs.declared.running.Todo.TheVariants.{Go, Refuse}
use Rattle.machine.specs.declared.machine.End.{End}
use Rattle.tx_core.specs.declared.engine.TxEnd.{TxEnd}
use Rattle.tx_core.specs.declared.engine.TxEnd.TheVariants.{Conflict, NoMemory}
use Rattle.tx_core.specs.Engine.{raised, IsAllowed, IsOfWrites, Adds, MayEnd}
use Rattle.machine.specs.Machine.{MayRun, MayStart, AddsEntry, AddsNone, AddsBy, AddsRun, Begins, HasTried, TriesBy, TriesRun}
use Rattle.machine.specs.Telling.{TellsNone, TellsEntry, TellsBy, TellsRun}
use Rattle.machine.specs.Running.{at, frames, meter, Way, Knows, Moves, Holds, Leaves, IsWithin, HasTurned, IsCommit, IsLast, refusal, IsStarted, HasAdded, Ends, OnWay, IsEndBy, IsEnd}
use Rattle.machine.proofs.Comes.{comes_on, comes_trans}
use Rattle.machine.proofs.Ways.{none_told, nothing_told, none_after, open_append, comes_of}
use Rattle.machine.proofs.Knowing.{knew_end}
use Rattle.machine.proofs.Seeing.{KnowsFewer}
use Rattle.machine.proofs.Seen.{Seen, seen_turned, seen_refused, coming, from_at, to_at, shut}

-- within the attempts the clock stays low
pub within_open : (first attempts clock tried : ℕ) (s : Stage) → IsWithin first attempts clock s tried → s ≡ Open → first + attempts ≤ 2 ^ 40 → clock < 2 ^ 40
within_open first attempts clock tried s i e l = let b = rw e at i.clock_below in let t = i.tried_below in omega arith

pub within_end : (first attempts clock tried : ℕ) (s : Stage) → IsWithin first attempts clock s tried → clock ≤ first + attempts
within_end first attempts clock tried s i = let b = i.clock_below in let t = i.tried_below in omega arith

pub leaves_of : (S : ℕ → Log → Log → Type 0) (K : Log → Type 0) (n : ℕ) (s : Stage) (tried : ℕ) (r w : Log) → Holds S K n s tried r w → Leaves S n s
leaves_of S K n s tried r w h = record { conflicts = h.conflicts; reads = r; writes = w; later = h.later; stands = h.stands; idle = h.idle }

-- one turn more
pub way_on : (P : Program) (B : Bounds) (c : Run) (T T' T'' : List Event → Type 0) (S S' : ℕ → Log → Log → Type 0) (K : Log → Type 0) (n : ℕ) (a a' : Running) → KnowsFewer K → Moves a.stage a.tried a'.stage a'.tried → (o : OnWay P B c T S K n a)
    → ((es : List Event) → T' es → T'' (o.events ++ es)) → HasTurned P B (at a o.writes o.reads) T' (Holds S' K n a'.stage a'.tried) a' (Ok Go) → OnWay P B c T'' S' K n a'
way_on P B c T T' T'' S S' K n a a' fewer moves o f u =
    let t = u.turn in
    let es = t.3.2.0 in
    let x = seen_turned P B K fewer c (at a o.writes o.reads) o.events es T' (Holds S' K n a'.stage a'.tried) a' (Ok Go) (at a' t.1 t.0) t.3.0 o.comes o.knows u t.3.1 t.3.2.1
    (coming a.stage a.tried) (from_at a.stage (frames a) (meter a) o.writes o.reads) (to_at K a.stage a'.stage a.tried (frames a') (meter a') t.1 t.0 moves t.2.knew) in
    record {
      reads = t.0;
      writes = t.1;
      holds = t.2;
      events = o.events ++ (u.events ++ es);
      no_entry = open_append o.events (u.events ++ es) o.no_entry (open_append u.events es u.no_entry t.3.2.2);
      comes = x.0;
      knows = x.1;
      told = f (u.events ++ es) t.3.2.3;
    }

-- what a turn told, after what came before
pub told_turn : (T T' : List Event → Type 0) (ds es : List Event) → AreOpen ds → AreOpen es → ((fs : List Event) → T fs → T' (ds ++ fs)) → TellsNone (λ fs. T (es ++ fs)) → TellsNone T'
told_turn T T' ds es d e f t = none_after T T' ds d f (none_after (λ fs. T (es ++ fs)) T es e (λ fs x. x) t)

-- an error in a turn
pub turn_fails : (P : Program) (B : Bounds) (c d : Run) (ds : List Event) (T' T'' : List Event → Type 0) (A : Call → ℕ → Type 0) (allows : Entry → Type 0) (T : ℕ → Type 0) (S : List Entry → ℕ → Log → Log → Type 0) (h : List Entry) (n : ℕ) (K : Log → Type 0) (a : Running) (e : Failure)
    → Way P B c ds d → AreOpen ds → ((es : List Event) → T' es → T'' (ds ++ es)) → HasTurned P B d T' (Holds (S h) K n a.stage a.tried) a (Err e)
    → IsEnd P B c A allows T T'' S h n (Leaves (S h) n a.stage) K (Err e)
turn_fails P B c d ds T' T'' A allows T S h n K a failure.Wrong m o f u =
    let t = u.turn in (
      leaves_of (S h) K n a.stage a.tried t.0 t.1 t.2,
      record { reads = t.0; comes = comes_on P B c u.before _ t.3.0 (comes_trans P B c d u.before (comes_of P B c d ds m) (comes_of P B d u.before u.events u.comes)) t.3.1; knew = knew_end K a.stage a.tried t.0 t.1 t.2.idle t.2.knew },
      told_turn T' T'' ds u.events o u.no_entry f (none_told (λ es. AreOfStep P B t.3.0 u.before es) (λ es. T' (u.events ++ es)) t.3.2),
    )
turn_fails P B c d ds T' T'' A allows T S h n K a failure.NoMemory m o f u =
    (leaves_of (S h) K n a.stage a.tried u.turn.0 u.turn.1 u.turn.2, told_turn T' T'' ds u.events o u.no_entry f u.turn.3)

-- what a turn leads to from the start of a call
pub comes_turned : (P : Program) (B : Bounds) (c d : Run) (ds : List Event) (T' : List Event → Type 0) (H : Log → Log → Type 0) (a : Running) (result : Result Todo Failure) (e : Run) (v : Reply)
    → Way P B c ds d → (u : HasTurned P B d T' H a result) → next_run P B v u.before ≡ e → Comes P B c e
comes_turned P B c d ds T' H a result e v m u q = comes_on P B c u.before e v (comes_trans P B c d u.before (comes_of P B c d ds m) (comes_of P B d u.before u.events u.comes)) q

-- an error in a commit
pub commit_ends : (P : Program) (B : Bounds) (c : Run) (f : Reply → Run) (A A' : Call → ℕ → Type 0) (allows : Entry → Type 0) (T : ℕ → Type 0) (G : List Event → Type 0) (S : List Entry → ℕ → Log → Log → Type 0) (h : List Entry) (n : ℕ) (K : Log → Type 0) (a : Running) (m : Meter) (r w : Log) (e : Failure)
    → TellsNone G → Comes P B c (f (Gives 0)) → IsCommit P B f A' allows K S h n m r w a (Err e)
    → IsEnd P B c A allows T G S h n (Leaves (S h) n a.stage) K (Err e)
commit_ends P B c f A A' allows T G S h n K a m r w failure.Wrong g k t =
    (leaves_of (S h) K n a.stage a.tried r w t.0, record { reads = r; comes = comes_trans P B c _ _ k (comes_of P B (f (Gives 0)) (Stuck r) [] t.1); knew = knew_end K a.stage a.tried r w t.0.idle t.0.knew }, g)
commit_ends P B c f A A' allows T G S h n K a m r w failure.NoMemory g k t = (t, g)

-- an end takes no conflict back
pub raised_later : (e : TxEnd) (n m : ℕ) → n ≤ m → n ≤ raised e m
raised_later (Conflict k) n m l = omega arith
raised_later NoMemory n m l = l

-- where a call starts
pub way_start : (P : Program) (B : Bounds) (T : List Event → Type 0) (S : ℕ → Log → Log → Type 0) (K : Log → Type 0) (n : ℕ) (a : Running) → T [] → a.stage ≡ Ready → a.tried ≡ 0 → S n [] []
    → OnWay P B (at a [] []) T S K n a
way_start P B T S K n a g e t s =
    record {
      reads = [];
      writes = [];
      holds = rw (e, t) (record { conflicts = n; later = omega arith; stands = s; tries = refl; idle = (refl, refl); knew = inl (refl, refl) });
      events = [];
      no_entry = tt;
      comes = ([], refl, refl);
      knows = λ r h. absurd (shut a e [] [] r h);
      told = g;
    }

-- the start of a call that isn't there
pub start_fails : (P : Program) (B : Bounds) (m : ℕ) (args : List Value) (A : Call → ℕ → Type 0) (allows : Entry → Type 0) (T : ℕ → Type 0) (G : List Event → Type 0) (S : List Entry → ℕ → Log → Log → Type 0) (h : List Entry) (n : ℕ) (K : Log → Type 0) (e : Failure)
    → G [] → IsStarted P B m args (Err e) → S h n [] [] → IsEnd P B (run_start P B m args) A allows T G S h n (AddsNone (S h) n) K (Err e)
start_fails P B m args A allows T G S h n K failure.Wrong g t s = (record { conflicts = n; later = omega arith; stands = s }, record { reads = []; comes = ([], t); knew = inl refl }, nothing_told G g)
start_fails P B m args A allows T G S h n K failure.NoMemory g t s = (record { conflicts = n; later = omega arith; stands = s }, nothing_told G g)

-- the same end of an equal run
pub end_from : (P : Program) (B : Bounds) (c d : Run) (A : Call → ℕ → Type 0) (allows : Entry → Type 0) (T : ℕ → Type 0) (G : List Event → Type 0) (S : List Entry → ℕ → Log → Log → Type 0) (h : List Entry) (n : ℕ) (E : Type 0) (K : Log → Type 0) (x : Result End Failure)
    → c ≡ d → IsEnd P B d A allows T G S h n E K x → IsEnd P B c A allows T G S h n E K x
end_from P B c d A allows T G S h n E K x e t = rw e t

-- after an error no attempt is open
pub end_left : (P : Program) (B : Bounds) (c : Run) (A : Call → ℕ → Type 0) (allows : Entry → Type 0) (T T' : ℕ → Type 0) (G : List Event → Type 0) (S S' : List Entry → ℕ → Log → Log → Type 0) (h : List Entry) (n : ℕ) (K : Log → Type 0) (s : Stage) (e : Failure)
    → (Leaves (S h) n s → AddsNone (S' h) n) → IsEnd P B c A allows T G S h n (Leaves (S h) n s) K (Err e) → IsEnd P B c A allows T' G S' h n (AddsNone (S' h) n) K (Err e)
end_left P B c A allows T T' G S S' h n K s failure.Wrong f t = (f t.0, t.1, t.2)
end_left P B c A allows T T' G S S' h n K s failure.NoMemory f t = (f t.0, t.1)

-- a run that ended with an entry has an answer of one
pub ends_by : (P : Program) (B : Bounds) (c : Run) (A : Call → ℕ → Type 0) (allows : Entry → Type 0) (T : ℕ → Type 0) (G : List Event → Type 0) (S : List Entry → ℕ → Log → Log → Type 0) (h : List Entry) (n : ℕ) (K : Log → Type 0) (e : End) (x : Answer)
    → IsLast x → Ends P B c A allows T G S h n K e → IsEndBy x P B c A allows T G S h n K e
ends_by P B c A allows T G S h n K e (answer.Returned v) l t = t
ends_by P B c A allows T G S h n K e (answer.Threw k) l t = t
ends_by P B c A allows T G S h n K e answer.Budget l t = absurd l
ends_by P B c A allows T G S h n K e answer.Depth l t = absurd l
ends_by P B c A allows T G S h n K e (answer.Heap u v z) l t = absurd l
ends_by P B c A allows T G S h n K e answer.Spent l t = absurd l
ends_by P B c A allows T G S h n K e answer.NoMemory l t = absurd l

-- the same by the answer that it has
pub end_by : (P : Program) (B : Bounds) (c : Run) (A : Call → ℕ → Type 0) (allows : Entry → Type 0) (T : ℕ → Type 0) (G : List Event → Type 0) (S : List Entry → ℕ → Log → Log → Type 0) (h : List Entry) (n : ℕ) (K : Log → Type 0) (e : End) (x : Answer)
    → e.answer ≡ x → IsEndBy x P B c A allows T G S h n K e → IsEndBy e.answer P B c A allows T G S h n K e
end_by P B c A allows T G S h n K e x q t = subst (λ (y : Answer). IsEndBy y P B c A allows T G S h n K e) (sym q) t

-- a refusal ends a run with an entry
pub refused_by : (P : Program) (B : Bounds) (c : Run) (A : Call → ℕ → Type 0) (allows : Entry → Type 0) (T : ℕ → Type 0) (G : List Event → Type 0) (S : List Entry → ℕ → Log → Log → Type 0) (h : List Entry) (n : ℕ) (K : Log → Type 0) (e : End) (l : Limit) (used size : ℕ)
    → Ends P B c A allows T G S h n K e → IsEndBy (refusal l used size) P B c A allows T G S h n K e
refused_by P B c A allows T G S h n K e limit.Budget used size t = t
refused_by P B c A allows T G S h n K e limit.Depth used size t = t
refused_by P B c A allows T G S h n K e (limit.Heap wanted) used size t = t

-- a refusal doesn't say that the attempts are used up
pub refused_unlike : (l : Limit) (used size : ℕ) → refusal l used size ≢ answer.Spent
refused_unlike limit.Budget used size q = cc
refused_unlike limit.Depth used size q = cc
refused_unlike (limit.Heap wanted) used size q = cc

-- the attempts aren't used up at such an end
pub last_made : (x : Answer) → IsLast x → x ≢ answer.Spent
last_made x l e = subst IsLast e l

-- an entry that a call may leave stands
pub adds_entry : (P : Program) (B : Bounds) (c : Call) (A : Call → ℕ → Type 0) (allows : Entry → Type 0) (T : ℕ → Type 0) (G : List Event → Type 0) (S : List Entry → ℕ → Log → Log → Type 0) (h : List Entry) (n : ℕ) (K : Log → Type 0) (e : End)
    → e.answer ≢ answer.Spent → A c B.used → MayRun allows P B c → Ends P B (run_start P B c.method c.args) A allows T G S h n K e → AddsEntry P B c S h n e
adds_entry P B c A allows T G S h n K e other aw may t =
    let k : Runs P B c.method c.args e.answer e.used t.writes t.reads = record { meter = t.meter_then; comes = comes_of P B (run_start P B c.method c.args) (Ended e.answer t.meter_then t.writes t.reads) t.steps t.comes; leaves = t.leaves; made = other } in
    let taking = keeps_region P B c.method c.args e.answer e.used t.writes t.reads k in
    record {
      conflicts = t.added.conflicts;
      later = t.added.later;
      reads = t.reads;
      writes = t.writes;
      runs = k;
      tries = t.added.tries;
      stamped = t.added.stamped;
      stands = t.added.adds c aw (record { anywhere = λ at. may e.answer e.used at t.reads t.writes k; stays = taking.stays });
    }

-- a call of the same method with the same arguments
pub end_of_call : (P : Program) (B : Bounds) (c : Call) (m : ℕ) (args : List Value) (A : Call → ℕ → Type 0) (allows : Entry → Type 0) (T : ℕ → Type 0) (G : List Event → Type 0) (S : List Entry → ℕ → Log → Log → Type 0) (h : List Entry) (n : ℕ) (E : Type 0) (K : Log → Type 0) (x : Result End Failure)
    → c.method ≡ m → c.args ≡ args → IsEnd P B (run_start P B m args) A allows T G S h n E K x → IsEnd P B (run_start P B c.method c.args) A allows T G S h n E K x
end_of_call P B c m args A allows T G S h n E K x p q t = rw (p, q) t

-- how a call ends is what it adds
pub adds_of : (P : Program) (B : Bounds) (c : Call) (A : Call → ℕ → Type 0) (allows : Entry → Type 0) (T : ℕ → Type 0) (G : List Event → Type 0) (S : List Entry → ℕ → Log → Log → Type 0) (h : List Entry) (n : ℕ) (K : Log → Type 0) (e : End) → A c B.used → MayRun allows P B c
    → IsEnd P B (run_start P B c.method c.args) A allows T G S h n (AddsNone (S h) n) K (Ok e) → AddsRun P B c S h n (Ok e)
adds_of P B c A allows T G S h n K e aw may t = go e.answer refl t
  where
    more : e.answer ≢ answer.Spent → Ends P B (run_start P B c.method c.args) A allows T G S h n K e → AddsEntry P B c S h n e
    more other t = adds_entry P B c A allows T G S h n K e other aw may t

    go : (x : Answer) → e.answer ≡ x → IsEndBy x P B (run_start P B c.method c.args) A allows T G S h n K e → AddsBy x P B c S h n e
    go (answer.Returned v) q t = more (λ s. cc) t
    go (answer.Threw k) q t = more (λ s. cc) t
    go answer.Budget q t = more (λ s. cc) t
    go answer.Depth q t = more (λ s. cc) t
    go (answer.Heap u v z) q t = more (λ s. cc) t
    go answer.Spent q t = record { meter = t.meter_then; comes = comes_of P B (run_start P B c.method c.args) (Ended answer.Spent t.meter_then [] []) t.steps t.comes; stands = t.stands; unplaced = t.unplaced }
    go answer.NoMemory q t = absurd t

-- what is awaited at first is awaited still
pub added_as : (A A' : Call → ℕ → Type 0) (allows : Entry → Type 0) (S : List Entry → ℕ → Log → Log → Type 0) (h : List Entry) (n before tried : ℕ) (e : End) (r w : Log)
    → ((c : Call) (used : ℕ) → A c used → A' c used) → HasAdded A' allows S h n before tried e r w → HasAdded A allows S h n before tried e r w
added_as A A' allows S h n before tried e r w k t =
    record { conflicts = t.conflicts; later = t.later; tries = t.tries; stamped = t.stamped; adds = λ c a may. t.adds c (k c before a) may }

-- the entry of a refusal, which a turn has come to
pub may_refuse : (P : Program) (B : Bounds) (start : Run) (allows : Entry → Type 0) (S S' : List Entry → ℕ → Log → Log → Type 0) (A A' : Call → ℕ → Type 0) (m : MayStart P B start allows S A) (x : Answer) (M : Meter) (r w : Log) (n : ℕ)
    → ((c : Call) (used : ℕ) → A c used → A' c used) → S' m.history n r w → x ≢ answer.Spent → Comes P B start (Ended x (set_back B M) [] r) → MayEnd S' A' allows (λ _. []) x (λ used. used)
may_refuse P B start allows S S' A A' m x M r w n k s other comes = record {
  history = m.history;
  conflicts = n;
  reads = r;
  writes = w;
  call = m.call;
  used = B.used;
  stands = s;
  awaits = k m.call B.used m.awaits;
  allowed = m.allowed x (set_back B M) r [] other comes;
}

-- a refusal that a turn has come to ends the run
pub refuses : (P : Program) (B : Bounds) (start : Run) (allows : Entry → Type 0) (T : ℕ → Type 0) (G : List Event → Type 0) (S S' : List Entry → ℕ → Log → Log → Type 0) (A A' : Call → ℕ → Type 0) (h : List Entry) (n k : ℕ) (K : Log → Type 0) (e : End) (M : Meter) (r : Log) (es : List Event)
    → ((c : Call) (used : ℕ) → A c used → A' c used) → n ≤ k → n + M.tried ≡ k + 1 → T M.tried → G (es ++ event.Ended ∷ []) → e.used ≡ B.used → Seen P B K start es (Ended e.answer (set_back B M) [] r)
    → IsOfWrites e.stamp [] × Adds A' allows S' h k e.answer (λ used. used) e.stamp r [] → Ends P B start A allows T G S' h n K e
refuses P B start allows T G S S' A A' h n k K e M r es aw later tries begun told used comes f = record {
  reads = r;
  writes = [];
  meter_then = set_back B M;
  steps = es;
  comes = comes.0;
  knows = comes.1;
  leaves = sym used;
  begun = begun;
  added = record {
    conflicts = k;
    later = later;
    tries = tries;
    stamped = f.0;
    adds = λ c a may. subst (λ (u : ℕ). IsAllowed allows e.answer c B.used u r [] → S' (h ++ made c e.answer B.used u e.stamp r [] ∷ []) k [] []) (sym used) (f.1 c B.used (aw c B.used a)) may;
  };
  told = told;
}

-- a turn that comes to a refusal ends the run
pub turn_refused : (P : Program) (B : Bounds) (c : Run) (A A' : Call → ℕ → Type 0) (allows : Entry → Type 0) (T : ℕ → Type 0) (G D : List Event → Type 0) (S0 : ℕ → Log → Log → Type 0) (S S' : List Entry → ℕ → Log → Log → Type 0) (h : List Entry) (n : ℕ) (K : Log → Type 0) (a b : Running) (e : End) (x : Answer) (l : Limit) (D' : List Event → Type 0)
    → KnowsFewer K → Moves a.stage a.tried b.stage b.tried → b.stage ≡ Open → (o : OnWay P B c D S0 K n a) → ((es : List Event) → D' es → G ((o.events ++ es) ++ event.Ended ∷ [])) → HasTurned P B (at a o.writes o.reads) D' (Holds (S h) K n b.stage b.tried) b (Ok (Refuse l))
    → ((k : Call) (used : ℕ) → A k used → A' k used) → T b.tried → e.used ≡ B.used → e.answer ≡ x → x ≡ refusal l b.used B.region.size
    → ((k : ℕ) (r w : Log) → S h k r w → IsOfWrites e.stamp [] × Adds A' allows S' h k x (λ used. used) e.stamp r [])
    → IsEndBy e.answer P B c A allows T G S' h n K e
turn_refused P B c A A' allows T G D S0 S S' h n K a b e x l D' fewer moves is o told u aw begun used p q adds =
    let t = u.turn in
    let es = u.events ++ t.3.2.0 in
    let other = refused_unlike l b.used B.region.size in
    let seen = seen_refused P B K fewer c a o.writes o.reads o.events t.3.2.0 D' (Holds (S h) K n b.stage b.tried) b (Ok (Refuse l)) (refusal l b.used B.region.size) t.0 t.3.0 o.comes o.knows u t.3.1 t.3.2.1 other is moves t.2.knew in
    let y = p ∙ q in
    end_by P B c A allows T G S' h n K e (refusal l b.used B.region.size) y (refused_by P B c A allows T G S' h n K e l b.used B.region.size (refuses P B c allows T G S S' A A' h n t.2.conflicts K e (meter b) t.0 (o.events ++ es) aw t.2.later (rw is at t.2.tries) begun (told es t.3.2.3) used
    (subst (λ (z : Answer). Seen P B K c (o.events ++ es) (Ended z (set_back B (meter b)) [] t.0)) (sym y) seen)
    (subst (λ (z : Answer). IsOfWrites e.stamp [] × Adds A' allows S' h t.2.conflicts z (λ used. used) e.stamp t.0 []) (sym p) (adds t.2.conflicts t.0 t.1 t.2.stands))))

-- the attempts of a run that ended as an entry: one for each conflict, and one
pub tries_entry : (P : Program) (B : Bounds) (c : Call) (A : Call → ℕ → Type 0) (allows : Entry → Type 0) (C C' : ℕ → Type 0) (G : List Event → Type 0) (S : List Entry → ℕ → Log → Log → Type 0) (h : List Entry) (n k : ℕ) (K : Log → Type 0) (e : End)
    → e.answer ≢ answer.Spent → A c B.used → MayRun allows P B c → C k → Ends P B (run_start P B c.method c.args) A allows (Begins C C') G S h n K e → HasTried S C' n k 1
unfolding adds_entry
tries_entry P B c A allows C C' G S h n k K e other aw may s t =
    let a = adds_entry P B c A allows (Begins C C') G S h n K e other aw may t in
    let l = t.added.later in
    let q = t.added.tries in
    let many : k + t.meter_then.tried ≡ k + (t.added.conflicts - n) + 1 = omega arith in
    record { history = _; conflicts = t.added.conflicts; later = t.added.later; stands = a.stands; begun = subst C' many (t.begun k s) }

-- the attempts of a call, by how it ends
pub tries_of : (P : Program) (B : Bounds) (c : Call) (A : Call → ℕ → Type 0) (allows : Entry → Type 0) (C C' : ℕ → Type 0) (G : List Event → Type 0) (S : List Entry → ℕ → Log → Log → Type 0) (h : List Entry) (n k : ℕ) (K : Log → Type 0) (e : End)
    → A c B.used → MayRun allows P B c → C k → IsEnd P B (run_start P B c.method c.args) A allows (Begins C C') G S h n (AddsNone (S h) n) K (Ok e) → TriesRun S C' n k (Ok e)
tries_of P B c A allows C C' G S h n k K e aw may s t = go e.answer refl t
  where
    more : e.answer ≢ answer.Spent → Ends P B (run_start P B c.method c.args) A allows (Begins C C') G S h n K e → HasTried S C' n k 1
    more other t = tries_entry P B c A allows C C' G S h n k K e other aw may s t

    go : (x : Answer) → e.answer ≡ x → IsEndBy x P B (run_start P B c.method c.args) A allows (Begins C C') G S h n K e → TriesBy x S C' n k
    go (answer.Returned v) q t = more (λ s. cc) t
    go (answer.Threw k) q t = more (λ s. cc) t
    go answer.Budget q t = more (λ s. cc) t
    go answer.Depth q t = more (λ s. cc) t
    go (answer.Heap u v z) q t = more (λ s. cc) t
    go answer.Spent q t =
        let many : k + t.meter_then.tried ≡ k + (n + t.meter_then.tried - n) + 0 = omega arith in
        record { history = h; conflicts = n + t.meter_then.tried; later = omega arith; stands = t.stands; begun = subst C' many (t.begun k s) }
    go answer.NoMemory q t = tt

-- a call of the same method with the same arguments is stuck as well
pub stuck_of_call : (P : Program) (B : Bounds) (c : Call) (m : ℕ) (args : List Value) (r : Log) → c.method ≡ m → c.args ≡ args → Comes P B (run_start P B m args) (Stuck r) → Comes P B (run_start P B c.method c.args) (Stuck r)
stuck_of_call P B c m args r p q t = rw (p, q) t

-- what the gate was told of an entry
pub tells_entry : (P : Program) (B : Bounds) (c : Call) (A : Call → ℕ → Type 0) (allows : Entry → Type 0) (T : ℕ → Type 0) (G : List Event → Type 0) (S : List Entry → ℕ → Log → Log → Type 0) (h : List Entry) (n : ℕ) (K : Log → Type 0) (e : End)
    → e.answer ≢ answer.Spent → A c B.used → MayRun allows P B c → Ends P B (run_start P B c.method c.args) A allows T G S h n K e → TellsEntry P B c S h n G e
unfolding adds_entry
tells_entry P B c A allows T G S h n K e other aw may t =
    let a = adds_entry P B c A allows T G S h n K e other aw may t in
    record {
      conflicts = t.added.conflicts;
      later = t.added.later;
      reads = t.reads;
      writes = t.writes;
      events = t.steps ++ event.Ended ∷ [];
      tells = record { meter = t.meter_then; replies = t.comes.0; ends = t.comes.1; leaves = t.leaves; made = other; steps = t.steps; told = t.comes.2; events = refl };
      tries = t.added.tries;
      stamped = t.added.stamped;
      stands = a.stands;
      told = t.told;
    }

-- its replies are those of which it is known what they let attempts read
pub knows_told : (P : Program) (B : Bounds) (c : Call) (A : Call → ℕ → Type 0) (allows : Entry → Type 0) (T : ℕ → Type 0) (G : List Event → Type 0) (S : List Entry → ℕ → Log → Log → Type 0) (h : List Entry) (n : ℕ) (K : Log → Type 0) (e : End)
    → (other : e.answer ≢ answer.Spent) → (aw : A c B.used) → (may : MayRun allows P B c) → (t : Ends P B (run_start P B c.method c.args) A allows T G S h n K e)
    → Knows P B K (tells_entry P B c A allows T G S h n K e other aw may t).tells.replies (run_start P B c.method c.args)
unfolding tells_entry
knows_told P B c A allows T G S h n K e other aw may t = t.knows

-- the end of a call, by what it told
pub tells_of : (P : Program) (B : Bounds) (c : Call) (A : Call → ℕ → Type 0) (allows : Entry → Type 0) (T : ℕ → Type 0) (G : List Event → Type 0) (S : List Entry → ℕ → Log → Log → Type 0) (h : List Entry) (n : ℕ) (K : Log → Type 0) (e : End) → A c B.used → MayRun allows P B c
    → IsEnd P B (run_start P B c.method c.args) A allows T G S h n (AddsNone (S h) n) K (Ok e) → TellsRun P B c S h n G (Ok e)
tells_of P B c A allows T G S h n K e aw may t = go e.answer refl t
  where
    more : e.answer ≢ answer.Spent → Ends P B (run_start P B c.method c.args) A allows T G S h n K e → TellsEntry P B c S h n G e
    more other t = tells_entry P B c A allows T G S h n K e other aw may t

    go : (x : Answer) → e.answer ≡ x → IsEndBy x P B (run_start P B c.method c.args) A allows T G S h n K e → TellsBy x P B c S h n G e
    go (answer.Returned v) q t = more (λ s. cc) t
    go (answer.Threw k) q t = more (λ s. cc) t
    go answer.Budget q t = more (λ s. cc) t
    go answer.Depth q t = more (λ s. cc) t
    go (answer.Heap u v z) q t = more (λ s. cc) t
    go answer.Spent q t = record { events = t.steps; no_entry = t.no_entry; told = t.told }
    go answer.NoMemory q t = absurd t
