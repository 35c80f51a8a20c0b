-- A call of a rewritten method is spent after as many attempts as it may make, and makes no more than its limits allow.
use Rattle.std.proofs.Common.{◌≡◌, ℕ, ℤ, zero, suc, ◌≤◌, ◌<◌, List, [], ◌∷◌, ◌++◌, Option, Some, None, Bool, true, false, refl, subst, arith, nat_lt, min}
use Rattle.std.proofs.lemmas.Bool.Decides.{nat_tests}
use Rattle.std.specs.Prelude.{slice_get, length, pos}
use Rattle.jmodel.specs.declared.value.Value.{Value}
use Rattle.jmodel.specs.declared.value.Answer.TheVariants.{Spent}
use Rattle.objects.specs.declared.op.Slot.TheVariants as slot
use Rattle.objects.specs.declared.op.Dispatch.TheVariants as dispatch
use Rattle.objects.specs.declared.op.Made.{Made}
use Rattle.objects.specs.declared.op.Made.TheVariants.{Pushed, Raised}
use Rattle.objects.specs.declared.op.Element.TheVariants as element
use Rattle.objects.specs.declared.op.Use.{Use}
use Rattle.objects.specs.declared.op.Use.TheVariants.{Selects, Implements, Casts, Tests, Measures, Indexes, Fits}
use Rattle.objects.specs.declared.op.Request.{Request}
use Rattle.objects.specs.declared.op.Request.TheVariants as request
use Rattle.objects.specs.declared.op.Asking.{Asking as Wanted}
use Rattle.objects.specs.declared.op.Asking.TheVariants.{Go, Turn, Enter, Return, Throw, Raise, Make, Head, Ask}
use Rattle.objects.specs.declared.op.Phase.{Phase}
use Rattle.objects.specs.declared.op.Phase.TheVariants.{Ready, Open, Doomed, Closed}
use Rattle.objects.specs.semantics.Program.{Row, Method, Program, method_at, row_at}
use Rattle.objects.specs.semantics.Step.{Frames, Asked, Asks, Fails, step, unwinds, told}
use Rattle.objects.specs.semantics.Region.{next_reference, has_words}
use Rattle.objects.specs.semantics.State.{Object, type_in, length_in, words_of, object_of}
use Rattle.objects.specs.typing.Typing.{Table}
use Rattle.objects.specs.laws.TypingLaw.{IsTypedProgram}
use Rattle.objects.specs.rewriting.Rewriting.{rewritten, duplicate, wrapper_method, body_code, end_code, conflict_code, exception_code}
use Rattle.objects.specs.rewriting.Attempt.{Log, Reply, Gives, Refuses, Bounds, Meter, Run, On, Asking, Ended, Stuck, with_turns, turned, with_depth, entered, returned, class_of, threw_of, threw, count_of, begun, unwound, on_thrown, throws, on_raise, raises, on_made, on_header, makes, made, making, followed, on_head, heads, heading, on_request, on_asking, on_asked, next_run, run, starts, run_start, Comes, answered}
use Rattle.objects.proofs.Inner.{IsInnerUse}
use Rattle.objects.proofs.Places.{rewrites}
use Rattle.objects.proofs.Simulated.{ops_inner}
use Rattle.session.proofs.Outer.{tail_outer}
use Rattle.session.proofs.Framed.{GoBehind, Waits, Fine, IsFair, IsWell, next_fine, resumed_fine, told_well, unwinds_well, step_well}

module _ (Q : Program) (first mn : ℕ) (retries : ℤ) (wm : Method) (is : slice_get Q.methods mn ≡ Some wm) (entries : GoBehind wm.catches) (steps : (fs : Frames) → Fine Q first mn retries fs → IsWell Q first mn retries (step Q fs)) (B : Bounds) where
  abbrev IsFine : Frames → Type 0
  IsFine = Fine Q first mn retries

  abbrev AreWaiting : Frames → Type 0
  AreWaiting = Waits Q first mn retries

  abbrev AsksWell : Asked → Type 0
  AsksWell = IsWell Q first mn retries

  abbrev most : ℕ
  most = min (count_of retries) B.attempts

  -- no more attempts than the limits allow, and as many as there may be where a call is spent
  abbrev Good : Run → Type 0
  Good (On p fs m w r) = IsFine fs × (m.tried ≤ B.attempts)
  Good (Asking a fs m w r) = AsksWell (Asks a fs) × (m.tried ≤ B.attempts)
  Good (Ended x m w r) = (m.tried ≤ B.attempts) × (x ≡ Spent → most ≤ m.tried)
  Good (Stuck r) = Unit {0}

  turns_good : (t : ℕ) (fs : Frames) (m : Meter) (w r : Log) → IsFine fs → m.tried ≤ B.attempts → Good (with_turns B t fs m w r)
  turns_good zero fs m w r f le = (le, λ e. cc)
  turns_good (suc t) fs m w r f le = (f, le)

  turned_good : (p : Phase) (fs : Frames) (m : Meter) (w r : Log) → IsFine fs → m.tried ≤ B.attempts → Good (turned B p fs m w r)
  turned_good Open fs m w r f le = turns_good m.turns fs m w r f le
  turned_good Ready fs m w r f le = tt
  turned_good Doomed fs m w r f le = tt
  turned_good Closed fs m w r f le = tt

  depth_good : (deep : Bool) (t : ℕ) (fs : Frames) (m : Meter) (w r : Log) → IsFine fs → m.tried ≤ B.attempts → Good (with_depth B deep t fs m w r)
  depth_good deep zero fs m w r f le = (le, λ e. cc)
  depth_good true (suc t) fs m w r f le = (le, λ e. cc)
  depth_good false (suc t) fs m w r f le = (f, le)

  entered_good : (p : Phase) (deep : Bool) (fs : Frames) (m : Meter) (w r : Log) → IsFine fs → m.tried ≤ B.attempts → Good (entered B p deep fs m w r)
  entered_good Open deep fs m w r f le = depth_good deep m.turns fs m w r f le
  entered_good Ready deep fs m w r f le = tt
  entered_good Doomed deep fs m w r f le = tt
  entered_good Closed deep fs m w r f le = tt

  returned_good : (p : Phase) (v : Option Value) (m : Meter) (w r : Log) → m.tried ≤ B.attempts → Good (returned p v m w r)
  returned_good Closed v m w r le = (le, λ e. cc)
  returned_good Ready v m w r le = tt
  returned_good Open v m w r le = tt
  returned_good Doomed v m w r le = tt

  threw_of_good : (c : Option (List ℕ)) (m : Meter) (w r : Log) → m.tried ≤ B.attempts → Good (threw_of c m w r)
  threw_of_good None m w r le = tt
  threw_of_good (Some class) m w r le = (le, λ e. cc)

  threw_good : (p : Phase) (o : ℕ) (m : Meter) (w r : Log) → m.tried ≤ B.attempts → Good (threw Q p o m w r)
  threw_good Closed o m w r le = threw_of_good (class_of Q m.thrown o) m w r le
  threw_good Ready o m w r le = tt
  threw_good Open o m w r le = tt
  threw_good Doomed o m w r le = tt

  begun_good : (n : ℤ) (fs : Frames) (m : Meter) → n ≡ retries → AreWaiting fs → m.tried ≤ B.attempts → Good (begun (nat_lt m.tried (min (count_of n) B.attempts)) B fs m)
  begun_good n fs m own waits le = by (nat_lt m.tried (min (count_of n) B.attempts)) refl
    where
      by : (b : Bool) → nat_lt m.tried (min (count_of n) B.attempts) ≡ b → Good (begun b B fs m)
      by true e = (next_fine Q first mn retries fs waits, let l : m.tried < min (count_of n) B.attempts = grind (arith, nat_tests) in omega (arith, l))
      by false e =
          let l : min (count_of n) B.attempts ≤ m.tried = grind (arith, nat_tests) in
          (le, λ s. subst (λ (i : ℤ). min (count_of i) B.attempts ≤ m.tried) own l)

  unwound_good : (a : Asked) (m : Meter) (w r : Log) → AsksWell a → m.tried ≤ B.attempts → Good (unwound a m w r)
  unwound_good (Asks Go fs) m w r f le = (f, le)
  unwound_good a m w r f le = tt

  thrown_good : (a : Asked) (m : Meter) (w r : Log) → AsksWell a → m.tried ≤ B.attempts → Good (on_thrown B a m w r)
  thrown_good (Asks Go fs) m w r f le = (f, le)
  thrown_good (Asks Turn fs) m w r f le = turns_good m.turns fs m w r f le
  thrown_good a m w r f le = tt

  abbrev unwind : (e t : ℕ) (fs : Frames) → AreWaiting fs → AsksWell (unwinds Q e t fs)
  unwind = unwinds_well Q first mn retries wm is entries

  throws_good : (c : Option Row) (o t : ℕ) (fs : Frames) (m : Meter) (w r : Log) → AreWaiting fs → m.tried ≤ B.attempts → Good (throws c Q B o t fs m w r)
  throws_good None o t fs m w r waits le = tt
  throws_good (Some c) o t fs m w r waits le = thrown_good (unwinds Q o t fs) _ w r (unwind o t fs waits) le

  on_raise_good : (v : Reply) (o : ℕ) (fs : Frames) (m : Meter) (w r : Log) → AreWaiting fs → m.tried ≤ B.attempts → Good (on_raise v Q B o fs m w r)
  on_raise_good (Gives x) o fs m w r waits le = throws_good (row_at Q (type_in (answered w o x))) o _ fs m w _ waits le
  on_raise_good Refuses o fs m w r waits le = unwound_good (unwinds Q 1 0 fs) m w r (unwind 1 0 fs waits) le

  raises_good : (p : Phase) (v : Reply) (o : ℕ) (fs : Frames) (m : Meter) (w r : Log) → AreWaiting fs → m.tried ≤ B.attempts → Good (raises p v Q B o fs m w r)
  raises_good Open v o fs m w r waits le = on_raise_good v o fs m w r waits le
  raises_good Doomed v o fs m w r waits le = unwound_good (unwinds Q o 0 fs) m w r (unwind o 0 fs waits) le
  raises_good Ready v o fs m w r waits le = tt
  raises_good Closed v o fs m w r waits le = tt

  on_made_good : (d : Made) (b : Object) (fs : Frames) (m : Meter) (w r : Log) → AreWaiting fs → m.tried ≤ B.attempts → Good (on_made d Q B b fs m w r)
  on_made_good Pushed b fs m w r waits le = (resumed_fine Q first mn retries (slot.Ref (next_reference B.region m.used) ∷ []) fs waits, le)
  on_made_good Raised b fs m w r waits le = thrown_good (unwinds Q (next_reference B.region m.used) b.type fs) _ w r (unwind _ b.type fs waits) le

  header_good : (v : Reply) (d : Made) (b : Object) (fs : Frames) (m : Meter) (w r : Log) → AreWaiting fs → m.tried ≤ B.attempts → Good (on_header v d Q B b fs m w r)
  header_good (Gives x) d b fs m w r waits le = on_made_good d b fs m _ r waits le
  header_good Refuses d b fs m w r waits le = unwound_good (unwinds Q 1 0 fs) m w r (unwind 1 0 fs waits) le

  makes_good : (room : Bool) (v : Reply) (d : Made) (b : Object) (fs : Frames) (m : Meter) (w r : Log) → AreWaiting fs → m.tried ≤ B.attempts → Good (makes room v d Q B b fs m w r)
  makes_good true v d b fs m w r waits le = header_good v d b fs m w r waits le
  makes_good false v d b fs m w r waits le = (le, λ e. cc)

  made_good : (c : Option Row) (t n : ℕ) (d : Made) (v : Reply) (fs : Frames) (m : Meter) (w r : Log) → AreWaiting fs → m.tried ≤ B.attempts → Good (made c t n d v Q B fs m w r)
  made_good None t n d v fs m w r waits le = tt
  made_good (Some c) t n d v fs m w r waits le = makes_good (has_words B.region m.used (words_of (object_of t n c))) v d (object_of t n c) fs m w r waits le

  making_good : (p : Phase) (t n : ℕ) (d : Made) (v : Reply) (fs : Frames) (m : Meter) (w r : Log) → AreWaiting fs → m.tried ≤ B.attempts → Good (making p t n d v Q B fs m w r)
  making_good Open t n d v fs m w r waits le = made_good (row_at Q t) t n d v fs m w r waits le
  making_good Ready t n d v fs m w r waits le = tt
  making_good Doomed t n d v fs m w r waits le = tt
  making_good Closed t n d v fs m w r waits le = tt

  followed_good : (a : Asked) (m : Meter) (w r : Log) → AsksWell a → m.tried ≤ B.attempts → Good (followed a m w r)
  followed_good (Asks Go fs) m w r f le = (f, le)
  followed_good (Asks Turn fs) m w r f le = (f, le)
  followed_good (Asks (Enter deep) fs) m w r f le = (f, le)
  followed_good (Asks (Return v) fs) m w r f le = (f, le)
  followed_good (Asks (Throw o) fs) m w r f le = (f, le)
  followed_good (Asks (Raise o) fs) m w r f le = (f, le)
  followed_good (Asks (Make t n d) fs) m w r f le = (f, le)
  followed_good (Asks (Head o u) fs) m w r f le = (f, le)
  followed_good (Asks (Ask q) fs) m w r f le = (f, le)
  followed_good Fails m w r f le = tt

  head_good : (v : Reply) (u : Use) (o : ℕ) (fs : Frames) (m : Meter) (w r : Log) → IsInnerUse Q first u → AreWaiting fs → m.tried ≤ B.attempts → Good (on_head v Q u o fs m w r)
  head_good (Gives x) u o fs m w r inner waits le =
      followed_good (told Q u o (type_in (answered w o x)) (length_in (answered w o x)) fs) m w _ (told_well Q first mn retries u o _ _ fs inner waits) le
  head_good Refuses u o fs m w r inner waits le = unwound_good (unwinds Q 1 0 fs) m w r (unwind 1 0 fs waits) le

  heads_good : (v : Reply) (u : Use) (o : ℕ) (fs : Frames) (m : Meter) (w r : Log) → IsInnerUse Q first u → AreWaiting fs → m.tried ≤ B.attempts → Good (heads v Q u o fs m w r)
  heads_good v (Indexes i element.Load) o fs m w r inner waits le = (resumed_fine Q first mn retries (slot.Loaded ∷ []) fs waits, le)
  heads_good v (Indexes i (element.Store x)) o fs m w r inner waits le = head_good v (Indexes i (element.Store x)) o fs m w r inner waits le
  heads_good v (Indexes i element.Look) o fs m w r inner waits le = head_good v (Indexes i element.Look) o fs m w r inner waits le
  heads_good v (Indexes i (element.Write x)) o fs m w r inner waits le = head_good v (Indexes i (element.Write x)) o fs m w r inner waits le
  heads_good v (Selects k) o fs m w r inner waits le = head_good v (Selects k) o fs m w r inner waits le
  heads_good v (Implements k c) o fs m w r inner waits le = head_good v (Implements k c) o fs m w r inner waits le
  heads_good v (Casts c) o fs m w r inner waits le = head_good v (Casts c) o fs m w r inner waits le
  heads_good v (Tests c) o fs m w r inner waits le = head_good v (Tests c) o fs m w r inner waits le
  heads_good v Measures o fs m w r inner waits le = head_good v Measures o fs m w r inner waits le
  heads_good v (Fits a p e) o fs m w r inner waits le = head_good v (Fits a p e) o fs m w r inner waits le

  heading_good : (p : Phase) (v : Reply) (u : Use) (o : ℕ) (fs : Frames) (m : Meter) (w r : Log) → IsInnerUse Q first u → AreWaiting fs → m.tried ≤ B.attempts → Good (heading p v Q u o fs m w r)
  heading_good Open v u o fs m w r inner waits le = heads_good v u o fs m w r inner waits le
  heading_good Ready v u o fs m w r inner waits le = tt
  heading_good Doomed v u o fs m w r inner waits le = tt
  heading_good Closed v u o fs m w r inner waits le = tt

  request_good : (q : Request) (p : Phase) (v : Reply) (fs : Frames) (m : Meter) (w r : Log) → IsFair Q first mn retries q → AreWaiting fs → m.tried ≤ B.attempts → Good (on_request Q B q p v fs m w r)
  request_good (request.Begin n) Ready v fs m w r fair waits le = begun_good n fs m fair waits le
  request_good (request.Get p) Open v fs m w r fair waits le = (resumed_fine Q first mn retries (slot.Loaded ∷ []) fs waits, le)
  request_good (request.Look p) Open (Gives x) fs m w r fair waits le = (next_fine Q first mn retries fs waits, le)
  request_good (request.Look p) Open Refuses fs m w r fair waits le = unwound_good (unwinds Q 1 0 fs) m w r (unwind 1 0 fs waits) le
  request_good (request.Read p t) Open (Gives x) fs m w r fair waits le = (resumed_fine Q first mn retries _ fs waits, le)
  request_good (request.Read p t) Open Refuses fs m w r fair waits le = unwound_good (unwinds Q 1 0 fs) m w r (unwind 1 0 fs waits) le
  request_good (request.Write p x) Open (Gives y) fs m w r fair waits le = (next_fine Q first mn retries fs waits, le)
  request_good (request.Write p x) Open Refuses fs m w r fair waits le = unwound_good (unwinds Q 1 0 fs) m w r (unwind 1 0 fs waits) le
  request_good request.Commit Open (Gives x) fs m w r fair waits le = (resumed_fine Q first mn retries (slot.Int (pos 1) ∷ []) fs waits, le)
  request_good request.Commit Open Refuses fs m w r fair waits le = (resumed_fine Q first mn retries (slot.Int (pos 0) ∷ []) fs waits, le)
  request_good request.Rollback Doomed v fs m w r fair waits le = (next_fine Q first mn retries fs waits, le)
  request_good q p v fs m w r fair waits le = tt

  asking_good : (a : Wanted) (p : Phase) (v : Reply) (fs : Frames) (m : Meter) (w r : Log) → AsksWell (Asks a fs) → m.tried ≤ B.attempts → Good (on_asking Q B a p v fs m w r)
  asking_good Go p v fs m w r f le = (f, le)
  asking_good Turn p v fs m w r f le = turned_good p fs m w r f le
  asking_good (Enter deep) p v fs m w r f le = entered_good p deep fs m w r f le
  asking_good (Return x) p v fs m w r f le = returned_good p x m w r le
  asking_good (Throw o) p v fs m w r f le = threw_good p o m w r le
  asking_good (Raise o) p v fs m w r f le = raises_good p v o fs m w r f le
  asking_good (Make t n d) p v fs m w r f le = making_good p t n d v fs m w r f le
  asking_good (Head o u) p v fs m w r f le = heading_good p v u o fs m w r f.0 f.1 le
  asking_good (Ask q) p v fs m w r f le = request_good q p v fs m w r f.0 f.1 le

  asked_good : (a : Asked) (p : Phase) (v : Reply) (m : Meter) (w r : Log) → AsksWell a → m.tried ≤ B.attempts → Good (on_asked Q B a p v m w r)
  asked_good (Asks a fs) p v m w r f le = asking_good a p v fs m w r f le
  asked_good Fails p v m w r f le = tt

  next_good : (v : Reply) (c : Run) → Good c → Good (next_run Q B v c)
  next_good v (On p fs m w r) h = asked_good (step Q fs) p v m w r (steps fs h.0) h.1
  next_good v (Asking a fs m w r) h = asking_good a Open v fs m w r h.0 h.1
  next_good v (Ended x m w r) h = h
  next_good v (Stuck r) h = tt

  pub run_good : (vs : List Reply) (c : Run) → Good c → Good (run Q B vs c)
  run_good [] c h = h
  run_good (v ∷ vs) c h = run_good vs (next_run Q B v c) (next_good v c h)

  start_good : (o : Option Method) (args : List Value) → Good (starts o B mn args)
  start_good None args = tt
  start_good (Some k) args = ((refl, λ five. absurd (omega (arith, five))), omega arith)

  pub spent_good : (args : List Value) (M : Meter) → Comes Q B (run_start Q B mn args) (Ended Spent M [] []) → (most ≤ M.tried) × (M.tried ≤ B.attempts)
  spent_good args M (vs, ends) = let h = subst Good ends (run_good vs (run_start Q B mn args) (start_good (method_at Q mn) args)) in (h.1 refl, h.0)

-- a call that is spent has made as many attempts as it may
pub all_tried : (P : Program) (Ts : List Table) → IsTypedProgram P Ts → (B : Bounds) (m : ℕ) (k : Method) (n : ℤ) → slice_get P.methods m ≡ Some k → k.dispatch ≡ dispatch.Static → k.retries ≡ Some n
    → (args : List Value) (M : Meter) → Comes (rewritten P Ts) B (run_start (rewritten P Ts) B m args) (Ended Spent M [] []) → (min (count_of n) B.attempts ≤ M.tried) × (M.tried ≤ B.attempts)
all_tried P Ts S B m k n there static marked args M ends =
    let Q = rewritten P Ts in
    let first = length P.methods in
    let t = (rewrites P Ts).wrapper m k n there marked in
    let wrapper = wrapper_method P t.0 m n k in
    let is = t.1 in
    let tail = body_code k (duplicate P m) ++ end_code k.result k.places ++ conflict_code k.places ++ exception_code k.places in
    let entries : GoBehind wrapper.catches = (omega arith, (omega arith, tt)) in
    spent_good Q first m n wrapper is entries
    (step_well Q first m n wrapper is entries (ops_inner P Ts S B m k n there static marked) k.places (pos t.0) tail refl
    (tail_outer first k (duplicate P m) static (omega arith))) B args M ends
