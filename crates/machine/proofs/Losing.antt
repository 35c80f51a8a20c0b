-- Attempts that met a conflict, along a run.
use Rattle.std.proofs.Common.{◌≡◌, ◌≢◌, ◌⊎◌, inl, inr, ℕ, zero, suc, ◌<◌, ◌≤◌, List, [], ◌∷◌, ◌++◌, Option, Some, None, Bool, true, false, refl, ap, arith}
use Rattle.std.proofs.lemmas.Bool.{cases_lt}
use Rattle.jmodel.specs.declared.value.Answer.{Answer}
use Rattle.jmodel.specs.declared.value.Value.{Value}
use Rattle.jmodel.specs.declared.value.Answer.TheVariants.{Spent}
use Rattle.objects.specs.declared.op.Made.{Made}
use Rattle.objects.specs.declared.op.Made.TheVariants.{Pushed, Raised}
use Rattle.objects.specs.declared.op.Use.{Use}
use Rattle.objects.specs.declared.op.Use.TheVariants.{Indexes}
use Rattle.objects.specs.declared.op.Element.TheVariants as element
use Rattle.objects.specs.declared.op.Request.{Request}
use Rattle.objects.specs.declared.op.Request.TheVariants as request
use Rattle.objects.specs.declared.op.Phase.TheVariants.{Ready, Open, Doomed, Closed}
use Rattle.objects.specs.declared.op.Asking.TheVariants as asking
use Rattle.objects.specs.semantics.Program.{Row, Method, Program, row_at, method_at}
use Rattle.objects.specs.semantics.Region.{next_reference, has_words}
use Rattle.objects.specs.semantics.State.{Object, type_in, length_in, words_of, object_of}
use Rattle.objects.specs.semantics.Step.{Frames, Asked, Asks, Fails, unwinds, told, step}
use Rattle.objects.specs.semantics.Traps.{IsOpen}
use Rattle.objects.specs.rewriting.Attempt.{Log, answered, written, recorded, Reply, Gives, Refuses, Bounds, Meter, Run, On, Asking, Ended, Stuck, on_asked, on_request, on_head, heads, followed, throws, on_thrown, with_turns, with_depth, makes, made, on_made, next_run, run, starts, run_start}
use Rattle.machine.specs.Opacity.{tried_in}
use Rattle.machine.proofs.Seeing.{Goes, Begins, Leaves, Ends, asked_goes, asked_begins, asked_leaves, asked_ends}

-- ---- an open attempt meets a conflict only where the engine refuses

abbrev Refused : Reply → Run → Type 0
Refused v (On Ready fs m w r) = v ≡ Refuses
Refused v (On Doomed fs m w r) = v ≡ Refuses
Refused v e = Unit {0}

always : (e : Run) → Refused Refuses e
always (On Ready fs m w r) = refl
always (On Doomed fs m w r) = refl
always (On Open fs m w r) = tt
always (On Closed fs m w r) = tt
always (Asking a fs m w r) = tt
always (Ended x m w r) = tt
always (Stuck r) = tt

module _ (Q : Program) (B : Bounds) where
  turns_refused : (v : Reply) (k : ℕ) (fs : Frames) (m : Meter) (w r : Log) → Refused v (with_turns B k fs m w r)
  turns_refused v zero fs m w r = tt
  turns_refused v (suc k) fs m w r = tt

  depth_refused : (v : Reply) (deep : Bool) (k : ℕ) (fs : Frames) (m : Meter) (w r : Log) → Refused v (with_depth B deep k fs m w r)
  depth_refused v deep zero fs m w r = tt
  depth_refused v true (suc k) fs m w r = tt
  depth_refused v false (suc k) fs m w r = tt

  thrown_refused : (v : Reply) (b : Asked) (m : Meter) (w r : Log) → Refused v (on_thrown B b m w r)
  thrown_refused v (Asks asking.Go fs) m w r = tt
  thrown_refused v (Asks asking.Turn fs) m w r = turns_refused v m.turns fs m w r
  thrown_refused v b m w r = tt

  throws_refused : (v : Reply) (c : Option Row) (o t : ℕ) (fs : Frames) (m : Meter) (w r : Log) → Refused v (throws c Q B o t fs m w r)
  throws_refused v None o t fs m w r = tt
  throws_refused v (Some c) o t fs m w r = thrown_refused v (unwinds Q o t fs) _ w r

  made_refused : (v : Reply) (d : Made) (b : Object) (fs : Frames) (m : Meter) (w r : Log) → Refused v (on_made d Q B b fs m w r)
  made_refused v Pushed b fs m w r = tt
  made_refused v Raised b fs m w r = thrown_refused v (unwinds Q (next_reference B.region m.used) b.type fs) _ w r

  makes_refused : (room : Bool) (x : ℕ) (d : Made) (b : Object) (fs : Frames) (m : Meter) (w r : Log) → Refused (Gives x) (makes room (Gives x) d Q B b fs m w r)
  makes_refused false x d b fs m w r = tt
  makes_refused true x d b fs m w r = made_refused (Gives x) d b fs m _ r

  making_refused : (row : Option Row) (t len : ℕ) (d : Made) (x : ℕ) (fs : Frames) (m : Meter) (w r : Log) → Refused (Gives x) (made row t len d (Gives x) Q B fs m w r)
  making_refused None t len d x fs m w r = tt
  making_refused (Some row) t len d x fs m w r = makes_refused (has_words B.region m.used (words_of (object_of t len row))) x d (object_of t len row) fs m w r

  follows_refused : (v : Reply) (b : Asked) (m : Meter) (w r : Log) → Refused v (followed b m w r)
  follows_refused v Fails m w r = tt
  follows_refused v (Asks asking.Go fs) m w r = tt
  follows_refused v (Asks a fs) m w r = tt

  head_refused : (x : ℕ) (u : Use) (o : ℕ) (fs : Frames) (m : Meter) (w r : Log) → Refused (Gives x) (on_head (Gives x) Q u o fs m w r)
  head_refused x u o fs m w r = follows_refused (Gives x) (told Q u o (type_in (answered w o x)) (length_in (answered w o x)) fs) m w (recorded (written w o) o x r)

  heads_refused : (x : ℕ) (u : Use) (o : ℕ) (fs : Frames) (m : Meter) (w r : Log) → Refused (Gives x) (heads (Gives x) Q u o fs m w r)
  heads_refused x (Indexes i element.Load) o fs m w r = tt
  heads_refused x u o fs m w r = head_refused x u o fs m w r

  request_refused : (q : Request) (x : ℕ) (fs : Frames) (m : Meter) (w r : Log) → Refused (Gives x) (on_request Q B q Open (Gives x) fs m w r)
  request_refused request.Commit x fs m w r = tt
  request_refused q x fs m w r = tt

  asked_refused : (a : Asked) (v : Reply) (m : Meter) (w r : Log) → Refused v (on_asked Q B a Open v m w r)
  asked_refused a Refuses m w r = always (on_asked Q B a Open Refuses m w r)
  asked_refused Fails (Gives x) m w r = tt
  asked_refused (Asks asking.Go fs) (Gives x) m w r = tt
  asked_refused (Asks asking.Turn fs) (Gives x) m w r = turns_refused (Gives x) m.turns fs m w r
  asked_refused (Asks (asking.Enter deep) fs) (Gives x) m w r = depth_refused (Gives x) deep m.turns fs m w r
  asked_refused (Asks (asking.Return y) fs) (Gives x) m w r = tt
  asked_refused (Asks (asking.Throw o) fs) (Gives x) m w r = tt
  asked_refused (Asks (asking.Raise o) fs) (Gives x) m w r = throws_refused (Gives x) (row_at Q (type_in (answered w o x))) o _ fs m w _
  asked_refused (Asks (asking.Make t n d) fs) (Gives x) m w r = making_refused (row_at Q t) t n d x fs m w r
  asked_refused (Asks (asking.Head o u) fs) (Gives x) m w r = heads_refused x u o fs m w r
  asked_refused (Asks (asking.Ask q) fs) (Gives x) m w r = request_refused q x fs m w r

-- ---- where an attempt is lost

-- the k-th attempt hasn't met a conflict yet
abbrev IsBefore : ℕ → Run → Type 0
IsBefore k (On Ready fs m w r) = m.tried < k
IsBefore k (On Doomed fs m w r) = m.tried < k
IsBefore k (On p fs m w r) = m.tried ≤ k
IsBefore k (Asking a fs m w r) = m.tried ≤ k
IsBefore k (Ended Spent m w r) = m.tried < k
IsBefore k (Ended x m w r) = m.tried ≤ k
IsBefore k (Stuck r) = Unit {0}

-- it has
abbrev IsBehind : ℕ → Run → Type 0
IsBehind k (On Ready fs m w r) = k ≤ m.tried
IsBehind k (On Doomed fs m w r) = k ≤ m.tried
IsBehind k (On p fs m w r) = k < m.tried
IsBehind k (Asking a fs m w r) = k < m.tried
IsBehind k (Ended Spent m w r) = k ≤ m.tried
IsBehind k (Ended x m w r) = k < m.tried
IsBehind k (Stuck r) = ⊥

flip : (a b : ℕ) → (a < b) ⊎ (b ≤ a) → (b ≤ a) ⊎ (a < b)
flip a b (inl l) = inr l
flip a b (inr l) = inl l

one_of : (k : ℕ) (c : Run) → IsBefore k c ⊎ IsBehind k c
one_of k (On Ready fs m w r) = cases_lt m.tried k
one_of k (On Doomed fs m w r) = cases_lt m.tried k
one_of k (On Open fs m w r) = flip k m.tried (cases_lt k m.tried)
one_of k (On Closed fs m w r) = flip k m.tried (cases_lt k m.tried)
one_of k (Asking a fs m w r) = flip k m.tried (cases_lt k m.tried)
one_of k (Ended Spent m w r) = cases_lt m.tried k
one_of k (Ended x m w r) = flip k m.tried (cases_lt k m.tried)
one_of k (Stuck r) = inl tt

apart : (a b : ℕ) → a < b → b ≤ a → ⊥
apart a b l m = omega (arith, l, m)

not_both : (k : ℕ) (c : Run) → IsBefore k c → IsBehind k c → ⊥
not_both k (On Ready fs m w r) b h = apart m.tried k b h
not_both k (On Doomed fs m w r) b h = apart m.tried k b h
not_both k (On Open fs m w r) b h = apart k m.tried h b
not_both k (On Closed fs m w r) b h = apart k m.tried h b
not_both k (Asking a fs m w r) b h = apart k m.tried h b
not_both k (Ended Spent m w r) b h = apart m.tried k b h
not_both k (Ended x m w r) b h = apart k m.tried h b
not_both k (Stuck r) b h = absurd h

over : (k t n : ℕ) → n ≡ t → k < n → t ≤ k → ⊥
over k t n e l b = omega (arith, e, l, b)

-- The step at which an open attempt is lost is a refusal.
open_lost : (k t : ℕ) (r : Log) (v : Reply) (e : Run) → Goes t r e → Refused v e → t ≤ k → IsBehind k e → (t ≡ k) × (v ≡ Refuses)
open_lost k t r v (On Ready fs m w q) g f b h = (omega (arith, g, b, h), f)
open_lost k t r v (On Doomed fs m w q) g f b h = let e = g.0 in (omega (arith, e, b, h), f)
open_lost k t r v (On Open fs m w q) g f b h = absurd (over k t m.tried g.0 h b)
open_lost k t r v (On Closed fs m w q) g f b h = absurd (over k t m.tried g.0 h b)
open_lost k t r v (Asking a fs m w q) g f b h = absurd (over k t m.tried g.0 h b)
open_lost k t r v (Ended Spent m w q) g f b h = absurd g
open_lost k t r v (Ended x m w q) g f b h = absurd (over k t m.tried g.0 h b)
open_lost k t r v (Stuck q) g f b h = absurd h

ready_keeps : (k t : ℕ) (e : Run) → Begins t e → t < k → IsBehind k e → ⊥
ready_keeps k t (On Ready fs m w q) g b h = omega (arith, g, b, h)
ready_keeps k t (On Open fs m w q) g b h = omega (arith, g, b, h)
ready_keeps k t (On Doomed fs m w q) g b h = absurd g
ready_keeps k t (On Closed fs m w q) g b h = absurd g
ready_keeps k t (Asking a fs m w q) g b h = absurd g
ready_keeps k t (Ended Spent m w q) g b h = omega (arith, g, b, h)
ready_keeps k t (Ended x m w q) g b h = absurd g
ready_keeps k t (Stuck q) g b h = absurd h

doomed_keeps : (k t : ℕ) (r : Log) (e : Run) → Leaves t r e → t < k → IsBehind k e → ⊥
doomed_keeps k t r (On Ready fs m w q) g b h = omega (arith, g, b, h)
doomed_keeps k t r (On Doomed fs m w q) g b h = let e = g.0 in omega (arith, e, b, h)
doomed_keeps k t r (On Open fs m w q) g b h = absurd g
doomed_keeps k t r (On Closed fs m w q) g b h = absurd g
doomed_keeps k t r (Asking a fs m w q) g b h = absurd g
doomed_keeps k t r (Ended x m w q) g b h = absurd g
doomed_keeps k t r (Stuck q) g b h = absurd h

closed_keeps : (k t : ℕ) (r : Log) (e : Run) → Ends t r e → t ≤ k → IsBehind k e → ⊥
closed_keeps k t r (On Closed fs m w q) g b h = over k t m.tried g.0 h b
closed_keeps k t r (On Ready fs m w q) g b h = absurd g
closed_keeps k t r (On Open fs m w q) g b h = absurd g
closed_keeps k t r (On Doomed fs m w q) g b h = absurd g
closed_keeps k t r (Asking a fs m w q) g b h = absurd g
closed_keeps k t r (Ended Spent m w q) g b h = absurd g
closed_keeps k t r (Ended x m w q) g b h = over k t m.tried g.0 h b
closed_keeps k t r (Stuck q) g b h = absurd h

-- replies up to the last of an attempt of this number, which the engine refuses
pub record LostFrom (Q : Program) (B : Bounds) (c : Run) (vs : List Reply) (k : ℕ) : Type 0 where
  pub before : List Reply
  pub behind : List Reply
  pub are : vs ≡ before ++ Refuses ∷ behind
  pub number : tried_in (run Q B before c) ≡ k
  pub reads : Log
  pub has_read : IsOpen reads (run Q B before c)

module _ (Q : Program) (B : Bounds) (k : ℕ) where
  step_lost : (v : Reply) (c : Run) → IsBefore k c → IsBehind k (next_run Q B v c) → (r : Log) × IsOpen r c × (tried_in c ≡ k) × (v ≡ Refuses)
  step_lost v (On Open fs m w r) b h = let x = open_lost k m.tried r v _ (asked_goes Q B (step Q fs) v m w r) (asked_refused Q B (step Q fs) v m w r) b h in (r, refl, x.0, x.1)
  step_lost v (Asking a fs m w r) b h = let x = open_lost k m.tried r v _ (asked_goes Q B (Asks a fs) v m w r) (asked_refused Q B (Asks a fs) v m w r) b h in (r, refl, x.0, x.1)
  step_lost v (On Ready fs m w r) b h = absurd (ready_keeps k m.tried _ (asked_begins Q B (step Q fs) v m w r) b h)
  step_lost v (On Doomed fs m w r) b h = absurd (doomed_keeps k m.tried r _ (asked_leaves Q B (step Q fs) v m w r) b h)
  step_lost v (On Closed fs m w r) b h = absurd (closed_keeps k m.tried r _ (asked_ends Q B (step Q fs) v m w r) b h)
  step_lost v (Ended x m w r) b h = absurd (not_both k (Ended x m w r) b h)
  step_lost v (Stuck r) b h = absurd h

  run_on : (v : Reply) (vs : List Reply) (c : Run) → IsBefore k c → (IsBefore k (next_run Q B v c) → LostFrom Q B (next_run Q B v c) vs k) → IsBefore k (next_run Q B v c) ⊎ IsBehind k (next_run Q B v c) → LostFrom Q B c (v ∷ vs) k
  run_on v vs c b f (inl later) =
      let x = f later in
      record { before = v ∷ x.before; behind = x.behind; are = ap (λ (us : List Reply). v ∷ us) x.are; number = x.number; reads = x.reads; has_read = x.has_read }
  run_on v vs c b f (inr now) =
      let x = step_lost v c b now in
      record { before = []; behind = vs; are = ap (λ (u : Reply). u ∷ vs) x.3; number = x.2; reads = x.0; has_read = x.1 }

  pub run_lost : (vs : List Reply) (c : Run) → IsBefore k c → IsBehind k (run Q B vs c) → LostFrom Q B c vs k
  run_lost [] c b h = absurd (not_both k c b h)
  run_lost (v ∷ vs) c b h = run_on v vs c b (λ later. run_lost vs (next_run Q B v c) later h) (one_of k (next_run Q B v c))

-- ---- of a call

start_before : (o : Option Method) (B : Bounds) (m : ℕ) (args : List Value) (k : ℕ) → 0 < k → IsBefore k (starts o B m args)
start_before None B m args k l = tt
start_before (Some x) B m args k l = l

-- each attempt before the one that ended as an entry
pub lost_of_entry : (Q : Program) (B : Bounds) (m : ℕ) (args : List Value) (vs : List Reply) (x : Answer) (M : Meter) (w r : Log) → x ≢ Spent → run Q B vs (run_start Q B m args) ≡ Ended x M w r
    → (k : ℕ) → 0 < k → k < M.tried → LostFrom Q B (run_start Q B m args) vs k
lost_of_entry Q B m args vs x M w r other e k l h = run_lost Q B k vs (run_start Q B m args) (start_before (method_at Q m) B m args k l) (rw e (by x other))
  where
    by : (y : Answer) → y ≢ Spent → IsBehind k (Ended y M w r)
    by Spent n = absurd (n refl)
    by y n = h

-- each attempt, where they were used up
pub lost_of_spent : (Q : Program) (B : Bounds) (m : ℕ) (args : List Value) (vs : List Reply) (M : Meter) (w r : Log) → run Q B vs (run_start Q B m args) ≡ Ended Spent M w r
    → (k : ℕ) → 0 < k → k ≤ M.tried → LostFrom Q B (run_start Q B m args) vs k
lost_of_spent Q B m args vs M w r e k l h = run_lost Q B k vs (run_start Q B m args) (start_before (method_at Q m) B m args k l) (rw e h)
