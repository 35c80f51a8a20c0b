-- What is known of an attempt's reads at its end was known of its reads before.
use Rattle.std.proofs.Common.{◌≡◌, ◌⊎◌, inl, inr, ℕ, zero, suc, ◌+◌, ◌<◌, ◌≤◌, List, [], ◌∷◌, ◌++◌, Option, Some, None, Bool, true, false, refl, sym, subst, ◌∙◌, arith}
use Rattle.std.specs.Prelude.{nat_lt, min}
use Rattle.jmodel.specs.declared.value.Answer.TheVariants.{Spent}
use Rattle.jmodel.specs.declared.access.Access.{Access}
use Rattle.objects.specs.declared.op.Made.{Made}
use Rattle.objects.specs.declared.op.Made.TheVariants.{Pushed, Raised}
use Rattle.objects.specs.declared.op.Use.{Use}
use Rattle.objects.specs.declared.op.Use.TheVariants.{Indexes}
use Rattle.objects.specs.declared.op.Element.TheVariants as element
use Rattle.objects.specs.declared.op.Request.{Request}
use Rattle.objects.specs.declared.op.Request.TheVariants as request
use Rattle.objects.specs.declared.op.Phase.TheVariants.{Ready, Open, Doomed, Closed}
use Rattle.objects.specs.declared.op.Asking.TheVariants as asking
use Rattle.objects.specs.semantics.Program.{Row, Program, row_at}
use Rattle.objects.specs.semantics.Region.{next_reference, has_words}
use Rattle.objects.specs.semantics.State.{Object, type_in, words_of, object_of}
use Rattle.objects.specs.semantics.Step.{Frames, Asked, Asks, Fails, unwinds, told, step}
use Rattle.objects.specs.semantics.Traps.{IsOpen}
use Rattle.objects.specs.rewriting.Attempt.{Log, access, answered, written, recorded, Reply, Gives, Refuses, Bounds, Meter, Run, On, Asking, Ended, Stuck, on_asked, on_request, on_head, heads, followed, throws, on_raise, on_thrown, unwound, with_turns, with_depth, makes, made, on_made, threw_of, class_of, begun, count_of, next_run, run}
use Rattle.objects.proofs.AttemptTraps.{Grown, same, more}
use Rattle.machine.specs.Running.{Knows}

-- ---- steps

-- A step of an open attempt, the one of this number, that has read this: it has read no less behind it, or was refused.
abbrev pub Goes : ℕ → Log → Run → Type 0
Goes k r (On Ready fs m w q) = m.tried ≡ k
Goes k r (On p fs m w q) = (m.tried ≡ k) × Grown r q
Goes k r (Asking a fs m w q) = (m.tried ≡ k) × Grown r q
Goes k r (Ended Spent m w q) = ⊥
Goes k r (Ended x m w q) = (m.tried ≡ k) × Grown r q
Goes k r (Stuck q) = Unit {0}

-- a step outside an attempt, after so many
abbrev pub Begins : ℕ → Run → Type 0
Begins k (On Ready fs m w q) = m.tried ≡ k
Begins k (On Open fs m w q) = m.tried ≡ k + 1
Begins k (Ended Spent m w q) = m.tried ≡ k
Begins k (Stuck q) = Unit {0}
Begins k e = ⊥

-- a step of an attempt that met a conflict
abbrev pub Leaves : ℕ → Log → Run → Type 0
Leaves k r (On Ready fs m w q) = m.tried ≡ k
Leaves k r (On Doomed fs m w q) = (m.tried ≡ k) × (q ≡ r)
Leaves k r (Stuck q) = Unit {0}
Leaves k r e = ⊥

-- a step behind a commit
abbrev pub Ends : ℕ → Log → Run → Type 0
Ends k r (On Closed fs m w q) = (m.tried ≡ k) × (q ≡ r)
Ends k r (Ended Spent m w q) = ⊥
Ends k r (Ended x m w q) = (m.tried ≡ k) × (q ≡ r)
Ends k r (Stuck q) = Unit {0}
Ends k r e = ⊥

logged : (o : Option ℕ) (a v : ℕ) (r : Log) → Grown r (recorded o a v r)
logged None a v r = more (access a v)
logged (Some x) a v r = same

unwound_goes : (a : Asked) (m : Meter) (w r : Log) → Goes m.tried r (unwound a m w r)
unwound_goes (Asks asking.Go fs) m w r = (refl, same)
unwound_goes a m w r = tt

unwound_leaves : (a : Asked) (m : Meter) (w r : Log) → Leaves m.tried r (unwound a m w r)
unwound_leaves (Asks asking.Go fs) m w r = (refl, refl)
unwound_leaves a m w r = tt

module _ (Q : Program) (B : Bounds) where
  turns_go : (k : ℕ) (fs : Frames) (m : Meter) (w r s : Log) → Grown r s → Goes m.tried r (with_turns B k fs m w s)
  turns_go zero fs m w r s g = (refl, g)
  turns_go (suc k) fs m w r s g = (refl, g)

  depth_goes : (deep : Bool) (k : ℕ) (fs : Frames) (m : Meter) (w r : Log) → Goes m.tried r (with_depth B deep k fs m w r)
  depth_goes deep zero fs m w r = (refl, same)
  depth_goes true (suc k) fs m w r = (refl, same)
  depth_goes false (suc k) fs m w r = (refl, same)

  thrown_goes : (b : Asked) (m : Meter) (w r s : Log) → Grown r s → Goes m.tried r (on_thrown B b m w s)
  thrown_goes (Asks asking.Go fs) m w r s g = (refl, g)
  thrown_goes (Asks asking.Turn fs) m w r s g = turns_go m.turns fs m w r s g
  thrown_goes b m w r s g = tt

  throws_go : (c : Option Row) (o t : ℕ) (fs : Frames) (m : Meter) (w r s : Log) → Grown r s → Goes m.tried r (throws c Q B o t fs m w s)
  throws_go None o t fs m w r s g = tt
  throws_go (Some c) o t fs m w r s g = thrown_goes (unwinds Q o t fs) _ w r s g

  raise_goes : (v : Reply) (o : ℕ) (fs : Frames) (m : Meter) (w r : Log) → Goes m.tried r (on_raise v Q B o fs m w r)
  raise_goes (Gives x) o fs m w r = throws_go (row_at Q (type_in (answered w o x))) o _ fs m w r _ (logged (written w o) o x r)
  raise_goes Refuses o fs m w r = unwound_goes (unwinds Q 1 0 fs) m w r

  made_goes : (d : Made) (b : Object) (fs : Frames) (m : Meter) (w r : Log) → Goes m.tried r (on_made d Q B b fs m w r)
  made_goes Pushed b fs m w r = (refl, same)
  made_goes Raised b fs m w r = thrown_goes (unwinds Q (next_reference B.region m.used) b.type fs) _ w r r same

  makes_go : (room : Bool) (v : Reply) (d : Made) (b : Object) (fs : Frames) (m : Meter) (w r : Log) → Goes m.tried r (makes room v d Q B b fs m w r)
  makes_go false v d b fs m w r = (refl, same)
  makes_go true (Gives x) d b fs m w r = made_goes d b fs m _ r
  makes_go true Refuses d b fs m w r = unwound_goes (unwinds Q 1 0 fs) m w r

  making_goes : (row : Option Row) (t len : ℕ) (d : Made) (v : Reply) (fs : Frames) (m : Meter) (w r : Log) → Goes m.tried r (made row t len d v Q B fs m w r)
  making_goes None t len d v fs m w r = tt
  making_goes (Some row) t len d v fs m w r = makes_go (has_words B.region m.used (words_of (object_of t len row))) v d (object_of t len row) fs m w r

  follows_go : (b : Asked) (m : Meter) (w r s : Log) → Grown r s → Goes m.tried r (followed b m w s)
  follows_go Fails m w r s g = tt
  follows_go (Asks asking.Go fs) m w r s g = (refl, g)
  follows_go (Asks a fs) m w r s g = (refl, g)

  head_goes : (v : Reply) (u : Use) (o : ℕ) (fs : Frames) (m : Meter) (w r : Log) → Goes m.tried r (on_head v Q u o fs m w r)
  head_goes (Gives x) u o fs m w r = follows_go (told Q u o _ _ fs) m w r _ (logged (written w o) o x r)
  head_goes Refuses u o fs m w r = unwound_goes (unwinds Q 1 0 fs) m w r

  heads_go : (v : Reply) (u : Use) (o : ℕ) (fs : Frames) (m : Meter) (w r : Log) → Goes m.tried r (heads v Q u o fs m w r)
  heads_go v (Indexes x element.Load) o fs m w r = (refl, same)
  heads_go v u o fs m w r = head_goes v u o fs m w r

  request_goes : (x : Request) (v : Reply) (fs : Frames) (m : Meter) (w r : Log) → Goes m.tried r (on_request Q B x Open v fs m w r)
  request_goes (request.Get p) v fs m w r = (refl, same)
  request_goes (request.Look p) (Gives x) fs m w r = (refl, same)
  request_goes (request.Look p) Refuses fs m w r = unwound_goes (unwinds Q 1 0 fs) m w r
  request_goes (request.Read p t) (Gives x) fs m w r = (refl, logged (written w _) _ x r)
  request_goes (request.Read p t) Refuses fs m w r = unwound_goes (unwinds Q 1 0 fs) m w r
  request_goes (request.Write p y) (Gives x) fs m w r = (refl, same)
  request_goes (request.Write p y) Refuses fs m w r = unwound_goes (unwinds Q 1 0 fs) m w r
  request_goes request.Commit (Gives x) fs m w r = (refl, same)
  request_goes request.Commit Refuses fs m w r = refl
  request_goes (request.Begin k) v fs m w r = tt
  request_goes (request.Put p y) v fs m w r = tt
  request_goes request.Rollback v fs m w r = tt

  pub asked_goes : (a : Asked) (v : Reply) (m : Meter) (w r : Log) → Goes m.tried r (on_asked Q B a Open v m w r)
  asked_goes Fails v m w r = tt
  asked_goes (Asks asking.Go fs) v m w r = (refl, same)
  asked_goes (Asks asking.Turn fs) v m w r = turns_go m.turns fs m w r r same
  asked_goes (Asks (asking.Enter deep) fs) v m w r = depth_goes deep m.turns fs m w r
  asked_goes (Asks (asking.Return x) fs) v m w r = tt
  asked_goes (Asks (asking.Throw o) fs) v m w r = tt
  asked_goes (Asks (asking.Raise o) fs) v m w r = raise_goes v o fs m w r
  asked_goes (Asks (asking.Make t n d) fs) v m w r = making_goes (row_at Q t) t n d v fs m w r
  asked_goes (Asks (asking.Head o u) fs) v m w r = heads_go v u o fs m w r
  asked_goes (Asks (asking.Ask x) fs) v m w r = request_goes x v fs m w r

  begun_begins : (b : Bool) (fs : Frames) (m : Meter) → Begins m.tried (begun b B fs m)
  begun_begins true fs m = refl
  begun_begins false fs m = refl

  ready_request : (x : Request) (v : Reply) (fs : Frames) (m : Meter) (w r : Log) → Begins m.tried (on_request Q B x Ready v fs m w r)
  ready_request (request.Begin k) v fs m w r = begun_begins (nat_lt m.tried (min (count_of k) B.attempts)) fs m
  ready_request x v fs m w r = tt

  pub asked_begins : (a : Asked) (v : Reply) (m : Meter) (w r : Log) → Begins m.tried (on_asked Q B a Ready v m w r)
  asked_begins (Asks asking.Go fs) v m w r = refl
  asked_begins (Asks (asking.Ask x) fs) v m w r = ready_request x v fs m w r
  asked_begins a v m w r = tt

  doomed_request : (x : Request) (v : Reply) (fs : Frames) (m : Meter) (w r : Log) → Leaves m.tried r (on_request Q B x Doomed v fs m w r)
  doomed_request request.Rollback v fs m w r = refl
  doomed_request x v fs m w r = tt

  pub asked_leaves : (a : Asked) (v : Reply) (m : Meter) (w r : Log) → Leaves m.tried r (on_asked Q B a Doomed v m w r)
  asked_leaves (Asks asking.Go fs) v m w r = (refl, refl)
  asked_leaves (Asks (asking.Raise o) fs) v m w r = unwound_leaves (unwinds Q o 0 fs) m w r
  asked_leaves (Asks (asking.Ask x) fs) v m w r = doomed_request x v fs m w r
  asked_leaves a v m w r = tt

  closed_request : (x : Request) (v : Reply) (fs : Frames) (m : Meter) (w r : Log) → Ends m.tried r (on_request Q B x Closed v fs m w r)
  closed_request request.Commit v fs m w r = tt
  closed_request x v fs m w r = tt

  named_ends : (c : Option (List ℕ)) (m : Meter) (w r : Log) → Ends m.tried r (threw_of c m w r)
  named_ends None m w r = tt
  named_ends (Some c) m w r = (refl, refl)

  pub asked_ends : (a : Asked) (v : Reply) (m : Meter) (w r : Log) → Ends m.tried r (on_asked Q B a Closed v m w r)
  asked_ends (Asks asking.Go fs) v m w r = (refl, refl)
  asked_ends (Asks (asking.Return x) fs) v m w r = (refl, refl)
  asked_ends (Asks (asking.Throw o) fs) v m w r = named_ends (class_of Q m.thrown o) m w r
  asked_ends (Asks (asking.Ask x) fs) v m w r = closed_request x v fs m w r
  asked_ends a v m w r = tt

-- ---- what is known at the end of a run

-- from here on attempts of this number or later ones are open
abbrev pub From : ℕ → Run → Type 0
From t (On Open fs m w r) = t ≤ m.tried
From t (On Closed fs m w r) = Unit {0}
From t (On p fs m w r) = t ≤ m.tried + 1
From t (Asking a fs m w r) = t ≤ m.tried
From t c = Unit {0}

-- up to here attempts of earlier numbers are open, and one of this number has read what is known
abbrev pub To : (Log → Type 0) → ℕ → Run → Type 0
To K t (On Ready fs m w r) = m.tried < t
To K t (On p fs m w r) = (m.tried < t) ⊎ ((m.tried ≡ t) × K r)
To K t (Asking a fs m w r) = (m.tried < t) ⊎ ((m.tried ≡ t) × K r)
To K t (Ended Spent m w r) = m.tried < t
To K t (Ended x m w r) = (m.tried < t) ⊎ ((m.tried ≡ t) × K r)
To K t (Stuck r) = ⊥

-- what is known of reads is known of those before them
abbrev pub KnowsFewer : (Log → Type 0) → Type 0
KnowsFewer K = (l : Access) (r : Log) → K (l ∷ r) → K r

less : (k n t : ℕ) → n ≡ k → n < t → k < t
less k n t e l = omega arith

before_open : (K : Log → Type 0) → KnowsFewer K → (k t : ℕ) (r q : Log) (n : ℕ) → (n ≡ k) × Grown r q → (n < t) ⊎ ((n ≡ t) × K q) → (k < t) ⊎ ((k ≡ t) × K r)
before_open K f k t r q n (e, g) (inl l) = inl (less k n t e l)
before_open K f k t r q n (e, same) (inr (i, h)) = inr (sym e ∙ i, h)
before_open K f k t r q n (e, more l) (inr (i, h)) = inr (sym e ∙ i, f l r h)

before_closed : (K : Log → Type 0) (k t : ℕ) (r q : Log) (n : ℕ) → (n ≡ k) × (q ≡ r) → (n < t) ⊎ ((n ≡ t) × K q) → (k < t) ⊎ ((k ≡ t) × K r)
before_closed K k t r q n (e, g) (inl l) = inl (less k n t e l)
before_closed K k t r q n (e, g) (inr (i, h)) = inr (sym e ∙ i, subst K g h)

module _ (Q : Program) (B : Bounds) (K : Log → Type 0) (fewer : KnowsFewer K) (t : ℕ) where
  open_to : (k : ℕ) (r : Log) (e : Run) → Goes k r e → To K t e → (k < t) ⊎ ((k ≡ t) × K r)
  open_to k r (On Ready fs m w q) g l = inl (less k m.tried t g l)
  open_to k r (On Open fs m w q) g l = before_open K fewer k t r q m.tried g l
  open_to k r (On Doomed fs m w q) g l = before_open K fewer k t r q m.tried g l
  open_to k r (On Closed fs m w q) g l = before_open K fewer k t r q m.tried g l
  open_to k r (Asking a fs m w q) g l = before_open K fewer k t r q m.tried g l
  open_to k r (Ended Spent m w q) g l = absurd g
  open_to k r (Ended x m w q) g l = before_open K fewer k t r q m.tried g l
  open_to k r (Stuck q) g l = absurd l

  ready_to : (k : ℕ) (e : Run) → Begins k e → To K t e → k < t
  ready_to k (On Ready fs m w q) g l = less k m.tried t g l
  ready_to k (On Open fs m w q) g (inl l) = omega (arith, g, l)
  ready_to k (On Open fs m w q) g (inr l) = let e = l.0 in omega (arith, g, e)
  ready_to k (On Doomed fs m w q) g l = absurd g
  ready_to k (On Closed fs m w q) g l = absurd g
  ready_to k (Asking a fs m w q) g l = absurd g
  ready_to k (Ended Spent m w q) g l = less k m.tried t g l
  ready_to k (Ended x m w q) g l = absurd g
  ready_to k (Stuck q) g l = absurd l

  doomed_to : (k : ℕ) (r : Log) (e : Run) → Leaves k r e → To K t e → (k < t) ⊎ ((k ≡ t) × K r)
  doomed_to k r (On Ready fs m w q) g l = inl (less k m.tried t g l)
  doomed_to k r (On Doomed fs m w q) g l = before_closed K k t r q m.tried g l
  doomed_to k r (On Open fs m w q) g l = absurd g
  doomed_to k r (On Closed fs m w q) g l = absurd g
  doomed_to k r (Asking a fs m w q) g l = absurd g
  doomed_to k r (Ended x m w q) g l = absurd g
  doomed_to k r (Stuck q) g l = absurd l

  closed_to : (k : ℕ) (r : Log) (e : Run) → Ends k r e → To K t e → (k < t) ⊎ ((k ≡ t) × K r)
  closed_to k r (On Closed fs m w q) g l = before_closed K k t r q m.tried g l
  closed_to k r (On Ready fs m w q) g l = absurd g
  closed_to k r (On Open fs m w q) g l = absurd g
  closed_to k r (On Doomed fs m w q) g l = absurd g
  closed_to k r (Asking a fs m w q) g l = absurd g
  closed_to k r (Ended Spent m w q) g l = absurd g
  closed_to k r (Ended x m w q) g l = before_closed K k t r q m.tried g l
  closed_to k r (Stuck q) g l = absurd l

  step_to : (v : Reply) (c : Run) → To K t (next_run Q B v c) → To K t c
  step_to v (On Open fs m w r) l = open_to m.tried r _ (asked_goes Q B (step Q fs) v m w r) l
  step_to v (On Ready fs m w r) l = ready_to m.tried _ (asked_begins Q B (step Q fs) v m w r) l
  step_to v (On Doomed fs m w r) l = doomed_to m.tried r _ (asked_leaves Q B (step Q fs) v m w r) l
  step_to v (On Closed fs m w r) l = closed_to m.tried r _ (asked_ends Q B (step Q fs) v m w r) l
  step_to v (Asking a fs m w r) l = open_to m.tried r _ (asked_goes Q B (Asks a fs) v m w r) l
  step_to v (Ended x m w r) l = l
  step_to v (Stuck r) l = l

  pub all_to : (vs : List Reply) (c : Run) → To K t (run Q B vs c) → To K t c
  all_to [] c l = l
  all_to (v ∷ vs) c l = step_to v c (all_to vs (next_run Q B v c) l)

  open_from : (k : ℕ) (r : Log) (e : Run) → Goes k r e → t ≤ k → From t e
  open_from k r (On Ready fs m w q) g l = omega (arith, g, l)
  open_from k r (On Open fs m w q) g l = let e = g.0 in omega (arith, e, l)
  open_from k r (On Doomed fs m w q) g l = let e = g.0 in omega (arith, e, l)
  open_from k r (On Closed fs m w q) g l = tt
  open_from k r (Asking a fs m w q) g l = let e = g.0 in omega (arith, e, l)
  open_from k r (Ended x m w q) g l = tt
  open_from k r (Stuck q) g l = tt

  ready_from : (k : ℕ) (e : Run) → Begins k e → t ≤ k + 1 → From t e
  ready_from k (On Ready fs m w q) g l = omega (arith, g, l)
  ready_from k (On Open fs m w q) g l = omega (arith, g, l)
  ready_from k (On Doomed fs m w q) g l = absurd g
  ready_from k (On Closed fs m w q) g l = tt
  ready_from k (Asking a fs m w q) g l = absurd g
  ready_from k (Ended x m w q) g l = tt
  ready_from k (Stuck q) g l = tt

  doomed_from : (k : ℕ) (r : Log) (e : Run) → Leaves k r e → t ≤ k + 1 → From t e
  doomed_from k r (On Ready fs m w q) g l = omega (arith, g, l)
  doomed_from k r (On Doomed fs m w q) g l = let e = g.0 in omega (arith, e, l)
  doomed_from k r (On Open fs m w q) g l = absurd g
  doomed_from k r (On Closed fs m w q) g l = tt
  doomed_from k r (Asking a fs m w q) g l = absurd g
  doomed_from k r (Ended x m w q) g l = tt
  doomed_from k r (Stuck q) g l = tt

  closed_from : (k : ℕ) (r : Log) (e : Run) → Ends k r e → From t e
  closed_from k r (On Closed fs m w q) g = tt
  closed_from k r (On Ready fs m w q) g = absurd g
  closed_from k r (On Open fs m w q) g = absurd g
  closed_from k r (On Doomed fs m w q) g = absurd g
  closed_from k r (Asking a fs m w q) g = absurd g
  closed_from k r (Ended x m w q) g = tt
  closed_from k r (Stuck q) g = tt

  step_from : (v : Reply) (c : Run) → From t c → From t (next_run Q B v c)
  step_from v (On Open fs m w r) l = open_from m.tried r _ (asked_goes Q B (step Q fs) v m w r) l
  step_from v (On Ready fs m w r) l = ready_from m.tried _ (asked_begins Q B (step Q fs) v m w r) l
  step_from v (On Doomed fs m w r) l = doomed_from m.tried r _ (asked_leaves Q B (step Q fs) v m w r) l
  step_from v (On Closed fs m w r) l = closed_from m.tried r _ (asked_ends Q B (step Q fs) v m w r)
  step_from v (Asking a fs m w r) l = open_from m.tried r _ (asked_goes Q B (Asks a fs) v m w r) l
  step_from v (Ended x m w r) l = tt
  step_from v (Stuck r) l = tt

  pub all_from : (vs : List Reply) (c : Run) → From t c → From t (run Q B vs c)
  all_from [] c l = l
  all_from (v ∷ vs) c l = all_from vs (next_run Q B v c) (step_from v c l)

  number : (n : ℕ) (q : Log) → t ≤ n → (n < t) ⊎ ((n ≡ t) × K q) → K q
  number n q f (inl l) = let no : ⊥ = omega (arith, f, l) in absurd no
  number n q f (inr (e, k)) = k

  -- an open attempt between the two has read what is known
  pub known_at : (c : Run) → From t c → To K t c → (r : Log) → IsOpen r c → K r
  known_at (On Open fs m w q) f l r h = subst K (sym h) (number m.tried q f l)
  known_at (Asking a fs m w q) f l r h = subst K (sym h) (number m.tried q f l)
  known_at (On Ready fs m w q) f l r h = absurd h
  known_at (On Doomed fs m w q) f l r h = absurd h
  known_at (On Closed fs m w q) f l r h = absurd h
  known_at (Ended x m w q) f l r h = absurd h
  known_at (Stuck q) f l r h = absurd h

  pub knows_between : (vs : List Reply) (c : Run) → From t c → To K t (run Q B vs c) → Knows Q B K vs c
  knows_between [] c f l = known_at c f l
  knows_between (v ∷ vs) c f l = (known_at c f (all_to (v ∷ vs) c l), knows_between vs (next_run Q B v c) (step_from v c f) l)

-- ---- along a run

pub knows_append : (Q : Program) (B : Bounds) (K : Log → Type 0) (us vs : List Reply) (c : Run) → Knows Q B K us c → Knows Q B K vs (run Q B us c) → Knows Q B K (us ++ vs) c
knows_append Q B K [] vs c k h = h
knows_append Q B K (u ∷ us) vs c k h = (k.0, knows_append Q B K us vs (next_run Q B u c) k.1 h)

knows_here : (Q : Program) (B : Bounds) (K : Log → Type 0) (vs : List Reply) (c : Run) → Knows Q B K vs c → (r : Log) → IsOpen r c → K r
knows_here Q B K [] c k = k
knows_here Q B K (v ∷ vs) c k = k.0

-- behind the first replies of a run
pub knows_behind : (Q : Program) (B : Bounds) (K : Log → Type 0) (us vs : List Reply) (c : Run) → Knows Q B K (us ++ vs) c → (r : Log) → IsOpen r (run Q B us c) → K r
knows_behind Q B K [] vs c k = knows_here Q B K vs c k
knows_behind Q B K (u ∷ us) vs c k = knows_behind Q B K us vs (next_run Q B u c) k.1
