-- The traps and the used words of an attempt, step by step.
use Rattle.std.proofs.Common.{◌≡◌, ◌≢◌, ℕ, zero, suc, ◌+◌, List, [], ◌∷◌, Option, Some, None, Bool, true, false, refl, sym, ap, subst, ◌⊎◌, inl, inr}
use Rattle.std.specs.Prelude.{nat_lt, min}
use Rattle.jmodel.specs.declared.value.Answer.{Answer}
use Rattle.jmodel.specs.declared.access.Access.{Access}
use Rattle.objects.specs.declared.op.Made.{Made}
use Rattle.objects.specs.declared.op.Made.TheVariants.{Pushed, Raised}
use Rattle.objects.specs.declared.op.Use.{Use}
use Rattle.objects.specs.declared.op.Use.TheVariants.{Indexes}
use Rattle.objects.specs.declared.op.Element.TheVariants as element
use Rattle.objects.specs.declared.op.Request.{Request}
use Rattle.objects.specs.declared.op.Request.TheVariants as request
use Rattle.objects.specs.declared.op.Phase.TheVariants.{Ready, Open, Doomed, Closed}
use Rattle.objects.specs.declared.op.Asking.TheVariants as asking
use Rattle.objects.specs.semantics.Program.{Row, Program, row_at}
use Rattle.objects.specs.semantics.Region.{next_reference, has_words}
use Rattle.objects.specs.semantics.State.{Object, header, type_in, words_of, object_of}
use Rattle.objects.specs.semantics.Step.{Frames, Asked, Asks, Fails, unwinds, told}
use Rattle.objects.specs.rewriting.Attempt.{Log, access, answered, written, recorded, Reply, Gives, Refuses, Bounds, Meter, Run, On, Ended, Stuck, on_asked, on_request, on_head, heads, followed, throws, on_raise, on_thrown, with_turns, with_depth, makes, made, on_made, threw_of, class_of, begun, count_of}
use Rattle.objects.specs.semantics.Traps.{trap_in, IsOpen}
use Rattle.objects.proofs.Makes.{used_in, Conflicted, doomed, stuck, conflicted, Making, goes, over, making}

-- an attempt that is open
abbrev pub IsGoing : Run → Type 0
IsGoing c = (r : Log) × IsOpen r c

pub going_on : (fs : Frames) (m : Meter) (w r : Log) → IsGoing (On Open fs m w r)
going_on fs m w r = (r, refl)

-- How a step of an open attempt goes on: it meets no trap and takes no word; or makes an object; or the attempt isn't open behind it, and where another
-- is to begin, the region has the used words of before the call.
pub data Goes (Q : Program) (B : Bounds) (a : Asked) (used : ℕ) : Run → Type 0 where
  quiet : (e : Run) → trap_in a ≡ [] → used_in e ≡ used → ((gs : Frames) (M : Meter) (w r : Log) → e ≢ On Ready gs M w r) → Goes Q B a used e
  makes_one : (e : Run) (t len : ℕ) (m : Made) (fs : Frames) (row : Row) → a ≡ Asks (asking.Make t len m) fs → row_at Q t ≡ Some row → has_words B.region used (words_of (object_of t len row)) ≡ true
      → (IsGoing e → used_in e ≡ used + words_of (object_of t len row)) → ((gs : Frames) (M : Meter) (w r : Log) → e ≢ On Ready gs M w r) → Goes Q B a used e
  leaves : (e : Run) → (IsGoing e → ⊥) → ((gs : Frames) (M : Meter) (w r : Log) → e ≡ On Ready gs M w r → M.used ≡ B.used) → Goes Q B a used e

module _ (Q : Program) (B : Bounds) where
  ended : (a : Asked) (used : ℕ) (x : Answer) (m : Meter) (w r : Log) → Goes Q B a used (Ended x m w r)
  ended a used x m w r = leaves _ (λ g. g.1) (λ gs M v s e. cc)

  is_stuck : (a : Asked) (used : ℕ) (r : Log) → Goes Q B a used (Stuck r)
  is_stuck a used r = leaves _ (λ g. g.1) (λ gs M v s e. cc)

  conflicts : (a : Asked) (used : ℕ) (w r : Log) (e : Run) → Conflicted w r e → Goes Q B a used e
  conflicts a used w r e (doomed fs M) = leaves _ (λ g. g.1) (λ gs N v s f. cc)
  conflicts a used w r e stuck = is_stuck a used r

  turns_go : (k : ℕ) (fs : Frames) (m : Meter) (w r : Log) → (a : Asked) → trap_in a ≡ [] → Goes Q B a m.used (with_turns B k fs m w r)
  turns_go zero fs m w r a none = ended a m.used _ _ [] r
  turns_go (suc k) fs m w r a none = quiet _ none refl (λ gs M v s e. cc)

  depth_goes : (deep : Bool) (k : ℕ) (fs : Frames) (m : Meter) (w r : Log) → (a : Asked) → trap_in a ≡ [] → Goes Q B a m.used (with_depth B deep k fs m w r)
  depth_goes deep zero fs m w r a none = ended a m.used _ _ [] r
  depth_goes true (suc k) fs m w r a none = ended a m.used _ _ [] r
  depth_goes false (suc k) fs m w r a none = quiet _ none refl (λ gs M v s e. cc)

  thrown_goes : (b : Asked) (m : Meter) (w r : Log) (a : Asked) → trap_in a ≡ [] → Goes Q B a m.used (on_thrown B b m w r)
  thrown_goes Fails m w r a none = is_stuck a m.used r
  thrown_goes (Asks asking.Go fs) m w r a none = quiet _ none refl (λ gs M v s e. cc)
  thrown_goes (Asks asking.Turn fs) m w r a none = turns_go m.turns fs m w r a none
  thrown_goes (Asks (asking.Enter deep) fs) m w r a none = is_stuck a m.used r
  thrown_goes (Asks (asking.Return x) fs) m w r a none = is_stuck a m.used r
  thrown_goes (Asks (asking.Throw o) fs) m w r a none = is_stuck a m.used r
  thrown_goes (Asks (asking.Raise o) fs) m w r a none = is_stuck a m.used r
  thrown_goes (Asks (asking.Make t n d) fs) m w r a none = is_stuck a m.used r
  thrown_goes (Asks (asking.Head o u) fs) m w r a none = is_stuck a m.used r
  thrown_goes (Asks (asking.Ask x) fs) m w r a none = is_stuck a m.used r

  throws_go : (c : Option Row) (o t : ℕ) (fs : Frames) (m : Meter) (w r : Log) (a : Asked) → trap_in a ≡ [] → Goes Q B a m.used (throws c Q B o t fs m w r)
  throws_go None o t fs m w r a none = is_stuck a m.used r
  throws_go (Some c) o t fs m w r a none = thrown_goes (unwinds Q o t fs) _ w r a none

  raise_goes : (v : Reply) (o : ℕ) (fs : Frames) (m : Meter) (w r : Log) (a : Asked) → trap_in a ≡ [] → Goes Q B a m.used (on_raise v Q B o fs m w r)
  raise_goes (Gives x) o fs m w r a none = throws_go (row_at Q (type_in (answered w o x))) o _ fs m w _ a none
  raise_goes Refuses o fs m w r a none = conflicts a m.used w r _ (conflicted (unwinds Q 1 0 fs) m w r)

  made_goes : (used : ℕ) (w : Log) (e : Run) → Making used w e → (IsGoing e → used_in e ≡ used) × ((gs : Frames) (M : Meter) (v r : Log) → e ≢ On Ready gs M v r)
  made_goes used w e (goes fs M r same) = ((λ g. same), λ gs N v s f. cc)
  made_goes used w e (over x M v r) = ((λ g. absurd g.1), λ gs N v s f. cc)
  made_goes used w e (stuck r) = ((λ g. absurd g.1), λ gs N v s f. cc)

  makes_go : (t len : ℕ) (d : Made) (fs : Frames) (row : Row) → row_at Q t ≡ Some row → (room : Bool) (m : Meter) → has_words B.region m.used (words_of (object_of t len row)) ≡ room → (v : Reply) (w r : Log)
      → Goes Q B (Asks (asking.Make t len d) fs) m.used (makes room v d Q B (object_of t len row) fs m w r)
  makes_go t len d fs row is false m has v w r = ended _ m.used _ _ [] r
  makes_go t len d fs row is true m has Refuses w r = conflicts _ m.used w r _ (conflicted (unwinds Q 1 0 fs) m w r)
  makes_go t len d fs row is true m has (Gives x) w r =
      let g = made_goes _ _ _ (making d Q B (object_of t len row) fs m (access (next_reference B.region m.used) (header (object_of t len row)) ∷ w) r) in
      makes_one _ t len d fs row refl is has g.0 g.1

  making_goes : (row : Option Row) (t len : ℕ) (d : Made) (fs : Frames) → row_at Q t ≡ row → (m : Meter) (v : Reply) (w r : Log) → Goes Q B (Asks (asking.Make t len d) fs) m.used (made row t len d v Q B fs m w r)
  making_goes None t len d fs is m v w r = is_stuck _ m.used r
  making_goes (Some row) t len d fs is m v w r = makes_go t len d fs row is (has_words B.region m.used (words_of (object_of t len row))) m refl v w r

  follows_go : (b : Asked) (m : Meter) (w r : Log) (a : Asked) → trap_in a ≡ [] → Goes Q B a m.used (followed b m w r)
  follows_go Fails m w r a none = is_stuck a m.used r
  follows_go (Asks asking.Go fs) m w r a none = quiet _ none refl (λ gs M v s e. cc)
  follows_go (Asks asking.Turn fs) m w r a none = quiet _ none refl (λ gs M v s e. cc)
  follows_go (Asks (asking.Enter deep) fs) m w r a none = quiet _ none refl (λ gs M v s e. cc)
  follows_go (Asks (asking.Return x) fs) m w r a none = quiet _ none refl (λ gs M v s e. cc)
  follows_go (Asks (asking.Throw o) fs) m w r a none = quiet _ none refl (λ gs M v s e. cc)
  follows_go (Asks (asking.Raise o) fs) m w r a none = quiet _ none refl (λ gs M v s e. cc)
  follows_go (Asks (asking.Make t n d) fs) m w r a none = quiet _ none refl (λ gs M v s e. cc)
  follows_go (Asks (asking.Head o u) fs) m w r a none = quiet _ none refl (λ gs M v s e. cc)
  follows_go (Asks (asking.Ask x) fs) m w r a none = quiet _ none refl (λ gs M v s e. cc)

  head_goes : (v : Reply) (u : Use) (o : ℕ) (fs : Frames) (m : Meter) (w r : Log) (a : Asked) → trap_in a ≡ [] → Goes Q B a m.used (on_head v Q u o fs m w r)
  head_goes (Gives x) u o fs m w r a none = follows_go (told Q u o _ _ fs) m w _ a none
  head_goes Refuses u o fs m w r a none = conflicts a m.used w r _ (conflicted (unwinds Q 1 0 fs) m w r)

  heads_go : (v : Reply) (u : Use) (o : ℕ) (fs : Frames) (m : Meter) (w r : Log) (a : Asked) → trap_in a ≡ [] → Goes Q B a m.used (heads v Q u o fs m w r)
  heads_go v (Indexes x element.Load) o fs m w r a none = quiet _ none refl (λ gs M v s e. cc)
  heads_go v u o fs m w r a none = head_goes v u o fs m w r a none

  request_goes : (x : Request) (v : Reply) (fs : Frames) (m : Meter) (w r : Log) (a : Asked) → trap_in a ≡ [] → Goes Q B a m.used (on_request Q B x Open v fs m w r)
  request_goes (request.Begin k) v fs m w r a none = is_stuck a m.used r
  request_goes (request.Get p) v fs m w r a none = quiet _ none refl (λ gs M v s e. cc)
  request_goes (request.Put p y) v fs m w r a none = is_stuck a m.used r
  request_goes (request.Look p) (Gives x) fs m w r a none = quiet _ none refl (λ gs M v s e. cc)
  request_goes (request.Look p) Refuses fs m w r a none = conflicts a m.used w r _ (conflicted (unwinds Q 1 0 fs) m w r)
  request_goes (request.Read p t) (Gives x) fs m w r a none = quiet _ none refl (λ gs M v s e. cc)
  request_goes (request.Read p t) Refuses fs m w r a none = conflicts a m.used w r _ (conflicted (unwinds Q 1 0 fs) m w r)
  request_goes (request.Write p y) (Gives x) fs m w r a none = quiet _ none refl (λ gs M v s e. cc)
  request_goes (request.Write p y) Refuses fs m w r a none = conflicts a m.used w r _ (conflicted (unwinds Q 1 0 fs) m w r)
  request_goes request.Commit (Gives x) fs m w r a none = leaves _ (λ g. g.1) (λ gs M v s e. cc)
  request_goes request.Commit Refuses fs m w r a none = leaves _ (λ g. g.1) (λ gs M v s e. sym (ap used_in e))
  request_goes request.Rollback v fs m w r a none = is_stuck a m.used r

  pub asked_goes : (a : Asked) (v : Reply) (m : Meter) (w r : Log) → Goes Q B a m.used (on_asked Q B a Open v m w r)
  asked_goes Fails v m w r = is_stuck _ m.used r
  asked_goes (Asks asking.Go fs) v m w r = quiet _ refl refl (λ gs M v s e. cc)
  asked_goes (Asks asking.Turn fs) v m w r = turns_go m.turns fs m w r _ refl
  asked_goes (Asks (asking.Enter deep) fs) v m w r = depth_goes deep m.turns fs m w r _ refl
  asked_goes (Asks (asking.Return x) fs) v m w r = is_stuck _ m.used r
  asked_goes (Asks (asking.Throw o) fs) v m w r = is_stuck _ m.used r
  asked_goes (Asks (asking.Raise o) fs) v m w r = raise_goes v o fs m w r _ refl
  asked_goes (Asks (asking.Make t n d) fs) v m w r = making_goes (row_at Q t) t n d fs refl m v w r
  asked_goes (Asks (asking.Head o u) fs) v m w r = heads_go v u o fs m w r _ refl
  asked_goes (Asks (asking.Ask x) fs) v m w r = request_goes x v fs m w r _ refl

-- ---- what was read

-- the same reads, or one more
pub data Grown (r : Log) : Log → Type 0 where
  same : Grown r r
  more : (l : Access) → Grown r (l ∷ r)

abbrev pub Keeps : Log → Run → Type 0
Keeps r e = (s : Log) → IsOpen s e → Grown r s

module _ (Q : Program) (B : Bounds) where
  grown_as : (r s q : Log) → Grown r s → q ≡ s → Grown r q
  grown_as r s q g e = subst (Grown r) (sym e) g

  conflict_keeps : (r w s : Log) (e : Run) → Conflicted w s e → Keeps r e
  conflict_keeps r w s e (doomed fs M) q f = absurd f
  conflict_keeps r w s e stuck q f = absurd f

  turns_keep : (r s : Log) (k : ℕ) (fs : Frames) (m : Meter) (w : Log) → Grown r s → Keeps r (with_turns B k fs m w s)
  turns_keep r s zero fs m w g q e = absurd e
  turns_keep r s (suc k) fs m w g q e = grown_as r s q g e

  depth_keeps : (r : Log) (deep : Bool) (k : ℕ) (fs : Frames) (m : Meter) (w : Log) → Keeps r (with_depth B deep k fs m w r)
  depth_keeps r deep zero fs m w q e = absurd e
  depth_keeps r true (suc k) fs m w q e = absurd e
  depth_keeps r false (suc k) fs m w q e = grown_as r r q same e

  thrown_keeps : (r s : Log) (b : Asked) (m : Meter) (w : Log) → Grown r s → Keeps r (on_thrown B b m w s)
  thrown_keeps r s Fails m w g q e = absurd e
  thrown_keeps r s (Asks asking.Go fs) m w g q e = grown_as r s q g e
  thrown_keeps r s (Asks asking.Turn fs) m w g q e = turns_keep r s m.turns fs m w g q e
  thrown_keeps r s (Asks (asking.Enter deep) fs) m w g q e = absurd e
  thrown_keeps r s (Asks (asking.Return x) fs) m w g q e = absurd e
  thrown_keeps r s (Asks (asking.Throw o) fs) m w g q e = absurd e
  thrown_keeps r s (Asks (asking.Raise o) fs) m w g q e = absurd e
  thrown_keeps r s (Asks (asking.Make t n d) fs) m w g q e = absurd e
  thrown_keeps r s (Asks (asking.Head o u) fs) m w g q e = absurd e
  thrown_keeps r s (Asks (asking.Ask x) fs) m w g q e = absurd e

  throws_keep : (r s : Log) (c : Option Row) (o t : ℕ) (fs : Frames) (m : Meter) (w : Log) → Grown r s → Keeps r (throws c Q B o t fs m w s)
  throws_keep r s None o t fs m w g q e = absurd e
  throws_keep r s (Some c) o t fs m w g q e = thrown_keeps r s (unwinds Q o t fs) _ w g q e

  logged : (o : Option ℕ) (a v : ℕ) (r : Log) → Grown r (recorded o a v r)
  logged None a v r = more (access a v)
  logged (Some x) a v r = same

  raise_keeps : (r : Log) (v : Reply) (o : ℕ) (fs : Frames) (m : Meter) (w : Log) → Keeps r (on_raise v Q B o fs m w r)
  raise_keeps r (Gives x) o fs m w q e = throws_keep r _ (row_at Q (type_in (answered w o x))) o _ fs m w (logged (written w o) o x r) q e
  raise_keeps r Refuses o fs m w q e = conflict_keeps r w r _ (conflicted (unwinds Q 1 0 fs) m w r) q e

  made_keeps : (r : Log) (d : Made) (b : Object) (fs : Frames) (m : Meter) (w : Log) → Keeps r (on_made d Q B b fs m w r)
  made_keeps r Pushed b fs m w q e = grown_as r r q same e
  made_keeps r Raised b fs m w q e = thrown_keeps r r (unwinds Q (next_reference B.region m.used) b.type fs) _ w same q e

  makes_keep : (r : Log) (room : Bool) (v : Reply) (d : Made) (b : Object) (fs : Frames) (m : Meter) (w : Log) → Keeps r (makes room v d Q B b fs m w r)
  makes_keep r false v d b fs m w q e = absurd e
  makes_keep r true (Gives x) d b fs m w q e = made_keeps r d b fs m _ q e
  makes_keep r true Refuses d b fs m w q e = conflict_keeps r w r _ (conflicted (unwinds Q 1 0 fs) m w r) q e

  making_keeps : (r : Log) (row : Option Row) (t len : ℕ) (d : Made) (v : Reply) (fs : Frames) (m : Meter) (w : Log) → Keeps r (made row t len d v Q B fs m w r)
  making_keeps r None t len d v fs m w q e = absurd e
  making_keeps r (Some row) t len d v fs m w q e = makes_keep r _ v d (object_of t len row) fs m w q e

  follows_keep : (r s : Log) (b : Asked) (m : Meter) (w : Log) → Grown r s → Keeps r (followed b m w s)
  follows_keep r s Fails m w g q e = absurd e
  follows_keep r s (Asks asking.Go fs) m w g q e = grown_as r s q g e
  follows_keep r s (Asks asking.Turn fs) m w g q e = grown_as r s q g e
  follows_keep r s (Asks (asking.Enter deep) fs) m w g q e = grown_as r s q g e
  follows_keep r s (Asks (asking.Return x) fs) m w g q e = grown_as r s q g e
  follows_keep r s (Asks (asking.Throw o) fs) m w g q e = grown_as r s q g e
  follows_keep r s (Asks (asking.Raise o) fs) m w g q e = grown_as r s q g e
  follows_keep r s (Asks (asking.Make t n d) fs) m w g q e = grown_as r s q g e
  follows_keep r s (Asks (asking.Head o u) fs) m w g q e = grown_as r s q g e
  follows_keep r s (Asks (asking.Ask x) fs) m w g q e = grown_as r s q g e

  head_keeps : (r : Log) (v : Reply) (u : Use) (o : ℕ) (fs : Frames) (m : Meter) (w : Log) → Keeps r (on_head v Q u o fs m w r)
  head_keeps r (Gives x) u o fs m w q e = follows_keep r _ (told Q u o _ _ fs) m w (logged (written w o) o x r) q e
  head_keeps r Refuses u o fs m w q e = conflict_keeps r w r _ (conflicted (unwinds Q 1 0 fs) m w r) q e

  heads_keep : (r : Log) (v : Reply) (u : Use) (o : ℕ) (fs : Frames) (m : Meter) (w : Log) → Keeps r (heads v Q u o fs m w r)
  heads_keep r v (Indexes x element.Load) o fs m w q e = grown_as r r q same e
  heads_keep r v u o fs m w q e = head_keeps r v u o fs m w q e

  request_keeps : (r : Log) (x : Request) (v : Reply) (fs : Frames) (m : Meter) (w : Log) → Keeps r (on_request Q B x Open v fs m w r)
  request_keeps r (request.Begin k) v fs m w q e = absurd e
  request_keeps r (request.Get p) v fs m w q e = grown_as r r q same e
  request_keeps r (request.Put p y) v fs m w q e = absurd e
  request_keeps r (request.Look p) (Gives x) fs m w q e = grown_as r r q same e
  request_keeps r (request.Look p) Refuses fs m w q e = conflict_keeps r w r _ (conflicted (unwinds Q 1 0 fs) m w r) q e
  request_keeps r (request.Read p t) (Gives x) fs m w q e = grown_as r _ q (logged (written w _) _ x r) e
  request_keeps r (request.Read p t) Refuses fs m w q e = conflict_keeps r w r _ (conflicted (unwinds Q 1 0 fs) m w r) q e
  request_keeps r (request.Write p y) (Gives x) fs m w q e = grown_as r r q same e
  request_keeps r (request.Write p y) Refuses fs m w q e = conflict_keeps r w r _ (conflicted (unwinds Q 1 0 fs) m w r) q e
  request_keeps r request.Commit (Gives x) fs m w q e = absurd e
  request_keeps r request.Commit Refuses fs m w q e = absurd e
  request_keeps r request.Rollback v fs m w q e = absurd e

  pub asked_keeps : (r : Log) (a : Asked) (v : Reply) (m : Meter) (w : Log) → Keeps r (on_asked Q B a Open v m w r)
  asked_keeps r Fails v m w q e = absurd e
  asked_keeps r (Asks asking.Go fs) v m w q e = grown_as r r q same e
  asked_keeps r (Asks asking.Turn fs) v m w q e = turns_keep r r m.turns fs m w same q e
  asked_keeps r (Asks (asking.Enter deep) fs) v m w q e = depth_keeps r deep m.turns fs m w q e
  asked_keeps r (Asks (asking.Return x) fs) v m w q e = absurd e
  asked_keeps r (Asks (asking.Throw o) fs) v m w q e = absurd e
  asked_keeps r (Asks (asking.Raise o) fs) v m w q e = raise_keeps r v o fs m w q e
  asked_keeps r (Asks (asking.Make t n d) fs) v m w q e = making_keeps r (row_at Q t) t n d v fs m w q e
  asked_keeps r (Asks (asking.Head o u) fs) v m w q e = heads_keep r v u o fs m w q e
  asked_keeps r (Asks (asking.Ask x) fs) v m w q e = request_keeps r x v fs m w q e

-- ---- outside an open attempt

-- How a step goes on that no open attempt makes: to no open one, or to one that begins with the used words and no reads; and where another is to begin
-- behind it, the region has the used words that it had, or those of before the call.
pub data Waits (B : Bounds) (ready : Bool) (used : ℕ) : Run → Type 0 where
  begins : (fs : Frames) (m : Meter) → ready ≡ true → m.used ≡ used → Waits B ready used (On Open fs m [] [])
  again : (fs : Frames) (m : Meter) (w r : Log) → ((ready ≡ true) × (m.used ≡ used)) ⊎ (m.used ≡ B.used) → Waits B ready used (On Ready fs m w r)
  other : (e : Run) → (IsGoing e → ⊥) → ((gs : Frames) (M : Meter) (w r : Log) → e ≢ On Ready gs M w r) → Waits B ready used e

module _ (Q : Program) (B : Bounds) where
  stuck_waits : (b : Bool) (used : ℕ) (r : Log) → Waits B b used (Stuck r)
  stuck_waits b used r = other _ (λ g. g.1) (λ gs M w s e. cc)

  conflict_waits : (b : Bool) (used : ℕ) (w r : Log) (e : Run) → Conflicted w r e → Waits B b used e
  conflict_waits b used w r e (doomed fs M) = other _ (λ g. g.1) (λ gs N v s f. cc)
  conflict_waits b used w r e stuck = stuck_waits b used r

  begun_waits : (b : Bool) (fs : Frames) (m : Meter) → Waits B true m.used (begun b B fs m)
  begun_waits true fs m = begins _ _ refl refl
  begun_waits false fs m = other _ (λ g. g.1) (λ gs N v s f. cc)

  ready_request : (x : Request) (v : Reply) (fs : Frames) (m : Meter) (w r : Log) → Waits B true m.used (on_request Q B x Ready v fs m w r)
  ready_request (request.Begin k) v fs m w r = begun_waits (nat_lt m.tried (min (count_of k) B.attempts)) fs m
  ready_request (request.Get p) v fs m w r = stuck_waits true m.used r
  ready_request (request.Put p y) v fs m w r = stuck_waits true m.used r
  ready_request (request.Look p) v fs m w r = stuck_waits true m.used r
  ready_request (request.Read p t) v fs m w r = stuck_waits true m.used r
  ready_request (request.Write p y) v fs m w r = stuck_waits true m.used r
  ready_request request.Commit v fs m w r = stuck_waits true m.used r
  ready_request request.Rollback v fs m w r = stuck_waits true m.used r

  pub ready_waits : (a : Asked) (v : Reply) (m : Meter) (w r : Log) → Waits B true m.used (on_asked Q B a Ready v m w r)
  ready_waits Fails v m w r = stuck_waits true m.used r
  ready_waits (Asks asking.Go fs) v m w r = again _ m w r (inl (refl, refl))
  ready_waits (Asks asking.Turn fs) v m w r = stuck_waits true m.used r
  ready_waits (Asks (asking.Enter deep) fs) v m w r = stuck_waits true m.used r
  ready_waits (Asks (asking.Return x) fs) v m w r = stuck_waits true m.used r
  ready_waits (Asks (asking.Throw o) fs) v m w r = stuck_waits true m.used r
  ready_waits (Asks (asking.Raise o) fs) v m w r = stuck_waits true m.used r
  ready_waits (Asks (asking.Make t n d) fs) v m w r = stuck_waits true m.used r
  ready_waits (Asks (asking.Head o u) fs) v m w r = stuck_waits true m.used r
  ready_waits (Asks (asking.Ask x) fs) v m w r = ready_request x v fs m w r

  doomed_request : (x : Request) (v : Reply) (fs : Frames) (m : Meter) (w r : Log) → Waits B false m.used (on_request Q B x Doomed v fs m w r)
  doomed_request (request.Begin k) v fs m w r = stuck_waits false m.used r
  doomed_request (request.Get p) v fs m w r = stuck_waits false m.used r
  doomed_request (request.Put p y) v fs m w r = stuck_waits false m.used r
  doomed_request (request.Look p) v fs m w r = stuck_waits false m.used r
  doomed_request (request.Read p t) v fs m w r = stuck_waits false m.used r
  doomed_request (request.Write p y) v fs m w r = stuck_waits false m.used r
  doomed_request request.Commit v fs m w r = stuck_waits false m.used r
  doomed_request request.Rollback v fs m w r = again _ _ [] [] (inr refl)

  pub doomed_waits : (a : Asked) (v : Reply) (m : Meter) (w r : Log) → Waits B false m.used (on_asked Q B a Doomed v m w r)
  doomed_waits Fails v m w r = stuck_waits false m.used r
  doomed_waits (Asks asking.Go fs) v m w r = other _ (λ g. g.1) (λ gs N x s f. cc)
  doomed_waits (Asks asking.Turn fs) v m w r = stuck_waits false m.used r
  doomed_waits (Asks (asking.Enter deep) fs) v m w r = stuck_waits false m.used r
  doomed_waits (Asks (asking.Return x) fs) v m w r = stuck_waits false m.used r
  doomed_waits (Asks (asking.Throw o) fs) v m w r = stuck_waits false m.used r
  doomed_waits (Asks (asking.Raise o) fs) v m w r = conflict_waits false m.used w r _ (conflicted (unwinds Q o 0 fs) m w r)
  doomed_waits (Asks (asking.Make t n d) fs) v m w r = stuck_waits false m.used r
  doomed_waits (Asks (asking.Head o u) fs) v m w r = stuck_waits false m.used r
  doomed_waits (Asks (asking.Ask x) fs) v m w r = doomed_request x v fs m w r

  named_waits : (c : Option (List ℕ)) (m : Meter) (w r : Log) → Waits B false m.used (threw_of c m w r)
  named_waits None m w r = stuck_waits false m.used r
  named_waits (Some c) m w r = other _ (λ g. g.1) (λ gs N x s f. cc)

  closed_request : (x : Request) (v : Reply) (fs : Frames) (m : Meter) (w r : Log) → Waits B false m.used (on_request Q B x Closed v fs m w r)
  closed_request (request.Begin k) v fs m w r = stuck_waits false m.used r
  closed_request (request.Get p) v fs m w r = stuck_waits false m.used r
  closed_request (request.Put p y) v fs m w r = stuck_waits false m.used r
  closed_request (request.Look p) v fs m w r = stuck_waits false m.used r
  closed_request (request.Read p t) v fs m w r = stuck_waits false m.used r
  closed_request (request.Write p y) v fs m w r = stuck_waits false m.used r
  closed_request request.Commit v fs m w r = stuck_waits false m.used r
  closed_request request.Rollback v fs m w r = stuck_waits false m.used r

  pub closed_waits : (a : Asked) (v : Reply) (m : Meter) (w r : Log) → Waits B false m.used (on_asked Q B a Closed v m w r)
  closed_waits Fails v m w r = stuck_waits false m.used r
  closed_waits (Asks asking.Go fs) v m w r = other _ (λ g. g.1) (λ gs N x s f. cc)
  closed_waits (Asks asking.Turn fs) v m w r = stuck_waits false m.used r
  closed_waits (Asks (asking.Enter deep) fs) v m w r = stuck_waits false m.used r
  closed_waits (Asks (asking.Return x) fs) v m w r = other _ (λ g. g.1) (λ gs N y s f. cc)
  closed_waits (Asks (asking.Throw o) fs) v m w r = named_waits (class_of Q m.thrown o) m w r
  closed_waits (Asks (asking.Raise o) fs) v m w r = stuck_waits false m.used r
  closed_waits (Asks (asking.Make t n d) fs) v m w r = stuck_waits false m.used r
  closed_waits (Asks (asking.Head o u) fs) v m w r = stuck_waits false m.used r
  closed_waits (Asks (asking.Ask x) fs) v m w r = closed_request x v fs m w r
