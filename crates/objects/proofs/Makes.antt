-- Where an attempt makes an object, the original method makes the same one: what each step makes, and what shows that a step makes none.
use Rattle.std.proofs.Common.{◌≡◌, ◌≢◌, ℕ, zero, suc, ◌+◌, List, [], ◌∷◌, length, Some, Bool, true, false, refl, sym, ap, subst, ◌∙◌, arith}
use Rattle.jmodel.specs.declared.value.Value.{Value}
use Rattle.jmodel.specs.declared.access.Access.{Access}
use Rattle.objects.specs.declared.op.Made.{Made}
use Rattle.objects.specs.declared.op.Made.TheVariants.{Pushed, Raised}
use Rattle.jmodel.specs.declared.value.Answer.{Answer}
use Rattle.objects.specs.declared.op.Phase.{Phase}
use Rattle.objects.specs.declared.op.Phase.TheVariants.{Ready, Open, Doomed, Closed}
use Rattle.objects.specs.declared.op.Asking.{Asking as Wanted}
use Rattle.objects.specs.declared.op.Asking.TheVariants as asking
use Rattle.objects.specs.semantics.Program.{Row, Program, row_at, is_instance}
use Rattle.objects.specs.semantics.Region.{next_reference, has_words}
use Rattle.objects.specs.semantics.State.{Object, State, header, type_in, words_of, object_of}
use Rattle.objects.specs.declared.op.Use.{Use}
use Rattle.objects.specs.declared.op.Use.TheVariants.{Casts}
use Rattle.objects.specs.declared.op.Request.{Request}
use Rattle.objects.specs.declared.op.Trap.TheVariants.{ClassCast}
use Rattle.objects.specs.semantics.Step.{Frames, Asked, Asks, Fails, step, unwinds, or_trap, advanced}
use Rattle.objects.specs.semantics.Call.{Direct, direct, call_start}
use Rattle.objects.specs.semantics.Call as call
use Rattle.objects.specs.rewriting.Attempt.{Log, access, Reply, Gives, Refuses, Bounds, Meter, Run, On, Asking, Ended, Stuck, next_run, unwound, on_thrown, on_made, on_head, on_commit, followed, with_turns, answered, written, recorded}
use Rattle.objects.specs.laws.Law.{state_of}
use Rattle.objects.proofs.Replies.{Leads, SameLogs}

-- what an open attempt's next step asks
abbrev pub open_asks : Program → Run → Asked
open_asks Q (On Open fs M w r) = step Q fs
open_asks Q (Asking a fs M w r) = Asks a fs
open_asks Q c = Fails

-- what a run's next step asks
abbrev pub run_asks : Program → Direct → Asked
run_asks P (call.On fs k σ) = step P fs
run_asks P (call.Asking a fs k σ) = Asks a fs
run_asks P d = Fails

abbrev pub used_in : Run → ℕ
used_in (On p fs M w r) = M.used
used_in (Asking a fs M w r) = M.used
used_in (Ended x M w r) = M.used
used_in (Stuck r) = 0

abbrev pub read_in : Run → Log
read_in (On p fs M w r) = r
read_in (Asking a fs M w r) = r
read_in (Ended x M w r) = r
read_in (Stuck r) = r

-- The original's run comes to where it makes such an object, with so many used words.
pub record MakesAt (P : Program) (B : Bounds) (mn : ℕ) (args : List Value) (σ : State) (t len : ℕ) (made : Made) (used : ℕ) : Type 0 where
  pub steps : ℕ
  pub frames : Frames
  pub state : State
  pub asks : run_asks P (direct P B.region steps (call_start P mn args B.budget σ)) ≡ Asks (asking.Make t len made) frames
  pub has : state_of (direct P B.region steps (call_start P mn args B.budget σ)) ≡ Some state
  pub used_are : state.used B.region.number ≡ used

-- What an open attempt makes next, if there is room, the original makes.
abbrev pub IsSynced : Program → Program → Bounds → ℕ → List Value → State → Run → Type 0
IsSynced P Q B mn args σ d = (t len : ℕ) (made : Made) (fs : Frames) (row : Row) → open_asks Q d ≡ Asks (asking.Make t len made) fs → row_at Q t ≡ Some row → has_words B.region (used_in d) (words_of (object_of t len row)) ≡ true
    → MakesAt P B mn args σ t len made (used_in d)

-- which of its kinds a run is
abbrev pub kind : Run → ℕ
kind (On Ready fs M w r) = 0
kind (On Open fs M w r) = 1
kind (On Doomed fs M w r) = 2
kind (On Closed fs M w r) = 3
kind (Asking a fs M w r) = 4
kind (Ended x M w r) = 5
kind (Stuck r) = 6

-- how a conflict goes on
pub data Conflicted (w r : Log) : Run → Type 0 where
  doomed : (fs : Frames) (M : Meter) → Conflicted w r (On Doomed fs M w r)
  stuck : Conflicted w r (Stuck r)

pub conflicted : (a : Asked) (M : Meter) (w r : Log) → Conflicted w r (unwound a M w r)
conflicted Fails M w r = stuck
conflicted (Asks asking.Go fs) M w r = doomed fs M
conflicted (Asks asking.Turn fs) M w r = stuck
conflicted (Asks (asking.Enter deep) fs) M w r = stuck
conflicted (Asks (asking.Return x) fs) M w r = stuck
conflicted (Asks (asking.Throw o) fs) M w r = stuck
conflicted (Asks (asking.Raise o) fs) M w r = stuck
conflicted (Asks (asking.Make t n d) fs) M w r = stuck
conflicted (Asks (asking.Head o u) fs) M w r = stuck
conflicted (Asks (asking.Ask x) fs) M w r = stuck

-- how an attempt goes on that made an object: with so many used words and this log, or it ended
pub data Making (used : ℕ) (w : Log) : Run → Type 0 where
  goes : (fs : Frames) (M : Meter) (r : Log) → M.used ≡ used → Making used w (On Open fs M w r)
  over : (x : Answer) (M : Meter) (v r : Log) → Making used w (Ended x M v r)
  stuck : (r : Log) → Making used w (Stuck r)

turns_made : (B : Bounds) (k : ℕ) (fs : Frames) (M : Meter) (w r : Log) → Making M.used w (with_turns B k fs M w r)
turns_made B zero fs M w r = over _ _ [] r
turns_made B (suc k) fs M w r = goes fs _ r refl

thrown_made : (B : Bounds) (a : Asked) (M : Meter) (w r : Log) → Making M.used w (on_thrown B a M w r)
thrown_made B Fails M w r = stuck r
thrown_made B (Asks asking.Go fs) M w r = goes fs M r refl
thrown_made B (Asks asking.Turn fs) M w r = turns_made B M.turns fs M w r
thrown_made B (Asks (asking.Enter deep) fs) M w r = stuck r
thrown_made B (Asks (asking.Return x) fs) M w r = stuck r
thrown_made B (Asks (asking.Throw o) fs) M w r = stuck r
thrown_made B (Asks (asking.Raise o) fs) M w r = stuck r
thrown_made B (Asks (asking.Make t n d) fs) M w r = stuck r
thrown_made B (Asks (asking.Head o u) fs) M w r = stuck r
thrown_made B (Asks (asking.Ask x) fs) M w r = stuck r

pub making : (made : Made) (Q : Program) (B : Bounds) (b : Object) (fs : Frames) (M : Meter) (w r : Log) → Making (M.used + words_of b) w (on_made made Q B b fs M w r)
making Pushed Q B b fs M w r = goes _ _ r refl
making Raised Q B b fs M w r = thrown_made B (unwinds Q (next_reference B.region M.used) b.type fs) _ w r

abbrev pub write_in : Run → Log
write_in (On p fs M w r) = w
write_in (Asking a fs M w r) = w
write_in c = []

module _ (Q : Program) (B : Bounds) (t len : ℕ) (made : Made) (fs : Frames) (row : Row) (is : row_at Q t ≡ Some row) where
  abbrev pub object_made : Object
  object_made = object_of t len row

  abbrev pub header_write : ℕ → Access
  header_write used = access (next_reference B.region used) (header object_made)

  abbrev Next : Reply → Run → Run → Type 0
  Next v d e = next_run Q B v d ≡ e

  -- what each reply leads to, where there is room
  pub record MakesNext (d : Run) : Type 0 where
    pub frames : Frames
    pub meter : Meter
    pub used : meter.used ≡ used_in d
    pub gives : (x : ℕ) → next_run Q B (Gives x) d ≡ on_made made Q B object_made fs meter (header_write meter.used ∷ write_in d) (read_in d)
    pub refuses : next_run Q B Refuses d ≡ unwound (unwinds Q 1 0 fs) meter (write_in d) (read_in d)

  pub makes_next : (d : Run) → open_asks Q d ≡ Asks (asking.Make t len made) fs → has_words B.region (used_in d) (words_of object_made) ≡ true → MakesNext d
  makes_next (On Open gs M w r) e room = record { frames = gs; meter = M; used = refl; gives = λ x. rw (e, is, room) refl; refuses = rw (e, is, room) refl }
  makes_next (Asking a gs M w r) e room = let f : a ≡ asking.Make t len made = cc in let g : gs ≡ fs = cc in record { frames = gs; meter = M; used = refl; gives = λ x. rw (f, g, is, room) refl; refuses = rw (f, g, is, room) refl }
  makes_next (On Ready gs M w r) e room = cc
  makes_next (On Doomed gs M w r) e room = cc
  makes_next (On Closed gs M w r) e room = cc
  makes_next (Ended x M w r) e room = cc
  makes_next (Stuck r) e room = cc

-- a log isn't one that has an entry more
longer : (l : Access) (w : Log) → (l ∷ w) ≢ w
longer l w e = let n : suc (length w) ≡ length w = ap length e in omega (arith, n)

-- a conflict goes on as no object does
apart : (w r : Log) (used : ℕ) (v : Log) (c d e : Run) → Conflicted w r c → Making used v d → c ≡ e → d ≡ e → e ≡ Stuck r
apart w r used v c d e (doomed fs M) (goes gs N s u) f g = cc
apart w r used v c d e (doomed fs M) (over x N a s) f g = cc
apart w r used v c d e (doomed fs M) (stuck s) f g = cc
apart w r used v c d e stuck x f g = sym f

-- an attempt that goes on with as many used words as before
pub data GoesOn (used : ℕ) : Run → Type 0 where
  on : (p : Phase) (fs : Frames) (M : Meter) (w r : Log) → M.used ≡ used → GoesOn used (On p fs M w r)
  wants : (a : Wanted) (fs : Frames) (M : Meter) (w r : Log) → M.used ≡ used → GoesOn used (Asking a fs M w r)

grown : (used : ℕ) (b : Object) (w : Log) (e : Run) → Making (used + words_of b) w e → GoesOn used e → ⊥
grown used b w e (goes fs M r u) (on p gs N v s same) = omega (arith, u, same)
grown used b w e (over x M v r) g = elim g [ ]
grown used b w e (stuck r) g = elim g [ ]

-- so it does behind the header that a cast asks for
pub casts_on : (Q : Program) (c : List ℕ) (o : ℕ) (fs : Frames) (M : Meter) (w r : Log) → GoesOn M.used (on_head (Gives 0) Q (Casts c) o fs M w r)
casts_on Q c o fs M w r = by (is_instance Q (type_in (answered w o 0)) c)
  where
    by : (b : Bool) → GoesOn M.used (followed (or_trap b ClassCast fs (Asks asking.Go (advanced fs))) M w (recorded (written w o) o 0 r))
    by true = on Open _ M w _ refl
    by false = wants _ fs M w _ refl

module _ (P Q : Program) (B : Bounds) (mn : ℕ) (args : List Value) (σ : State) where
  -- no object is made where every reply leads to the same
  pub steps_synced : (d e : Run) → ((v : Reply) → next_run Q B v d ≡ e) → e ≢ Stuck (read_in d) → IsSynced P Q B mn args σ d
  steps_synced d e step not_stuck t len made fs row asks is room =
      let m = makes_next Q B t len made fs row is d asks room in
      absurd (not_stuck (apart (write_in d) (read_in d) _ _ _ _ e (conflicted (unwinds Q 1 0 fs) m.meter (write_in d) (read_in d)) (making made Q B (object_of t len row) fs m.meter _ (read_in d)) (sym m.refuses ∙ step Refuses) (sym (m.gives 0) ∙ step (Gives 0))))

  leads_apart : (w r : Log) (used : ℕ) (l : Access) (c d e : Run) → Conflicted w r c → Making used (l ∷ w) d → SameLogs c e → SameLogs d e → e ≡ Stuck r
  leads_apart w r used l c d (On p fs M v s) (doomed gs N) (goes hs K q u) f g = absurd (longer l w (g.0 ∙ sym f.0))
  leads_apart w r used l c d (Ended x M v s) (doomed gs N) (goes hs K q u) f g = absurd (longer l w (g.0 ∙ sym f.0))
  leads_apart w r used l c d (Stuck s) (doomed gs N) (goes hs K q u) f g = ap Stuck (sym f)
  leads_apart w r used l c d (Asking a fs M v s) (doomed gs N) (goes hs K q u) f g = absurd f
  leads_apart w r used l c d e (doomed gs N) (over x K v q) f g = absurd g
  leads_apart w r used l c d e (doomed gs N) (stuck q) f g = absurd g
  leads_apart w r used l c d e stuck x f g = absurd f

  -- nor where each leads on, silently, to one run
  pub leads_synced : (j : ℕ) (d e : Run) → ((v : Reply) → Leads Q B j (next_run Q B v d) e) → e ≢ Stuck (read_in d) → IsSynced P Q B mn args σ d
  leads_synced zero d e steps not_stuck = steps_synced d e steps not_stuck
  leads_synced (suc j) d e steps not_stuck = λ t len made fs row asks is room.
      let m = makes_next Q B t len made fs row is d asks room in
      let c : SameLogs (unwound (unwinds Q 1 0 fs) m.meter (write_in d) (read_in d)) e = (let f = m.refuses in rw (sym f) (steps Refuses).0) in
      let g : SameLogs (on_made made Q B (object_of t len row) fs m.meter (access (next_reference B.region m.meter.used) (header (object_of t len row)) ∷ write_in d) (read_in d)) e = (let f = m.gives 0 in rw (sym f) (steps (Gives 0)).0) in
      absurd (not_stuck (leads_apart (write_in d) (read_in d) _ _ _ _ e (conflicted (unwinds Q 1 0 fs) m.meter (write_in d) (read_in d)) (making made Q B (object_of t len row) fs m.meter _ (read_in d)) c g))

  -- nor where the attempt goes on so
  pub goes_synced : (d : Run) → GoesOn (used_in d) (next_run Q B (Gives 0) d) → IsSynced P Q B mn args σ d
  goes_synced d go t len made fs row asks is room =
      let m = makes_next Q B t len made fs row is d asks room in
      let b = object_of t len row in
      let w = header_write Q B t len made fs row is m.meter.used ∷ write_in d in
      let made_so = subst (Making (m.meter.used + words_of b) w) (sym (m.gives 0)) (making made Q B b fs m.meter w (read_in d)) in
      absurd (grown (used_in d) b w _ (subst (λ (u : ℕ). Making (u + words_of b) w (next_run Q B (Gives 0) d)) m.used made_so) go)

  -- nor where the next step asks for something else
  pub heads_synced : (d : Run) (o : ℕ) (u : Use) (gs : Frames) → open_asks Q d ≡ Asks (asking.Head o u) gs → IsSynced P Q B mn args σ d
  heads_synced d o u gs e t len made fs row asks is room = let f : Asks (asking.Head o u) gs ≡ Asks (asking.Make t len made) fs = sym e ∙ asks in cc

  pub raises_synced : (d : Run) (o : ℕ) (gs : Frames) → open_asks Q d ≡ Asks (asking.Raise o) gs → IsSynced P Q B mn args σ d
  raises_synced d o gs e t len made fs row asks is room = let f : Asks (asking.Raise o) gs ≡ Asks (asking.Make t len made) fs = sym e ∙ asks in cc

  pub requests_synced : (d : Run) (x : Request) (gs : Frames) → open_asks Q d ≡ Asks (asking.Ask x) gs → IsSynced P Q B mn args σ d
  requests_synced d x gs e t len made fs row asks is room = let f : Asks (asking.Ask x) gs ≡ Asks (asking.Make t len made) fs = sym e ∙ asks in cc

  refused_otherwise : (w r : Log) (d : Run) (fs : Frames) (N : Meter) (v s : Log) → Conflicted w r d → d ≢ On Ready fs N v s
  refused_otherwise w r d fs N v s (doomed gs M) e = cc
  refused_otherwise w r d fs N v s stuck e = cc

  -- nor at a commit
  pub commit_synced : (fs gs : Frames) (M : Meter) (w r : Log) → ((v : Reply) → next_run Q B v (On Open fs M w r) ≡ on_commit B v gs M w r) → IsSynced P Q B mn args σ (On Open fs M w r)
  commit_synced fs gs M w r step t len made hs row asks is room =
      let m = makes_next Q B t len made hs row is (On Open fs M w r) asks room in
      absurd (refused_otherwise w r _ _ _ _ _ (conflicted (unwinds Q 1 0 hs) m.meter w r) (sym m.refuses ∙ step Refuses))
