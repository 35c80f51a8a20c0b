-- The traps that an attempt has met so far are those that the original meets first.
use Rattle.std.proofs.Common.{◌≡◌, ◌≢◌, ℕ, ℤ, zero, suc, ◌+◌, ◌-◌, ◌<◌, ◌≤◌, List, [], ◌∷◌, ◌++◌, Option, Some, None, Bool, true, false, refl, sym, ap, subst, ◌∙◌, arith, ⊎_elim, append-nil}
use Rattle.std.proofs.lemmas.Bool.{cases_lt}
use Rattle.std.specs.Prelude.{slice_get}
use Rattle.jmodel.specs.declared.value.Value.{Value}
use Rattle.jmodel.specs.declared.value.Answer.{Answer}
use Rattle.jmodel.specs.history.History.{Words, Agrees}
use Rattle.objects.specs.declared.op.Dispatch.TheVariants as dispatch
use Rattle.objects.specs.declared.op.Made.{Made}
use Rattle.objects.specs.declared.op.Made.TheVariants.{Pushed, Raised}
use Rattle.objects.specs.declared.op.Phase.TheVariants.{Ready, Open, Doomed, Closed}
use Rattle.objects.specs.declared.op.Asking.TheVariants as asking
use Rattle.objects.specs.semantics.Program.{Row, Method, Program, row_at, method_at}
use Rattle.objects.specs.semantics.Region.{Region, has_words}
use Rattle.objects.specs.semantics.State.{State, words_of, object_of}
use Rattle.objects.specs.semantics.Step.{Frames, Asks, Fails, step}
use Rattle.objects.specs.semantics.Call.{Direct, direct, next_direct, call_start, Calls}
use Rattle.objects.specs.semantics.Call as call
use Rattle.objects.specs.rewriting.Attempt.{Log, Reply, Bounds, Meter, Run, On, Asking, Ended, Stuck, next_run, run, run_start, on_asked}
use Rattle.objects.specs.rewriting.Attempt as attempt
use Rattle.objects.specs.history.Meaning.{Represents}
use Rattle.objects.specs.typing.Source.{AreArguments}
use Rattle.objects.specs.typing.Typing.{Table}
use Rattle.objects.specs.laws.TypingLaw.{IsTypedProgram}
use Rattle.objects.specs.rewriting.Rewriting.{rewritten}
use Rattle.objects.specs.semantics.Traps.{trap_in, trap_of, traps, trap_at, traps_of, traps_met, IsOpen, Begins}
use Rattle.objects.specs.laws.Law.{state_of, MeetsFirst, PrefixTraps}
use Rattle.objects.proofs.Caught.{row_moved}
use Rattle.objects.proofs.Places.{rewrites}
use Rattle.objects.proofs.Safety.{IsFine, run_fine, call_fine}
use Rattle.objects.proofs.Goals.{direct_both}
use Rattle.objects.proofs.Makes.{open_asks, run_asks, used_in, IsSynced, MakesAt}
use Rattle.objects.proofs.Sound.{IsSound}
use Rattle.objects.proofs.DirectTraps.{state_before, grows_on, none_met, traps_both, ended_meets, makes_words}
use Rattle.objects.proofs.AttemptTraps.{Goes, quiet, makes_one, leaves, asked_goes, Grown, same, more, asked_keeps, Waits, begins, again, other, ready_waits, doomed_waits, closed_waits}
use Rattle.objects.proofs.Simulated.{simulated, code}

trap_of_asks : (P : Program) (d : Direct) → trap_of P d ≡ trap_in (run_asks P d)
trap_of_asks P (call.On fs k σ) = refl
trap_of_asks P (call.Asking a fs k σ) = refl
trap_of_asks P (call.Ended x σ) = refl
trap_of_asks P call.Stuck = refl

trap_at_asks : (Q : Program) (c : Run) → trap_at Q c ≡ trap_in (open_asks Q c)
trap_at_asks Q (On Open fs M w r) = refl
trap_at_asks Q (On Ready fs M w r) = refl
trap_at_asks Q (On Doomed fs M w r) = refl
trap_at_asks Q (On Closed fs M w r) = refl
trap_at_asks Q (Asking a fs M w r) = refl
trap_at_asks Q (Ended x M w r) = refl
trap_at_asks Q (Stuck r) = refl

-- a call begins with the state that is handed in
start_same : (o : Option Method) (m : ℕ) (args : List Value) (b : ℕ) (σ τ : State) → state_of (call.starts o m args b σ) ≡ Some τ → σ ≡ τ
start_same None m args b σ τ e = cc
start_same (Some k) m args zero σ τ e = cc
start_same (Some k) m args (suc b) σ τ e = cc

-- an open attempt keeps what it met
open_traps : (r : Log) (e : Run) (ts : List ℕ) → IsOpen r e → traps_of e ts ≡ ts
open_traps r (On Open fs M w q) ts h = refl
open_traps r (On Ready fs M w q) ts h = absurd h
open_traps r (On Doomed fs M w q) ts h = absurd h
open_traps r (On Closed fs M w q) ts h = absurd h
open_traps r (Asking a fs M w q) ts h = refl
open_traps r (Ended x M w q) ts h = absurd h
open_traps r (Stuck q) ts h = absurd h

module _ (P : Program) (Ts : List Table) (S : IsTypedProgram P Ts) (B : Bounds) (m : ℕ) (k : Method) (n : ℤ) (there : slice_get P.methods m ≡ Some k) (static : k.dispatch ≡ dispatch.Static) (marked : k.retries ≡ Some n) (args : List Value) (fit : AreArguments k.parameters args)
    (ws : Words) (σ : State) (represents : Represents P B.region.size ws σ) (own : σ.used B.region.number ≡ B.used) where
  abbrev Q : Program
  Q = rewritten P Ts

  abbrev G : Region
  G = B.region

  abbrev first : Direct
  first = call_start P m args B.budget σ

  -- a run of typed code has a state
  has_state : (j : ℕ) → (τ : State) × (state_of (direct P G j first) ≡ Some τ)
  has_state j = by (direct P G j first) (run_fine P Ts S G j first (call_fine P Ts S G B.budget m k there static (code P Ts S B m k n there static marked) args fit σ represents.heap))
    where
      by : (d : Direct) → IsFine P Ts S G.size d → (τ : State) × (state_of d ≡ Some τ)
      by (call.On fs i τ) h = (τ, refl)
      by (call.Asking a fs i τ) h = (τ, refl)
      by (call.Ended x τ) h = (τ, refl)
      by call.Stuck h = absurd h

  -- The original meets these traps, and has then so many used words.
  record Met (used : ℕ) (ts : List ℕ) : Type 0 where
    steps : ℕ
    state : State
    has : state_of (direct P G steps first) ≡ Some state
    used_are : state.used G.number ≡ used
    meets : traps P G steps first ≡ ts

  start_met : Met B.used []
  start_met = let s = has_state 0 in record { steps = 0; state = s.0; has = s.1; used_are = ap (λ (τ : State). τ.used G.number) (sym (start_same (method_at P m) m args B.budget σ s.0 s.1)) ∙ own; meets = refl }

  -- Where it makes an object next, it has met the same traps before.
  module _ (used : ℕ) (ts : List ℕ) (h : Met used ts) (t len : ℕ) (made : Made) (s : MakesAt P B m args σ t len made used) (row : Row) (is : row_at P t ≡ Some row) (room : has_words G used (words_of (object_of t len row)) ≡ true) where
    abbrev X : Direct
    X = direct P G s.steps first

    room_there : has_words G (s.state.used G.number) (words_of (object_of t len row)) ≡ true
    room_there = (let e = s.used_are in rw e room)

    goes_on : run_asks P X ≢ Fails
    goes_on e = let f : Asks (asking.Make t len made) s.frames ≡ Fails = sym s.asks ∙ e in cc

    after : (τ : State) → state_of (next_direct P G X) ≡ Some τ → τ.used G.number ≡ used + words_of (object_of t len row)
    after τ e = makes_words P G X t len made s.frames row s.state τ s.asks is s.has room_there e ∙ ap (λ (i : ℕ). i + words_of (object_of t len row)) s.used_are

    before : (i : ℕ) → s.steps ≡ h.steps + i → traps P G s.steps first ≡ ts
    before i e =
        let d = direct P G h.steps first in
        let there : direct P G i d ≡ X = sym (direct_both P G h.steps i first) ∙ ap (λ (j : ℕ). direct P G j first) (sym e) in
        let none : traps P G i d ≡ [] = none_met P G i d h.state s.state h.has (ap state_of there ∙ s.has) (s.used_are ∙ sym h.used_are) (λ f. goes_on (sym (ap (run_asks P) there) ∙ f)) in
        ap (λ (j : ℕ). traps P G j first) e ∙ traps_both P G h.steps i first ∙ ap (λ (us : List ℕ). traps P G h.steps first ++ us) none ∙ append-nil (traps P G h.steps first) ∙ h.meets

    behind : (i : ℕ) → h.steps ≡ s.steps + suc i → ⊥
    behind i e =
        let there : direct P G i (next_direct P G X) ≡ direct P G h.steps first = sym (direct_both P G s.steps (suc i) first) ∙ ap (λ (j : ℕ). direct P G j first) (sym e) in
        let y = state_before P G i (next_direct P G X) h.state (ap state_of there ∙ h.has) in
        let a = after y.0 y.1 in
        let b = grows_on P G i (next_direct P G X) y.0 h.state y.1 (ap state_of there ∙ h.has) in
        let c = h.used_are in
        omega (arith, a, b, c)

    met_before : traps P G s.steps first ≡ ts
    met_before = ⊎_elim (λ (lt : s.steps < h.steps). absurd (behind (h.steps - suc s.steps) (omega (arith, lt)))) (λ (le : h.steps ≤ s.steps). before (s.steps - h.steps) (omega (arith, le))) (cases_lt s.steps h.steps)

    makes_met : Met (used + words_of (object_of t len row)) (ts ++ trap_in (Asks (asking.Make t len made) s.frames))
    makes_met =
        let y = has_state (s.steps + 1) in
        let there : direct P G (s.steps + 1) first ≡ next_direct P G X = direct_both P G s.steps 1 first in
        record {
          steps = s.steps + 1;
          state = y.0;
          has = y.1;
          used_are = after y.0 (sym (ap state_of there) ∙ y.1);
          meets = traps_both P G s.steps 1 first ∙ ap (λ (us : List ℕ). us ++ (trap_of P X ++ [])) met_before ∙ ap (λ (us : List ℕ). ts ++ us) (append-nil (trap_of P X) ∙ trap_of_asks P X ∙ ap trap_in s.asks);
        }

  -- What is known of a run and the traps of its attempt: an open one whose reads are what the words have has met what the original meets; and before
  -- an attempt none is met, and no word taken.
  record Known (c : Run) (ts : List ℕ) : Type 0 where
    going : (r : Log) → IsOpen r c → Agrees ws r → Met (used_in c) ts
    ready : (fs : Frames) (M : Meter) (w r : Log) → c ≡ On Ready fs M w r → (ts ≡ []) × (M.used ≡ B.used)

  abbrev Sounds : Run → Type 0
  Sounds = IsSound P Q B m args ws σ

  agrees_before : (r s : Log) → Grown r s → Agrees ws s → Agrees ws r
  agrees_before r s same a = a
  agrees_before r s (more l) a = a.1

  same_trap : (t len : ℕ) (d : Made) (fs gs : Frames) → trap_in (Asks (asking.Make t len d) fs) ≡ trap_in (Asks (asking.Make t len d) gs)
  same_trap t len Pushed fs gs = refl
  same_trap t len Raised fs gs = refl

  -- a step of an open attempt
  open_known : (c : Run) (r : Log) → IsOpen r c → (ts : List ℕ) → Known c ts → (Agrees ws r → IsSynced P Q B m args σ c) → (e : Run) → Goes Q B (open_asks Q c) (used_in c) e → ((s : Log) → IsOpen s e → Grown r s) → Known e (traps_of e (ts ++ trap_at Q c))
  open_known c r here ts K synced e (quiet d none used not_ready) keeps = record {
    going = λ s o a.
        let h = K.going r here (agrees_before r s (keeps s o) a) in
        let f : traps_of e (ts ++ trap_at Q c) ≡ ts = open_traps s e (ts ++ trap_at Q c) o ∙ ap (λ (us : List ℕ). ts ++ us) (trap_at_asks Q c ∙ none) ∙ append-nil ts in
        subst (Met (used_in e)) (sym f) (subst (λ (i : ℕ). Met i ts) (sym used) h);
    ready = λ fs M w s f. absurd (not_ready fs M w s f);
  }
  open_known c r here ts K synced e (makes_one y t len d fs row asks is room used not_ready) keeps = record {
    going = λ s o a.
        let before = agrees_before r s (keeps s o) a in
        let there : row_at P t ≡ Some row = sym (row_moved P Q Ts (rewrites P Ts) t) ∙ is in
        let x = synced before t len d fs row asks is room in
        let h = makes_met (used_in c) ts (K.going r here before) t len d x row there room in
        let f : traps_of e (ts ++ trap_at Q c) ≡ ts ++ trap_in (Asks (asking.Make t len d) x.frames) = open_traps s e (ts ++ trap_at Q c) o ∙ ap (λ (us : List ℕ). ts ++ us) (trap_at_asks Q c ∙ ap trap_in asks ∙ same_trap t len d fs x.frames) in
        subst (Met (used_in e)) (sym f) (subst (λ (i : ℕ). Met i (ts ++ trap_in (Asks (asking.Make t len d) x.frames))) (sym (used (s, o))) h);
    ready = λ gs M w s f. absurd (not_ready gs M w s f);
  }
  open_known c r here ts K synced e (leaves d none used) keeps = record {
    going = λ s o a. absurd (none (s, o));
    ready = λ fs M w s f. (let g = f in rw g refl, used fs M w s f);
  }

  -- a step outside one
  waits_known : (c : Run) (ready : Bool) (ts : List ℕ) → (ready ≡ true → used_in c ≡ B.used) → trap_at Q c ≡ [] → (ready ≡ true → ts ≡ []) → (e : Run) → Waits B ready (used_in c) e → Known e (traps_of e (ts ++ trap_at Q c))
  waits_known c b ts used none empty e (begins fs M is kept) = record {
    going = λ s o a.
        let f : ts ++ trap_at Q c ≡ [] = (let x = empty is in rw (x, none) refl) in
        subst (Met M.used) (sym f) (subst (λ (i : ℕ). Met i []) (sym (used is) ∙ sym kept) start_met);
    ready = λ gs N w s f. cc;
  }
  waits_known c b ts used none empty e (again fs M w r known) = record {
    going = λ s o a. absurd o;
    ready = λ gs N v s f. (refl, let g : M ≡ N = cc in ap (λ (y : Meter). y.used) (sym g) ∙ ⊎_elim (λ (x : (b ≡ true) × (M.used ≡ used_in c)). x.1 ∙ used x.0) (λ (x : M.used ≡ B.used). x) known);
  }
  waits_known c b ts used none empty e (other d closed not_ready) = record {
    going = λ s o a. absurd (closed (s, o));
    ready = λ gs N v s f. absurd (not_ready gs N v s f);
  }

  step_known : (v : Reply) (c : Run) (ts : List ℕ) → Sounds c → Known c ts → Known (next_run Q B v c) (traps_of (next_run Q B v c) (ts ++ trap_at Q c))
  step_known v (On Open fs M w r) ts sound K = open_known (On Open fs M w r) r refl ts K (λ a. (sound a).1) _ (asked_goes Q B (step Q fs) v M w r) (asked_keeps Q B r (step Q fs) v M w)
  step_known v (Asking x fs M w r) ts sound K = open_known (Asking x fs M w r) r refl ts K (λ a. (sound a).1) _ (asked_goes Q B (Asks x fs) v M w r) (asked_keeps Q B r (Asks x fs) v M w)
  step_known v (On Ready fs M w r) ts sound K = let known = K.ready fs M w r refl in waits_known (On Ready fs M w r) true ts (λ e. known.1) refl (λ e. known.0) _ (ready_waits Q B (step Q fs) v M w r)
  step_known v (On Doomed fs M w r) ts sound K = waits_known (On Doomed fs M w r) false ts (λ e. cc) refl (λ e. cc) _ (doomed_waits Q B (step Q fs) v M w r)
  step_known v (On Closed fs M w r) ts sound K = waits_known (On Closed fs M w r) false ts (λ e. cc) refl (λ e. cc) _ (closed_waits Q B (step Q fs) v M w r)
  step_known v (Ended x M w r) ts sound K = record { going = λ s o a. absurd o; ready = λ gs N u s f. cc }
  step_known v (Stuck r) ts sound K = record { going = λ s o a. absurd o; ready = λ gs N u s f. cc }

  all_known : (vs : List Reply) (c : Run) (ts : List ℕ) → ((us : List Reply) → Sounds (run Q B us c)) → Known c ts → Known (run Q B vs c) (traps_met Q B vs c ts)
  all_known [] c ts sound K = K
  all_known (v ∷ vs) c ts sound K = all_known vs (next_run Q B v c) (traps_of (next_run Q B v c) (ts ++ trap_at Q c)) (λ us. sound (v ∷ us)) (step_known v c ts (sound []) K)

  start_known : (o : Option Method) → Known (attempt.starts o B m args) []
  start_known None = record { going = λ s e a. absurd e; ready = λ fs M w r f. cc }
  start_known (Some w) = record { going = λ s e a. absurd e; ready = λ fs M w r f. (refl, sym (ap used_in f)) }

  -- each call that ends has met what some of its steps met
  ends_met : (j : ℕ) (ts : List ℕ) → traps P G j first ≡ ts → (x : Answer) (τ : State) (c : Calls P B.budget G m args σ x τ) → (others : List ℕ) × (traps P G c.steps first ≡ ts ++ others)
  ends_met j ts meets x τ c = ⊎_elim sooner later (cases_lt c.steps j)
    where
      sooner : c.steps < j → (others : List ℕ) × (traps P G c.steps first ≡ ts ++ others)
      sooner lt =
          let i = j - c.steps in
          let e : j ≡ c.steps + i = omega (arith, lt) in
          let none : traps P G i (direct P G c.steps first) ≡ [] = ap (traps P G i) c.ends ∙ ended_meets P G i x c.last in
          let all : traps P G j first ≡ traps P G c.steps first = ap (λ (n : ℕ). traps P G n first) e ∙ traps_both P G c.steps i first ∙ ap (λ (us : List ℕ). traps P G c.steps first ++ us) none ∙ append-nil (traps P G c.steps first) in
          ([], sym all ∙ meets ∙ sym (append-nil ts))

      later : j ≤ c.steps → (others : List ℕ) × (traps P G c.steps first ≡ ts ++ others)
      later le =
          let i = c.steps - j in
          let e : c.steps ≡ j + i = omega (arith, le) in
          (traps P G i (direct P G j first), ap (λ (n : ℕ). traps P G n first) e ∙ traps_both P G j i first ∙ ap (λ (us : List ℕ). us ++ traps P G i (direct P G j first)) meets)

  begun_meets : (r : Log) (ts : List ℕ) → Begins Q B m args r ts → Agrees ws r → MeetsFirst P B m args σ ts
  begun_meets r ts b agrees =
      let K = all_known b.replies (run_start Q B m args) [] (simulated P Ts S B m k n there static marked args fit ws σ represents own) (start_known (method_at Q m)) in
      let h = K.going r b.reads agrees in
      let meets : traps P G h.steps first ≡ ts = h.meets ∙ b.meets in
      record { steps = h.steps; meets = meets; ends = ends_met h.steps ts meets }

pub prefix_traps : PrefixTraps
prefix_traps P Ts S B m k n there static marked args fit r ts b ws σ represents agrees own = begun_meets P Ts S B m k n there static marked args fit ws σ represents own r ts b agrees
