-- The traps and the used words of a run of original code: a step that meets a trap takes words, or ends the run.
use Rattle.std.proofs.Common.{◌≡◌, ◌≢◌, ℕ, zero, suc, ◌+◌, ◌<◌, ◌≤◌, List, [], ◌++◌, Option, Some, None, Bool, true, false, refl, sym, ap, subst, ◌∙◌, arith, append_assoc}
use Rattle.std.proofs.lemmas.Bool.Decides.{nat_tests}
use Rattle.std.specs.Prelude.{nat_eq}
use Rattle.jmodel.specs.declared.value.Answer.{Answer}
use Rattle.jmodel.specs.declared.value.Value.{Value}
use Rattle.objects.specs.declared.op.Made.{Made}
use Rattle.objects.specs.declared.op.Made.TheVariants.{Pushed, Raised}
use Rattle.objects.specs.declared.op.Use.{Use}
use Rattle.objects.specs.declared.op.Place.{Place}
use Rattle.objects.specs.declared.op.Request.TheVariants as request
use Rattle.objects.specs.declared.op.Asking.TheVariants as asking
use Rattle.objects.specs.semantics.Program.{Row, Program, row_at, name_at}
use Rattle.objects.specs.semantics.Region.{Region, next_reference, has_words}
use Rattle.objects.specs.semantics.State.{Object, State, words_of, length_of, with_object, object_of, type_at, value_held}
use Rattle.objects.specs.semantics.Step.{Frames, Asked, Asks, Fails, step, unwinds, told}
use Rattle.objects.specs.semantics.Call.{Direct, On, Asking, Ended, Stuck, direct, next_direct, turned, entered, got, set_at, threw_of, on_thrown, throws, on_raise, on_made, makes, made, followed, headed, on_asking, on_asked}
use Rattle.objects.specs.semantics.Traps.{trap_in, trap_of, traps}
use Rattle.objects.specs.laws.Law.{state_of}
use Rattle.objects.proofs.Makes.{run_asks}

-- What a step does to the used words of a region: it leaves them and meets no trap, or takes some, or ends the run.
pub data Uses (G : Region) (ts : List ℕ) (σ : State) : Direct → Type 0 where
  stays : (e : Direct) → ts ≡ [] → ((τ : State) → state_of e ≡ Some τ → τ.used G.number ≡ σ.used G.number) → Uses G ts σ e
  grows : (e : Direct) (n : ℕ) → 0 < n → ((τ : State) → state_of e ≡ Some τ → τ.used G.number ≡ σ.used G.number + n) → Uses G ts σ e
  over : (x : Answer) → Uses G ts σ (Ended x σ)

none_there : {A : Type 0} (x : State) → None ≡ Some x → A
none_there x e = cc

some_used : (G : Region) (σ τ : State) → Some σ ≡ Some τ → τ.used G.number ≡ σ.used G.number
some_used G σ τ e = let f : σ ≡ τ = cc in ap (λ (y : State). y.used G.number) (sym f)

module _ (P : Program) (G : Region) where
  turned_used : (fs : Frames) (k : ℕ) (σ : State) → Uses G [] σ (turned fs k σ)
  turned_used fs zero σ = over _
  turned_used fs (suc k) σ = stays _ refl (some_used G σ)

  entered_used : (deep : Bool) (fs : Frames) (k : ℕ) (σ : State) → Uses G [] σ (entered deep fs k σ)
  entered_used deep fs zero σ = over _
  entered_used true fs (suc k) σ = over _
  entered_used false fs (suc k) σ = stays _ refl (some_used G σ)

  -- a state that a run has
  pub data Has (σ : State) : Direct → Type 0 where
    has : (d : Direct) → ((τ : State) → state_of d ≡ Some τ → σ ≡ τ) → Has σ d

  same_state : (σ τ : State) → Some σ ≡ Some τ → σ ≡ τ
  same_state σ τ e = cc

  turned_has : (fs : Frames) (k : ℕ) (σ : State) → Has σ (turned fs k σ)
  turned_has fs zero σ = has _ (same_state σ)
  turned_has fs (suc k) σ = has _ (same_state σ)

  threw_has : (c : Option (List ℕ)) (σ : State) → Has σ (threw_of c σ)
  threw_has None σ = has _ (λ τ e. none_there τ e)
  threw_has (Some c) σ = has _ (same_state σ)

  thrown_has : (t : ℕ) (a : Asked) (k : ℕ) (σ : State) → Has σ (on_thrown P t a k σ)
  thrown_has t Fails k σ = has _ (λ τ e. none_there τ e)
  thrown_has t (Asks asking.Go fs) k σ = has _ (same_state σ)
  thrown_has t (Asks asking.Turn fs) k σ = turned_has fs k σ
  thrown_has t (Asks (asking.Enter deep) fs) k σ = has _ (λ τ e. none_there τ e)
  thrown_has t (Asks (asking.Return x) fs) k σ = has _ (λ τ e. none_there τ e)
  thrown_has t (Asks (asking.Throw o) fs) k σ = threw_has (name_at P t) σ
  thrown_has t (Asks (asking.Raise o) fs) k σ = has _ (λ τ e. none_there τ e)
  thrown_has t (Asks (asking.Make u n d) fs) k σ = has _ (λ τ e. none_there τ e)
  thrown_has t (Asks (asking.Head o u) fs) k σ = has _ (λ τ e. none_there τ e)
  thrown_has t (Asks (asking.Ask x) fs) k σ = has _ (λ τ e. none_there τ e)

  leaves : (σ : State) (e : Direct) → Has σ e → Uses G [] σ e
  leaves σ e (has d h) = stays _ refl (λ τ f. ap (λ (y : State). y.used G.number) (sym (h τ f)))

  throws_used : (c : Option Row) (o t : ℕ) (fs : Frames) (k : ℕ) (σ : State) → Uses G [] σ (throws c P o t fs k σ)
  throws_used None o t fs k σ = stays _ refl (λ τ e. none_there τ e)
  throws_used (Some r) o t fs k σ = leaves σ _ (thrown_has t (unwinds P o t fs) k σ)

  raises_used : (t : Option ℕ) (o : ℕ) (fs : Frames) (k : ℕ) (σ : State) → Uses G [] σ (on_raise t P o fs k σ)
  raises_used None o fs k σ = stays _ refl (λ τ e. none_there τ e)
  raises_used (Some t) o fs k σ = throws_used (row_at P t) o t fs k σ

  taken : (b : Object) (σ τ : State) → with_object G b σ ≡ τ → τ.used G.number ≡ σ.used G.number + words_of b
  taken b σ τ e = let same : nat_eq G.number G.number ≡ true = grind (arith, nat_tests) in ap (λ (y : State). y.used G.number) (sym e) ∙ rw same refl

  pub made_used : (m : Made) (o : ℕ) (b : Object) (fs : Frames) (k : ℕ) (σ : State) → (τ : State) → state_of (on_made m P o b fs k (with_object G b σ)) ≡ Some τ → τ.used G.number ≡ σ.used G.number + words_of b
  made_used Pushed o b fs k σ τ e = taken b σ τ (same_state _ τ e)
  made_used Raised o b fs k σ τ e = by (on_thrown P b.type (unwinds P o b.type fs) k (with_object G b σ)) (thrown_has b.type (unwinds P o b.type fs) k (with_object G b σ)) e
    where
      by : (d : Direct) → Has (with_object G b σ) d → state_of d ≡ Some τ → τ.used G.number ≡ σ.used G.number + words_of b
      by d (has c h) e = taken b σ τ (h τ e)

  makes_used : (room : Bool) (m : Made) (b : Object) (fs : Frames) (k : ℕ) (σ : State) (ts : List ℕ) → Uses G ts σ (makes room m P G b fs k σ)
  makes_used true m b fs k σ ts = grows _ (words_of b) (omega arith) (made_used m _ b fs k σ)
  makes_used false m b fs k σ ts = over _

  room_used : (r : Option Row) (t n : ℕ) (m : Made) (fs : Frames) (k : ℕ) (σ : State) (ts : List ℕ) → Uses G ts σ (made r t n m P G fs k σ)
  room_used None t n m fs k σ ts = grows _ 1 (omega arith) (λ τ e. none_there τ e)
  room_used (Some r) t n m fs k σ ts = makes_used _ m (object_of t n r) fs k σ ts

  follows_used : (a : Asked) (k : ℕ) (σ : State) → Uses G [] σ (followed a k σ)
  follows_used Fails k σ = stays _ refl (λ τ e. none_there τ e)
  follows_used (Asks asking.Go fs) k σ = stays _ refl (some_used G σ)
  follows_used (Asks asking.Turn fs) k σ = stays _ refl (some_used G σ)
  follows_used (Asks (asking.Enter deep) fs) k σ = stays _ refl (some_used G σ)
  follows_used (Asks (asking.Return x) fs) k σ = stays _ refl (some_used G σ)
  follows_used (Asks (asking.Throw o) fs) k σ = stays _ refl (some_used G σ)
  follows_used (Asks (asking.Raise o) fs) k σ = stays _ refl (some_used G σ)
  follows_used (Asks (asking.Make t n d) fs) k σ = stays _ refl (some_used G σ)
  follows_used (Asks (asking.Head o u) fs) k σ = stays _ refl (some_used G σ)
  follows_used (Asks (asking.Ask x) fs) k σ = stays _ refl (some_used G σ)

  headed_used : (b : Option Object) (u : Use) (o : ℕ) (fs : Frames) (k : ℕ) (σ : State) → Uses G [] σ (headed b P u o fs k σ)
  headed_used None u o fs k σ = stays _ refl (λ τ e. none_there τ e)
  headed_used (Some b) u o fs k σ = follows_used (told P u o b.type (length_of b) fs) k σ

  got_used : (v : Option Value) (fs : Frames) (k : ℕ) (σ : State) → Uses G [] σ (got v fs k σ)
  got_used None fs k σ = stays _ refl (λ τ e. none_there τ e)
  got_used (Some v) fs k σ = stays _ refl (some_used G σ)

  put_used : (old : Option Value) (p : Place) (v : Value) (fs : Frames) (k : ℕ) (σ : State) → Uses G [] σ (set_at old p v fs k σ)
  put_used None p v fs k σ = stays _ refl (λ τ e. none_there τ e)
  put_used (Some old) p v fs k σ = stays _ refl (λ τ e. let f = same_state _ τ e in ap (λ (y : State). y.used G.number) (sym f))

  asked_used : (a : Asked) (k : ℕ) (σ : State) → Uses G (trap_in a) σ (on_asked P G a k σ)
  asked_used Fails k σ = stays _ refl (λ τ e. none_there τ e)
  asked_used (Asks asking.Go fs) k σ = stays _ refl (some_used G σ)
  asked_used (Asks asking.Turn fs) k σ = turned_used fs k σ
  asked_used (Asks (asking.Enter deep) fs) k σ = entered_used deep fs k σ
  asked_used (Asks (asking.Return x) fs) k σ = over _
  asked_used (Asks (asking.Throw o) fs) k σ = stays _ refl (λ τ e. none_there τ e)
  asked_used (Asks (asking.Raise o) fs) k σ = raises_used (type_at σ o) o fs k σ
  asked_used (Asks (asking.Make t n d) fs) k σ = room_used (row_at P t) t n d fs k σ _
  asked_used (Asks (asking.Head o u) fs) k σ = headed_used (σ.objects o) u o fs k σ
  asked_used (Asks (asking.Ask (request.Get p)) fs) k σ = got_used (value_held σ p) fs k σ
  asked_used (Asks (asking.Ask (request.Put p v)) fs) k σ = put_used (value_held σ p) p v fs k σ
  asked_used (Asks (asking.Ask (request.Begin i)) fs) k σ = stays _ refl (λ τ e. none_there τ e)
  asked_used (Asks (asking.Ask (request.Look p)) fs) k σ = stays _ refl (λ τ e. none_there τ e)
  asked_used (Asks (asking.Ask (request.Read p t)) fs) k σ = stays _ refl (λ τ e. none_there τ e)
  asked_used (Asks (asking.Ask (request.Write p x)) fs) k σ = stays _ refl (λ τ e. none_there τ e)
  asked_used (Asks (asking.Ask request.Commit) fs) k σ = stays _ refl (λ τ e. none_there τ e)
  asked_used (Asks (asking.Ask request.Rollback) fs) k σ = stays _ refl (λ τ e. none_there τ e)

  pub step_used : (d : Direct) (σ : State) → state_of d ≡ Some σ → Uses G (trap_of P d) σ (next_direct P G d)
  step_used (On fs k τ) σ e = subst (λ (y : State). Uses G (trap_in (step P fs)) y (on_asked P G (step P fs) k τ)) (same_state τ σ e) (asked_used (step P fs) k τ)
  step_used (Asking a fs k τ) σ e = subst (λ (y : State). Uses G (trap_in (Asks a fs)) y (on_asking P G a fs k τ)) (same_state τ σ e) (asked_used (Asks a fs) k τ)
  step_used (Ended x τ) σ e = stays _ refl (λ y f. ap (λ (z : State). z.used G.number) (let g : σ ≡ y = cc in sym g))
  step_used Stuck σ e = none_there σ e

  -- a run that has ended, or is stuck, is so
  ended_on : (n : ℕ) (x : Answer) (σ : State) → direct P G n (Ended x σ) ≡ Ended x σ
  ended_on zero x σ = refl
  ended_on (suc n) x σ = ended_on n x σ

  stuck_on : (n : ℕ) → direct P G n Stuck ≡ Stuck
  stuck_on zero = refl
  stuck_on (suc n) = stuck_on n

  -- what has a state behind some steps has one at first
  pub state_before : (n : ℕ) (d : Direct) (τ : State) → state_of (direct P G n d) ≡ Some τ → (σ : State) × (state_of d ≡ Some σ)
  state_before n (On fs k σ) τ e = (σ, refl)
  state_before n (Asking a fs k σ) τ e = (σ, refl)
  state_before n (Ended x σ) τ e = (σ, refl)
  state_before n Stuck τ e = none_there τ (sym (ap state_of (stuck_on n)) ∙ e)

  -- no word is given back
  pub grows_on : (n : ℕ) (d : Direct) (σ τ : State) → state_of d ≡ Some σ → state_of (direct P G n d) ≡ Some τ → σ.used G.number ≤ τ.used G.number
  grows_on zero d σ τ e f = let g : σ ≡ τ = same_state σ τ (sym e ∙ f) in let h = ap (λ (y : State). y.used G.number) g in omega (arith, h)
  grows_on (suc n) d σ τ e f = by (λ c ρ g h. grows_on n c ρ τ g h) (next_direct P G d) (step_used d σ e) f
    where
      by : ((c : Direct) (ρ : State) → state_of c ≡ Some ρ → state_of (direct P G n c) ≡ Some τ → ρ.used G.number ≤ τ.used G.number) → (c : Direct) → Uses G (trap_of P d) σ c → state_of (direct P G n c) ≡ Some τ → σ.used G.number ≤ τ.used G.number
      by up c (stays z none same) f = let s = state_before n c τ f in let x = same s.0 s.1 in let y = up c s.0 s.1 f in omega (arith, x, y)
      by up c (grows z i some more) f = let s = state_before n c τ f in let x = more s.0 s.1 in let y = up c s.0 s.1 f in omega (arith, x, y, some)
      by up c (over x) f = let g : σ ≡ τ = same_state σ τ (sym (ap state_of (ended_on n x σ)) ∙ f) in let h = ap (λ (y : State). y.used G.number) g in omega (arith, h)

  -- where no word was taken, and the run goes on, no trap was met
  pub none_met : (n : ℕ) (d : Direct) (σ τ : State) → state_of d ≡ Some σ → state_of (direct P G n d) ≡ Some τ → τ.used G.number ≡ σ.used G.number → run_asks P (direct P G n d) ≢ Fails → traps P G n d ≡ []
  none_met zero d σ τ e f same on = refl
  none_met (suc n) d σ τ e f same on = by (λ c ρ g h s o. none_met n c ρ τ g h s o) (next_direct P G d) (step_used d σ e) refl f on
    where
      by : ((c : Direct) (ρ : State) → state_of c ≡ Some ρ → state_of (direct P G n c) ≡ Some τ → τ.used G.number ≡ ρ.used G.number → run_asks P (direct P G n c) ≢ Fails → traps P G n c ≡ []) → (c : Direct) → Uses G (trap_of P d) σ c → next_direct P G d ≡ c → state_of (direct P G n c) ≡ Some τ → run_asks P (direct P G n c) ≢ Fails → trap_of P d ++ traps P G n (next_direct P G d) ≡ []
      by up c (stays z none keeps) g f on =
          let s = state_before n c τ f in
          let x = keeps s.0 s.1 in
          let rest = up c s.0 s.1 f (omega (arith, x, same)) on in
          rw (none, g) rest
      by up c (grows z i some more) g f on = let s = state_before n c τ f in let x = more s.0 s.1 in let y = grows_on n c s.0 τ s.1 f in absurd (omega (arith, x, y, some, same))
      by up c (over x) g f on = absurd (on (ap (run_asks P) (ended_on n x σ)))

  pub traps_both : (i j : ℕ) (d : Direct) → traps P G (i + j) d ≡ traps P G i d ++ traps P G j (direct P G i d)
  traps_both zero j d = let e : 0 + j ≡ j = omega arith in ap (λ (n : ℕ). traps P G n d) e
  traps_both (suc i) j d =
      let e : suc i + j ≡ suc (i + j) = omega arith in
      ap (λ (n : ℕ). traps P G n d) e ∙ ap (λ (ts : List ℕ). trap_of P d ++ ts) (traps_both i j (next_direct P G d)) ∙ sym (append_assoc (trap_of P d) (traps P G i (next_direct P G d)) (traps P G j (direct P G i (next_direct P G d))))

  -- a run that has ended meets none
  pub ended_meets : (n : ℕ) (x : Answer) (σ : State) → traps P G n (Ended x σ) ≡ []
  ended_meets zero x σ = refl
  ended_meets (suc n) x σ = ended_meets n x σ

  -- where there is room for what a step makes, it takes the words
  pub makes_words : (d : Direct) (t n : ℕ) (m : Made) (fs : Frames) (r : Row) (σ τ : State) → run_asks P d ≡ Asks (asking.Make t n m) fs → row_at P t ≡ Some r → state_of d ≡ Some σ → has_words G (σ.used G.number) (words_of (object_of t n r)) ≡ true
      → state_of (next_direct P G d) ≡ Some τ → τ.used G.number ≡ σ.used G.number + words_of (object_of t n r)
  makes_words d t n m fs r σ τ asks is e room f = by d asks e f
    where
      at : (k : ℕ) → on_asking P G (asking.Make t n m) fs k σ ≡ on_made m P (next_reference G (σ.used G.number)) (object_of t n r) fs k (with_object G (object_of t n r) σ)
      at k = rw (is, room) refl

      by : (d : Direct) → run_asks P d ≡ Asks (asking.Make t n m) fs → state_of d ≡ Some σ → state_of (next_direct P G d) ≡ Some τ → τ.used G.number ≡ σ.used G.number + words_of (object_of t n r)
      by (On gs k ρ) asks e f =
          let s : ρ ≡ σ = same_state ρ σ e in
          let g : next_direct P G (On gs k ρ) ≡ on_asking P G (asking.Make t n m) fs k σ = rw (asks, s) refl in
          made_used m _ (object_of t n r) fs k σ τ (sym (ap state_of (g ∙ at k)) ∙ f)
      by (Asking a gs k ρ) asks e f =
          let s : ρ ≡ σ = same_state ρ σ e in
          let x : a ≡ asking.Make t n m = cc in
          let y : gs ≡ fs = cc in
          let g : next_direct P G (Asking a gs k ρ) ≡ on_asking P G (asking.Make t n m) fs k σ = rw (x, y, s) refl in
          made_used m _ (object_of t n r) fs k σ τ (sym (ap state_of (g ∙ at k)) ∙ f)
      by (Ended x ρ) asks e f = cc
      by Stuck asks e f = cc
