-- Some replies lead a wrapper's call to the end of the original method's call.
use Rattle.std.proofs.Common.{◌≡◌, ℕ, ℤ, zero, suc, ◌+◌, ◌-◌, ◌<◌, ◌≤◌, List, [], ◌∷◌, ◌++◌, length, Option, Some, None, Bool, true, false, refl, sym, ap, subst, ◌∙◌, arith, length-append}
use Rattle.std.specs.Prelude.{pos, slice_get, slice_set, nat_eq, nat_lt, min, replicate}
use Rattle.std.specs.List.{AllByRecursion, flat_map}
use Rattle.std.proofs.lemmas.Bool.Decides.{nat_tests}
use Rattle.std.proofs.lemmas.List.{length-set}
use Rattle.std.proofs.lemmas.Option.{slice_get_within}
use Rattle.jmodel.specs.declared.value.Value.{Value}
use Rattle.jmodel.specs.declared.value.Answer.{Answer}
use Rattle.jmodel.specs.declared.value.Answer.TheVariants.{Returned, Threw}
use Rattle.jmodel.specs.declared.typing.VType.{VType}
use Rattle.jmodel.specs.declared.typing.VType.TheVariants as type
use Rattle.jmodel.specs.history.History.{Words, overlaid, Agrees}
use Rattle.objects.specs.declared.op.Slot.{Slot}
use Rattle.objects.specs.declared.op.Slot.TheVariants.{Int, Ref, Context, Empty}
use Rattle.objects.specs.declared.op.Phase.TheVariants.{Open, Ready, Closed}
use Rattle.objects.specs.declared.op.Dispatch.TheVariants as dispatch
use Rattle.objects.specs.semantics.Value.{pushed, slots_of}
use Rattle.objects.specs.semantics.Program.{Method, Program, is_counted, method_at, name_at}
use Rattle.objects.specs.semantics.State.{State}
use Rattle.objects.specs.semantics.Step.{Frames, catch_at, next, received, resumed}
use Rattle.objects.specs.semantics.Call.{Direct, direct, call_start, kept}
use Rattle.objects.specs.semantics.Call as call
use Rattle.objects.specs.rewriting.Attempt.{Log, Reply, Gives, Bounds, Meter, Run, On, Ended, next_run, run_start, set_back, begun, count_of, on_commit, class_of}
use Rattle.objects.specs.history.Meaning.{Represents}
use Rattle.objects.specs.typing.Typing.{Table}
use Rattle.objects.specs.laws.TypingLaw.{IsTypedProgram}
use Rattle.objects.specs.typing.Source.{AreArguments}
use Rattle.objects.specs.rewriting.Rewriting.{duplicate, result_sort, spare_locals}
use Rattle.objects.proofs.Frames.{frame}
use Rattle.objects.proofs.Moved.{get_set_same, get_set_other}
use Rattle.objects.proofs.Inner.{IsAdded, IsInnerOp}
use Rattle.objects.proofs.Alike.{IsGivenAs}
use Rattle.objects.proofs.Wrapper.{IsWrapper, set_value, value_sort, loop_first, loop_begins, starts_up, throw_first, throw_commits, throw_last, bare_first, bare_commits, bare_last, end_first, end_commits, end_last}
use Rattle.objects.proofs.Lost.{IsSet, set_behind}
use Rattle.objects.proofs.Replies.{Leads}
use Rattle.objects.proofs.Places.{Rewrites, get_front}
use Rattle.objects.proofs.Entered.{arguments_many}
use Rattle.objects.proofs.Agreeing.{length_copies}
use Rattle.objects.proofs.Tied.{Tied, source_of}
use Rattle.objects.proofs.Goals.{StandsFor, EndsAs, out, back, threw}
use Rattle.objects.proofs.Walking.{Serves}
use Rattle.objects.proofs.SoundEnds.{value_stored}
use Rattle.objects.proofs.Beginning.{begin_goal}
use Rattle.objects.proofs.Completes.{Completes, by_reply, by_leads, Goal, Astray, complete_goal, main, main_ends}

module _ (P : Program) (Ts : List Table) (S : IsTypedProgram P Ts) (Q : Program) (types : Q.types ≡ P.types) (B : Bounds) (mn : ℕ) (args : List Value) (ws : Words) (σ : State) (represents : Represents P B.region.size ws σ) (own : σ.used B.region.number ≡ B.used) (last : State)
    (wm : Method) (is : slice_get Q.methods mn ≡ Some wm) (c id dn : ℕ) (retries : ℤ) (takes : List VType) (gives : Option VType) (q z : ℕ) (slots : List Slot) (len : length slots ≡ c) (first_added : ℕ)
    (ops_inner : (m : ℕ) (k : Method) → IsAdded Q first_added m → slice_get Q.methods m ≡ Some k → AllByRecursion (IsInnerOp Q first_added) k.ops)
    (uncounted : is_counted Q mn ≡ false) (catch : catch_at Q mn (q + 1) 0 ≡ Some z) (catch_other : (t : ℕ) → nat_eq t 0 ≡ false → catch_at Q mn (q + 1) t ≡ Some (z + 4)) where
  abbrev Comes : Answer → Run → Type 0
  Comes x = Completes P Ts S Q B mn args ws σ x last

  -- over, where the answer keeps the state
  over : (x : Answer) → kept x σ last ≡ last → (M : Meter) (w r : Log) → StandsFor P Ts S Q B mn args ws σ last M.used w → Agrees ws r → Comes x (Ended x M w r)
  over x keeps M w r stands agrees = record {
    replies = [];
    meter = M;
    writes = w;
    reads = r;
    comes = refl;
    agrees = agrees;
    represents = subst (Represents P B.region.size (overlaid w ws)) (sym keeps) stands.represents;
    used = sym stands.own ∙ ap (λ (τ : State). τ.used B.region.number) (sym keeps);
  }

  -- the commit is granted
  commits : (x : Answer) (j : ℕ) (gs p : Frames) (M : Meter) (w r : Log) → ((v : Reply) → next_run Q B v (On Open p M w r) ≡ on_commit B v gs M w r) → Leads Q B j (On Closed (resumed (Int (pos 1) ∷ []) gs) M w r) (Ended x M w r) → Comes x (Ended x M w r) → Comes x (On Open p M w r)
  commits x j gs p M w r asks after e =
      by_reply P Ts S Q B mn args ws σ x last (Gives 0) (On Open p M w r) (subst (Comes x) (sym (asks (Gives 0))) (by_leads P Ts S Q B mn args ws σ x last j (On Closed (resumed (Int (pos 1) ∷ []) gs) M w r) (Ended x M w r) after e))

  none_ends : (W : IsWrapper wm c id dn retries takes None q z) (wl j : List Slot) (M : Meter) (w r : Log) → IsSet None c slots wl → StandsFor P Ts S Q B mn args ws σ last M.used w → Agrees ws r → Comes (Returned None) (On Open (frame mn (q + 1 + 1) wl j ∷ []) M w r)
  none_ends W wl j M w r set stands agrees =
      by_leads P Ts S Q B mn args ws σ (Returned None) last 1 _ _ (bare_first Q B mn wm is c id dn retries takes q z W wl set.here M w r j)
      (commits (Returned None) 2 (frame mn (q + 1 + 1 + 1) wl j ∷ []) _ M w r (bare_commits Q B mn wm is c id dn retries takes q z W wl set.here M w r j)
      (bare_last Q B mn wm is c id dn retries takes q z W wl set.here M w r j) (over (Returned None) refl M w r stands agrees))

  value_ends : (t : VType) (W : IsWrapper wm c id dn retries takes (Some t) q z) (y : Value) → result_sort t ≡ value_sort y → (wl j : List Slot) (M : Meter) (w r : Log) → IsSet (Some t) c slots wl → StandsFor P Ts S Q B mn args ws σ last M.used w → Agrees ws r
      → Comes (Returned (Some y)) (On Open (frame mn (q + 1 + 1) wl (pushed y j) ∷ []) M w r)
  value_ends t W y sort wl j M w r set stands agrees =
      let s = value_stored t c y slots wl len sort set in
      let l2 = set_value (c + 1) y wl in
      by_leads P Ts S Q B mn args ws σ (Returned (Some y)) last 2 _ _ (end_first Q B mn wm is c id dn retries takes q z t W wl M w r j y l2 sort s.room refl s.set.here)
      (commits (Returned (Some y)) 3 (frame mn (q + 1 + 1 + 1 + 1) l2 j ∷ []) _ M w r (end_commits Q B mn wm is c id dn retries takes q z t W l2 M w r j)
      (end_last Q B mn wm is c id dn retries takes q z t W l2 M w r j y sort s.kept) (over (Returned (Some y)) refl M w r stands agrees))

  given_ends : (g : Option VType) (W : IsWrapper wm c id dn retries takes g q z) (v : Option Value) → IsGivenAs g v → (wl j : List Slot) (M : Meter) (w r : Log) → IsSet g c slots wl → StandsFor P Ts S Q B mn args ws σ last M.used w → Agrees ws r
      → Comes (Returned v) (On Open (next (received v (frame mn (q + 1) wl j)) ∷ []) M w r)
  given_ends None W None ok wl j M w r set stands agrees = none_ends W wl j M w r set stands agrees
  given_ends (Some t) W (Some y) ok wl j M w r set stands agrees = value_ends t W y ok wl j M w r set stands agrees
  given_ends None W (Some y) ok wl j M w r set stands agrees = absurd ok
  given_ends (Some t) W None ok wl j M w r set stands agrees = absurd ok

  module _ (W : IsWrapper wm c id dn retries takes gives q z) where
    threw_ends : (class : List ℕ) (o t : ℕ) (wl : List Slot) (M : Meter) (w r : Log) → IsSet gives c slots wl → M.thrown ≡ Some (record { reference = suc o; type = t }) → name_at P t ≡ Some class → StandsFor P Ts S Q B mn args ws σ last M.used w → Agrees ws r
        → Comes (Threw class) (On Open (frame mn (z + 4) wl (Ref (suc o) ∷ []) ∷ []) M w r)
    threw_ends class o t wl M w r set thrown named stands agrees =
        let l2 = slice_set wl (c + 1) (Ref (suc o)) in
        let room : nat_lt (c + 1) (length wl) ≡ true = let g = set.room in grind (arith, nat_tests) in
        let g = set_behind gives c slots wl (c + 1) (Ref (suc o)) len (omega arith) set in
        let kept = get_set_same wl (c + 1) (Ref (suc o)) set.room in
        let named2 : name_at Q t ≡ Some class = (let e = types in ap (λ (ts : _). name_at (record P { types = ts }) t) e ∙ named) in
        let same_ref : nat_eq (suc o) (suc o) ≡ true = grind (arith, nat_tests) in
        let class2 : class_of Q M.thrown (suc o) ≡ Some class = rw (thrown, same_ref) named2 in
        by_leads P Ts S Q B mn args ws σ (Threw class) last 2 _ _ (throw_first Q B mn wm is c id dn retries takes q z gives W wl l2 (suc o) room refl g.here kept M w r)
        (commits (Threw class) 3 (frame mn (z + 4 + 1 + 1) l2 [] ∷ []) _ M w r (throw_commits Q B mn wm is c id dn retries takes q z gives W wl l2 (suc o) room refl g.here kept M w r)
        (throw_last Q B mn wm is c id dn retries takes q z gives W wl l2 (suc o) room refl g.here kept M w r o refl class class2) (over (Threw class) refl M w r stands agrees))

    -- from each end
    pub complete_ends : (x : Answer) (e : Run) → EndsAs P Ts S Q B mn args ws σ gives c q z slots first_added ops_inner uncounted catch catch_other last x e → Comes x e
    complete_ends x e (out x2 M r keeps agrees) = record {
      replies = [];
      meter = set_back B M;
      writes = [];
      reads = r;
      comes = refl;
      agrees = agrees;
      represents = subst (Represents P B.region.size ws) (sym keeps) represents;
      used = sym own ∙ ap (λ (τ : State). τ.used B.region.number) (sym keeps);
    }
    complete_ends x e (back v wl j M w r set ok stands agrees) = given_ends gives W v ok wl j M w r set stands agrees
    complete_ends x e (threw class o t wl M w r set thrown named stands agrees) = threw_ends class o t wl M w r set thrown named stands agrees

module _ (P : Program) (Ts : List Table) (S : IsTypedProgram P Ts) (Q : Program) (R : Rewrites P Ts Q) (first_added : ℕ)
    (ops_inner : (m : ℕ) (k : Method) → IsAdded Q first_added m → slice_get Q.methods m ≡ Some k → AllByRecursion (IsInnerOp Q first_added) k.ops) (B : Bounds) (m : ℕ) (k : Method) (original : method_at P m ≡ Some k) (static : k.dispatch ≡ dispatch.Static)
    (T : Table) (t : Tied P Ts S m (duplicate P m) k T) (args : List Value) (fit : AreArguments k.parameters args) (ws : Words) (σ : State) (represents : Represents P B.region.size ws σ) (own : σ.used B.region.number ≡ B.used)
    (wm : Method) (is : slice_get Q.methods m ≡ Some wm) (places : wm.places ≡ k.places) (locals : wm.locals ≡ k.places + spare_locals k.result) (id : ℕ) (retries : ℤ) (q z : ℕ) (W : IsWrapper wm k.places id (duplicate P m) retries k.parameters k.result q z)
    (uncounted : is_counted Q m ≡ false) (catch : catch_at Q m (q + 1) 0 ≡ Some z) (catch_other : (t : ℕ) → nat_eq t 0 ≡ false → catch_at Q m (q + 1) t ≡ Some (z + 4))
    (some_retries : 0 < count_of retries) (some_attempts : 0 < B.attempts) (x : Answer) (last : State) (N : ℕ) (over : direct P B.region N (call_start P m args B.budget σ) ≡ call.Ended x last) where
  abbrev slots : List Slot
  slots = flat_map slots_of args

  many : length slots ≡ k.places
  many = arguments_many k.parameters args fit ∙ (source_of P Ts S m k original).many

  abbrev IsLed : Run → Type 0
  IsLed = Completes P Ts S Q B m args ws σ x last

  module _ (serves : Serves P Ts S Q B m args ws σ k.result k.places q z slots first_added ops_inner uncounted catch catch_other (Goal P Ts S Q B m args ws σ x last)) where
    ends : (e : Run) → EndsAs P Ts S Q B m args ws σ k.result k.places q z slots first_added ops_inner uncounted catch catch_other last x e → IsLed e
    ends = complete_ends P Ts S Q R.types B m args ws σ represents own last wm is k.places id (duplicate P m) retries k.parameters k.result q z slots many first_added ops_inner uncounted catch catch_other W x

    -- the wrapper's locals at first, and with the context
    abbrev l0 : List Slot
    l0 = slots ++ replicate (wm.locals - wm.places) Empty

    l0_many : length l0 ≡ k.places + spare_locals k.result
    l0_many = let a = length-append slots (replicate (wm.locals - wm.places) Empty) in let b = length_copies (wm.locals - wm.places) Empty in omega (arith, a, b, many, places, locals)

    some_spare : (g : Option VType) → 2 ≤ spare_locals g
    some_spare None = omega arith
    some_spare (Some type.Long) = omega arith
    some_spare (Some t) = omega arith

    set0 : IsSet k.result k.places slots (slice_set l0 k.places Context)
    set0 =
        let n = length-set l0 k.places Context in
        let s = some_spare k.result in
        let low : k.places < length l0 = omega (arith, l0_many, s) in
        record {
          here = get_set_same l0 k.places Context low;
          room = omega (arith, n, l0_many, s);
          wide = omega (arith, n, l0_many);
          args = λ j v e. let below = slice_get_within slots j v e in get_set_other l0 k.places j Context (λ d. omega (arith, d, below, many)) ∙ get_front slots (replicate (wm.locals - wm.places) Empty) j v e;
        }

    abbrev M0 : Meter
    M0 = record { turns = 0; tried = 0; used = B.used; thrown = None }

    -- the first attempt is begun
    begins : (wl j : List Slot) → IsSet k.result k.places slots wl → IsLed (On Ready (frame m 2 wl j ∷ []) M0 [] [])
    begins wl j set =
        by_leads P Ts S Q B m args ws σ x last 3 _ _ (loop_first Q B m wm is k.places id (duplicate P m) retries k.parameters q z k.result W wl set.here M0 [] [] j)
        (by_reply P Ts S Q B m args ws σ x last (Gives 0) _
        (subst IsLed (sym (loop_begins Q B m wm is k.places id (duplicate P m) retries k.parameters q z k.result W wl set.here M0 [] [] j (Gives 0))) (subst (λ (b : Bool). IsLed (begun b B (frame m 5 wl j ∷ []) M0)) (sym may) first)))
      where
        low : (a b : ℕ) → 0 < a → 0 < b → 0 < min a b
        low zero b p r = absurd (omega (arith, p))
        low (suc a) zero p r = absurd (omega (arith, r))
        low (suc a) (suc b) p r = omega arith

        may : nat_lt 0 (min (count_of retries) B.attempts) ≡ true
        may = let l = low (count_of retries) B.attempts some_retries some_attempts in grind (arith, nat_tests)

        first : IsLed (On Open (frame m 6 wl j ∷ []) (record M0 { turns = B.budget; tried = 1 }) [] [])
        first =
            begin_goal P Ts S Q R B m k original static T t args fit ws σ represents own wm is id retries q z W first_added ops_inner uncounted catch catch_other (Goal P Ts S Q B m args ws σ x last) (Astray P Ts S Q B m args ws σ x last)
            (complete_goal P Ts S Q B m args ws σ x last k.result k.places q z slots first_added ops_inner uncounted catch catch_other)
            (main P Ts S Q B m args ws σ x last k.result k.places q z slots first_added ops_inner uncounted catch catch_other serves ends N over)
            (main_ends P Ts S Q B m args ws σ x last k.result k.places q z slots first_added ops_inner uncounted catch catch_other serves ends N over) wl j set
            (record M0 { turns = B.budget; tried = 1 }) (record { turns = refl; used = refl }) 0

    pub completes_runs : IsLed (run_start Q B m args)
    completes_runs = subst IsLed (sym start_is) started
      where
        start_is : run_start Q B m args ≡ On Ready (frame m 0 l0 [] ∷ []) M0 [] []
        start_is = (let e = is in rw e refl)

        started : IsLed (On Ready (frame m 0 l0 [] ∷ []) M0 [] [])
        started =
            let low : nat_lt k.places (length l0) ≡ true = (let s = some_spare k.result in let n = l0_many in grind (arith, nat_tests)) in
            by_leads P Ts S Q B m args ws σ x last 2 _ _ (starts_up Q B m wm is k.places id (duplicate P m) retries k.parameters q z k.result W (slice_set l0 k.places Context) set0.here M0 [] [] l0 low refl) (begins _ [] set0)
