-- A call of the wrapper, whatever the engine answers: each attempt shows what it may of the original method's call.
use Rattle.std.proofs.Common.{◌≡◌, ℕ, ℤ, zero, suc, ◌+◌, ◌-◌, ◌<◌, ◌≤◌, List, [], ◌∷◌, ◌++◌, length, Option, Some, None, Bool, true, false, refl, sym, subst, ◌∙◌, arith, ◌⊎◌, length-append}
use Rattle.std.specs.Prelude.{slice_get, slice_set, nat_eq, nat_lt, min, replicate}
use Rattle.std.specs.List.{AllByRecursion, flat_map}
use Rattle.std.proofs.lemmas.Bool.Decides.{nat_tests}
use Rattle.std.proofs.lemmas.List.{length-set}
use Rattle.std.proofs.lemmas.Option.{slice_get_within}
use Rattle.jmodel.specs.declared.value.Value.{Value}
use Rattle.jmodel.specs.declared.value.Answer.TheVariants.{Spent}
use Rattle.jmodel.specs.declared.typing.VType.{VType}
use Rattle.jmodel.specs.declared.typing.VType.TheVariants as type
use Rattle.jmodel.specs.history.History.{Words}
use Rattle.objects.specs.declared.op.Slot.{Slot}
use Rattle.objects.specs.declared.op.Slot.TheVariants.{Context, Empty}
use Rattle.objects.specs.declared.op.Phase.TheVariants.{Open, Ready}
use Rattle.objects.specs.declared.op.Dispatch.TheVariants as dispatch
use Rattle.objects.specs.semantics.Value.{slots_of}
use Rattle.objects.specs.semantics.Program.{Method, Program, is_counted, method_at}
use Rattle.objects.specs.semantics.State.{State}
use Rattle.objects.specs.semantics.Step.{Frames, catch_at}
use Rattle.objects.specs.rewriting.Attempt.{Log, Reply, Bounds, Meter, Run, On, set_back, begun, count_of, run, run_start}
use Rattle.objects.specs.history.Meaning.{Represents}
use Rattle.objects.specs.typing.Typing.{Table}
use Rattle.objects.specs.laws.TypingLaw.{IsTypedProgram}
use Rattle.objects.specs.typing.Source.{AreArguments}
use Rattle.objects.specs.laws.Law.{Matched}
use Rattle.objects.specs.rewriting.Rewriting.{rewritten, duplicate, spare_locals}
use Rattle.objects.proofs.Frames.{frame}
use Rattle.objects.proofs.Moved.{get_set_same, get_set_other}
use Rattle.objects.proofs.Inner.{IsAdded, IsInnerOp}
use Rattle.objects.proofs.Added.{IsCopy}
use Rattle.objects.proofs.Wrapper.{IsWrapper, loop_first, loop_begins, starts_up}
use Rattle.objects.proofs.Lost.{IsSet}
use Rattle.objects.proofs.Replies.{IsOfEnds, Holds, on_leads, on_more, on_reply, at_none, at_end}
use Rattle.objects.proofs.Places.{Rewrites, get_front}
use Rattle.objects.proofs.Entered.{arguments_many}
use Rattle.objects.proofs.Agreeing.{length_copies}
use Rattle.objects.proofs.Tied.{Tied, source_of}
use Rattle.objects.proofs.Tied as tied
use Rattle.objects.proofs.Goals.{Here, IsGoal}
use Rattle.objects.proofs.Sound.{IsSound, sound_of_ends, sound_goal, Goal, Loops}
use Rattle.objects.proofs.SoundEnds.{sound_ends}
use Rattle.objects.proofs.Beginning.{far, begin_goal}

module _ (P : Program) (Ts : List Table) (S : IsTypedProgram P Ts) (Q : Program) (same : Q ≡ rewritten P Ts) (R : Rewrites P Ts Q) (first_added : ℕ)
    (code_added : (m : ℕ) (k : Method) → IsAdded Q first_added m → slice_get Q.methods m ≡ Some k → (k.catches ≡ []) ⊎ IsCopy P k)
    (ops_inner : (m : ℕ) (k : Method) → IsAdded Q first_added m → slice_get Q.methods m ≡ Some k → AllByRecursion (IsInnerOp Q first_added) k.ops) (B : Bounds) (m : ℕ) (k : Method) (original : method_at P m ≡ Some k) (static : k.dispatch ≡ dispatch.Static)
    (T : Table) (t : Tied P Ts S m (duplicate P m) k T) (args : List Value) (fit : AreArguments k.parameters args) (ws : Words) (σ : State) (represents : Represents P B.region.size ws σ) (own : σ.used B.region.number ≡ B.used)
    (wm : Method) (is : slice_get Q.methods m ≡ Some wm) (places : wm.places ≡ k.places) (locals : wm.locals ≡ k.places + spare_locals k.result) (id : ℕ) (retries : ℤ) (q z : ℕ) (W : IsWrapper wm k.places id (duplicate P m) retries k.parameters k.result q z)
    (uncounted : is_counted Q m ≡ false) (catch : catch_at Q m (q + 1) 0 ≡ Some z) (catch_other : (t : ℕ) → nat_eq t 0 ≡ false → catch_at Q m (q + 1) t ≡ Some (z + 4)) where
  abbrev slots : List Slot
  slots = flat_map slots_of args

  abbrev Sound : Run → Type 0
  Sound = IsSound P Q B m args ws σ

  abbrev fine : IsOfEnds Q B Sound
  fine = sound_of_ends P Q B m args ws σ

  abbrev Hold : ℕ → Run → Type 0
  Hold = Holds Q B Sound

  pub many : length slots ≡ k.places
  many = arguments_many k.parameters args fit ∙ (source_of P Ts S m k original).many

  abbrev pub SoundGoal : ℕ → Run → Type 0
  SoundGoal = Goal P Ts S Q same first_added code_added ops_inner B m args ws σ wm is k.places id (duplicate P m) retries k.parameters k.result q z W slots many uncounted catch catch_other

  abbrev pub is_goal : IsGoal P Ts S Q B m args ws σ k.result k.places q z slots first_added ops_inner uncounted catch catch_other SoundGoal SoundGoal
  is_goal = sound_goal P Ts S Q same first_added code_added ops_inner B m args ws σ wm is k.places id (duplicate P m) retries k.parameters k.result q z W slots many uncounted catch catch_other

  module _ (main : (n : ℕ) (fs gs : Frames) (τ : State) (M : Meter) (w r : Log) → Here P Ts S Q B m args ws σ fs τ M w r → tied.Run P Ts S m q k.result k.places slots fs gs → SoundGoal n (On Open gs M w r)) where
    abbrev Looping : ℕ → Type 0
    Looping = Loops P Ts S Q same first_added code_added ops_inner B m args ws σ wm is k.places id (duplicate P m) retries k.parameters k.result q z W slots many uncounted catch catch_other

    loop : (n : ℕ) → Looping n
    loop zero wl j set M = at_none Q B Sound fine _ (λ a. (far P Ts S Q R B m k original static T t args fit ws σ represents own wm is id retries q z W first_added ops_inner uncounted catch catch_other SoundGoal SoundGoal is_goal main (sound_ends P Ts S Q same R.types first_added code_added ops_inner B m args ws σ wm is k.places id (duplicate P m) retries k.parameters k.result q z W slots many uncounted catch catch_other represents own), λ t len made gs row asks is room. cc))
    loop (suc n) wl j set M =
        on_more Q B Sound fine 2 n _ _ (loop_first Q B m wm is k.places id (duplicate P m) retries k.parameters q z k.result W wl set.here (set_back B M) [] [] j)
        (on_reply Q B Sound fine n _ (λ a. (start, λ t len made gs row asks is room. cc)) (λ v. subst (Hold n) (sym (loop_begins Q B m wm is k.places id (duplicate P m) retries k.parameters q z k.result W wl set.here (set_back B M) [] [] j v)) (by (nat_lt M.tried (min (count_of retries) B.attempts)) (loop n))))
      where
        start : Matched P B m args [] ws σ
        start = far P Ts S Q R B m k original static T t args fit ws σ represents own wm is id retries q z W first_added ops_inner uncounted catch catch_other SoundGoal SoundGoal is_goal main (sound_ends P Ts S Q same R.types first_added code_added ops_inner B m args ws σ wm is k.places id (duplicate P m) retries k.parameters k.result q z W slots many uncounted catch catch_other represents own)

        by : (b : Bool) → Looping n → Hold n (begun b B (frame m 5 wl j ∷ []) (set_back B M))
        by false up = at_end Q B Sound fine n Spent (set_back B M) [] [] (λ a. (start, λ not_spent. absurd (not_spent refl)))
        by true up =
            begin_goal P Ts S Q R B m k original static T t args fit ws σ represents own wm is id retries q z W first_added ops_inner uncounted catch catch_other SoundGoal SoundGoal is_goal main (sound_ends P Ts S Q same R.types first_added code_added ops_inner B m args ws σ wm is k.places id (duplicate P m) retries k.parameters k.result q z W slots many uncounted catch catch_other represents own) wl j set
            (record (set_back B M) { turns = B.budget; tried = M.tried + 1 }) (record { turns = refl; used = refl }) n n (omega arith) up

    -- the wrapper's locals at first, and with the context
    abbrev l0 : List Slot
    l0 = slots ++ replicate (wm.locals - wm.places) Empty

    l0_many : length l0 ≡ k.places + spare_locals k.result
    l0_many = let a = length-append slots (replicate (wm.locals - wm.places) Empty) in let b = length_copies (wm.locals - wm.places) Empty in omega (arith, a, b, many, places, locals)

    some_spare : (g : Option VType) → 2 ≤ spare_locals g
    some_spare None = omega arith
    some_spare (Some type.Long) = omega arith
    some_spare (Some t) = omega arith

    set0 : IsSet k.result k.places slots (slice_set l0 k.places Context)
    set0 =
        let n = length-set l0 k.places Context in
        let s = some_spare k.result in
        let low : k.places < length l0 = omega (arith, l0_many, s) in
        record {
          here = get_set_same l0 k.places Context low;
          room = omega (arith, n, l0_many, s);
          wide = omega (arith, n, l0_many);
          args = λ j v e. let below = slice_get_within slots j v e in get_set_other l0 k.places j Context (λ d. omega (arith, d, below, many)) ∙ get_front slots (replicate (wm.locals - wm.places) Empty) j v e;
        }

    pub sound_runs : (vs : List Reply) → Sound (run Q B vs (run_start Q B m args))
    sound_runs vs = subst (λ (c : Run). Sound (run Q B vs c)) (sym start_is) (started (length vs) vs (omega arith))
      where
        M0 : Meter
        M0 = record { turns = 0; tried = 0; used = B.used; thrown = None }

        start_is : run_start Q B m args ≡ On Ready (frame m 0 l0 [] ∷ []) M0 [] []
        start_is = (let e = is in rw e refl)

        started : (n : ℕ) → Hold n (On Ready (frame m 0 l0 [] ∷ []) M0 [] [])
        started n =
            let low : nat_lt k.places (length l0) ≡ true = (let s = some_spare k.result in let n = l0_many in grind (arith, nat_tests)) in
            on_leads Q B Sound fine 2 n _ _ (starts_up Q B m wm is k.places id (duplicate P m) retries k.parameters q z k.result W (slice_set l0 k.places Context) set0.here M0 [] [] l0 low refl) (loop n _ [] set0 M0)
