-- An attempt begins: the wrapper calls the duplicate as the original is called.
use Rattle.std.proofs.Common.{◌≡◌, ℕ, ℤ, zero, suc, ◌+◌, ◌-◌, List, [], ◌∷◌, ◌++◌, length, Some, false, refl, sym, ap, subst, ◌∙◌, arith}
use Rattle.std.specs.Prelude.{slice_get, nat_eq, replicate}
use Rattle.std.specs.List.{AllByRecursion, flat_map}
use Rattle.jmodel.specs.declared.value.Value.{Value}
use Rattle.jmodel.specs.declared.value.Answer.{Answer}
use Rattle.jmodel.specs.declared.value.Answer.TheVariants.{Budget}
use Rattle.jmodel.specs.declared.typing.VType.{VType}
use Rattle.jmodel.specs.history.History.{Words}
use Rattle.objects.specs.declared.op.Slot.{Slot}
use Rattle.objects.specs.declared.op.Slot.TheVariants.{Context, Empty}
use Rattle.objects.specs.declared.op.Op.TheVariants.{Throw}
use Rattle.objects.specs.declared.op.Phase.TheVariants.{Open}
use Rattle.objects.specs.declared.op.Dispatch.TheVariants as dispatch
use Rattle.objects.specs.semantics.Value.{slots_of}
use Rattle.objects.specs.semantics.Program.{Method, Program, is_counted, method_at}
use Rattle.objects.specs.semantics.State.{State}
use Rattle.objects.specs.semantics.Step.{Frames, catch_at}
use Rattle.objects.specs.semantics.Call.{Direct, direct, call_start, turned}
use Rattle.objects.specs.semantics.Call as call
use Rattle.objects.specs.rewriting.Attempt.{Log, Bounds, Meter, Run, On, with_depth}
use Rattle.objects.specs.history.Meaning.{Represents}
use Rattle.objects.specs.typing.Typing.{Table}
use Rattle.objects.specs.laws.TypingLaw.{IsTypedProgram}
use Rattle.objects.specs.typing.Source.{AreArguments}
use Rattle.objects.specs.rewriting.Rewriting.{Typed, blocks, load_all, duplicate, duplicate_code}
use Rattle.objects.specs.laws.Law.{Matched, state_of}
use Rattle.objects.proofs.Frames.{frame}
use Rattle.objects.proofs.Inner.{IsAdded, IsInnerOp}
use Rattle.objects.proofs.Moved.{pushed_on}
use Rattle.objects.proofs.Wrapper.{IsWrapper, HaveAll, call_first, loads_args}
use Rattle.objects.proofs.Lost.{IsSet}
use Rattle.objects.proofs.Replies.{Leads}
use Rattle.objects.proofs.Places.{Rewrites}
use Rattle.objects.proofs.Selection.{last_is_code}
use Rattle.objects.proofs.Entered.{stands_first, arguments_many, takes_context}
use Rattle.objects.proofs.Safety.{IsFine, call_fine}
use Rattle.objects.proofs.TypedFrames.{AreTyped}
use Rattle.objects.proofs.Tied.{Tied, bottom, top, typed_code, source_of, there_of, depth_both, depth_callers}
use Rattle.objects.proofs.Tied as tied
use Rattle.objects.proofs.Goals.{Here, IsGoal, EndsAs, out}

-- locals that begin with the arguments
pub have_all : (Q : Program) (B : Bounds) (mn : ℕ) (wm : Method) (is : slice_get Q.methods mn ≡ Some wm) (c id dn : ℕ) (retries : ℤ) (takes : List VType) (q z : ℕ) (l : List Slot) (m : Meter) (w r : Log) (vs : List Slot) (i : ℕ)
    → ((j : ℕ) (v : Slot) → slice_get vs j ≡ Some v → slice_get l (i + j) ≡ Some v) → HaveAll Q B mn wm is c id dn retries takes q z l m w r i vs
have_all Q B mn wm is c id dn retries takes q z l m w r [] i h = tt
have_all Q B mn wm is c id dn retries takes q z l m w r (v ∷ vs) i h =
    let z0 : i + 0 ≡ i = omega arith in
    (ap (slice_get l) (sym z0) ∙ h 0 v refl, have_all Q B mn wm is c id dn retries takes q z l m w r vs (suc i) (λ j x e. let f : i + suc j ≡ suc i + j = omega arith in ap (slice_get l) (sym f) ∙ h (suc j) x e))

module _ (P : Program) (Ts : List Table) (S : IsTypedProgram P Ts) (Q : Program) (R : Rewrites P Ts Q) (B : Bounds) (m : ℕ) (k : Method) (original : method_at P m ≡ Some k) (static : k.dispatch ≡ dispatch.Static) (T : Table) (t : Tied P Ts S m (duplicate P m) k T)
    (args : List Value) (fit : AreArguments k.parameters args) (ws : Words) (σ : State) (represents : Represents P B.region.size ws σ) (own : σ.used B.region.number ≡ B.used)
    (wm : Method) (is : slice_get Q.methods m ≡ Some wm) (id : ℕ) (retries : ℤ) (q z : ℕ) (W : IsWrapper wm k.places id (duplicate P m) retries k.parameters k.result q z) (first_added : ℕ)
    (ops_inner : (m : ℕ) (k : Method) → IsAdded Q first_added m → slice_get Q.methods m ≡ Some k → AllByRecursion (IsInnerOp Q first_added) k.ops)
    (uncounted : is_counted Q m ≡ false) (catch : catch_at Q m (q + 1) 0 ≡ Some z) (catch_other : (t : ℕ) → nat_eq t 0 ≡ false → catch_at Q m (q + 1) t ≡ Some (z + 4)) (Goal Astray : ℕ → Run → Type 0)
    (goal : IsGoal P Ts S Q B m args ws σ k.result k.places q z (flat_map slots_of args) first_added ops_inner uncounted catch catch_other Goal Astray)
    (main : (n : ℕ) (fs gs : Frames) (τ : State) (M : Meter) (w r : Log) → Here P Ts S Q B m args ws σ fs τ M w r → tied.Run P Ts S m q k.result k.places (flat_map slots_of args) fs gs → Goal n (On Open gs M w r))
    (ends : (n N : ℕ) (x : Answer) (τ : State) (e : Run) → direct P B.region N (call_start P m args B.budget σ) ≡ call.Ended x τ
    → EndsAs P Ts S Q B m args ws σ k.result k.places q z (flat_map slots_of args) first_added ops_inner uncounted catch catch_other τ x e → Goal n e) where
  abbrev slots : List Slot
  slots = flat_map slots_of args

  abbrev xs : List Typed
  xs = typed_code P Ts S k T

  abbrev kd : Method
  kd = duplicate_code P k xs

  many : length slots ≡ k.places
  many = arguments_many k.parameters args fit ∙ (source_of P Ts S m k original).many

  -- the original's first frame
  abbrev l : List Slot
  l = slots ++ replicate (k.locals - k.places) Empty

  -- the duplicate's
  abbrev l' : List Slot
  l' = (slots ++ Context ∷ []) ++ replicate (kd.locals - kd.places) Empty

  starts_as : (b : ℕ) → call_start P m args b σ ≡ turned (frame m 0 l [] ∷ []) b σ
  starts_as b = (let e = original in rw e refl)

  -- the meter of an attempt that begins
  pub record IsFirst (M : Meter) : Type 0 where
    pub turns : M.turns ≡ B.budget
    pub used : M.used ≡ B.used

  pub far : Matched P B m args [] ws σ
  far = record { steps = 0; after = σ; comes = ap state_of (starts_as B.budget) ∙ started_state B.budget; represents = represents }
    where
      started_state : (b : ℕ) → state_of (turned (frame m 0 l [] ∷ []) b σ) ≡ Some σ
      started_state zero = refl
      started_state (suc b) = refl

  module _ (wl j : List Slot) (set : IsSet k.result k.places slots wl) (M : Meter) (f : IsFirst M) where
    abbrev gs : Frames
    gs = frame (duplicate P m) 0 l' [] ∷ frame m (q + 1) wl j ∷ []

    tie : tied.Run P Ts S m q k.result k.places slots (frame m 0 l [] ∷ []) gs
    tie = top m 0 (duplicate P m) k T l l' [] [] (frame m (q + 1) wl j ∷ []) t (stands_first P k T t.typing (source_of P Ts S m k original) slots many) (bottom wl j set)

    -- as the original is entered
    enters_goal : (n : ℕ) (b : ℕ) → B.budget ≡ b → Goal n (with_depth B false b gs M [] [])
    enters_goal n zero e = ends n 0 Budget σ _ (starts_as B.budget ∙ ap (λ (b : ℕ). turned (frame m 0 l [] ∷ []) b σ) e) (out Budget M [] refl tt)
    enters_goal n (suc b) e =
        let start : call_start P m args B.budget σ ≡ call.On (frame m 0 l [] ∷ []) b σ = starts_as B.budget ∙ ap (λ (b : ℕ). turned (frame m 0 l [] ∷ []) b σ) e in
        let typed : AreTyped P Ts S σ (frame m 0 l [] ∷ []) = (subst (IsFine P Ts S B.region.size) start (call_fine P Ts S B.region B.budget m k original static t.code args fit σ represents.heap)).0 in
        main n (frame m 0 l [] ∷ []) gs σ (record M { turns = b }) [] [] (record { reach = (0, start); stands = record { represents = represents; own = own ∙ sym f.used; others = λ region other. refl }; agrees = tt; typed = typed }) tie

    -- the call
    calls_goal : (n : ℕ) → Goal (suc n) (On Open (frame m (q + 1) wl (Context ∷ pushed_on slots j) ∷ []) M [] [])
    calls_goal n =
        let there = there_of P Ts S m q k.result k.places slots Q R uncounted m (duplicate P m) k T t in
        let taken = takes_context slots j k.places many in
        let code = last_is_code (blocks P k.places k.locals xs) Throw in
        goal.steps n [] [] _ (with_depth B false B.budget gs M [] []) (refl, refl) far tt (λ v. let turns = f.turns in simp (is, W.call.1.0, there, code, taken, W.counted, turns)) (enters_goal n B.budget refl)

    -- the arguments, and the context
    pub begin_goal : (n : ℕ) → Goal (suc (suc (suc n))) (On Open (frame m 6 wl j ∷ []) M [] [])
    begin_goal n =
        let has = have_all Q B m wm is k.places id (duplicate P m) retries k.parameters q z wl M [] [] slots 0 (λ i v e. let z0 : 0 + i ≡ i = omega arith in ap (slice_get wl) z0 ∙ set.args i v e) in
        let leads = loads_args Q B m wm is k.places id (duplicate P m) retries k.parameters q z wl M [] [] k.parameters args fit 0 6 j W.args has in
        by (length (load_all 0 k.parameters)) (subst (λ (i : ℕ). Leads Q B (length (load_all 0 k.parameters)) (On Open (frame m 6 wl j ∷ []) M [] []) (On Open (frame m i wl (pushed_on slots j) ∷ []) M [] [])) (sym W.place) leads)
      where
        loaded : (n : ℕ) → Goal (suc (suc n)) (On Open (frame m q wl (pushed_on slots j) ∷ []) M [] [])
        loaded n = goal.leads 0 (suc n) _ _ (call_first Q B m wm is k.places id (duplicate P m) retries k.parameters q z k.result W wl set.here M [] [] (pushed_on slots j)) (calls_goal n)

        by : (i : ℕ) → Leads Q B i (On Open (frame m 6 wl j ∷ []) M [] []) (On Open (frame m q wl (pushed_on slots j) ∷ []) M [] []) → Goal (suc (suc (suc n))) (On Open (frame m 6 wl j ∷ []) M [] [])
        by zero l = subst (Goal (suc (suc (suc n)))) (sym l) (loaded (suc n))
        by (suc i) l = goal.leads i (suc (suc n)) _ _ l (loaded n)
