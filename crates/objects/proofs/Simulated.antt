-- A wrapper's call over each engine, and the original method's call from a state.
use Rattle.std.proofs.Common.{◌≡◌, ℕ, ℤ, zero, suc, ◌+◌, ◌≤◌, List, [], ◌∷◌, length, Option, Some, None, true, false, refl, sym, ap, ◌∙◌, arith, ◌⊎◌}
use Rattle.std.specs.Prelude.{slice_get, nat_eq, option_map}
use Rattle.std.specs.List.{AllByRecursion, flat_map}
use Rattle.jmodel.specs.declared.value.Value.{Value}
use Rattle.jmodel.specs.history.History.{Words}
use Rattle.objects.specs.declared.op.Slot.{Slot}
use Rattle.objects.specs.declared.op.Op.{Op}
use Rattle.objects.specs.declared.op.Dispatch.TheVariants as dispatch
use Rattle.objects.specs.declared.op.Phase.TheVariants.{Open}
use Rattle.objects.specs.semantics.Value.{slots_of}
use Rattle.objects.specs.semantics.Program.{Method, Program, is_counted, is_counted_in, method_at, has_code, is_code, selected}
use Rattle.objects.specs.semantics.State.{State}
use Rattle.objects.specs.semantics.Step.{Frames, catch_at}
use Rattle.objects.specs.rewriting.Attempt.{Log, Reply, Bounds, Meter, Run, On, run, run_start}
use Rattle.objects.specs.history.Meaning.{Represents}
use Rattle.objects.specs.typing.Typing.{Table}
use Rattle.objects.specs.laws.TypingLaw.{IsTypedProgram, HasTyping}
use Rattle.objects.specs.typing.Source.{HasCode, AreArguments}
use Rattle.objects.specs.rewriting.Rewriting.{rewritten, duplicate, wrapper_method, conflict_at}
use Rattle.objects.proofs.Inner.{IsAdded, IsInnerOp}
use Rattle.objects.proofs.Added.{IsCopy, added_at}
use Rattle.objects.proofs.Selection.{duplicate_is, selected_moved}
use Rattle.objects.proofs.Wrapper.{IsWrapper, wrapper_is, call_place}
use Rattle.objects.proofs.Places.{Rewrites, rewrites}
use Rattle.objects.proofs.Tied.{Tied}
use Rattle.objects.proofs.Tied as tied
use Rattle.objects.proofs.Replies.{at_none}
use Rattle.objects.proofs.Goals.{Here, IsGoal, so_far}
use Rattle.objects.proofs.Sound.{IsSound, sound_of_ends}
use Rattle.objects.proofs.SoundEnds.{sound_ends}
use Rattle.objects.proofs.Walking.{walks}
use Rattle.objects.proofs.Makes.{IsSynced}
use Rattle.objects.proofs.Syncing.{SyncGoal, SyncAstray, sync_goal, synced_here}
use Rattle.objects.proofs.Served.{all_served}
use Rattle.objects.proofs.Looping.{SoundGoal, is_goal, many, sound_runs}

-- what is selected for a duplicate was added
pub selects_added : (P : Program) (Ts : List Table) → IsTypedProgram P Ts → (t m to : ℕ) (k : Method) → method_at P m ≡ Some k → selected (rewritten P Ts) t (duplicate P m) ≡ Some to → length P.methods ≤ to
selects_added P Ts S t m to k there e = by (selected P t m) (sym (selected_moved P Ts S.source.names t m k there) ∙ e)
  where
    by : (o : Option ℕ) → option_map (duplicate P) o ≡ Some to → length P.methods ≤ to
    by None e = cc
    by (Some i) e = let f : duplicate P i ≡ to = cc in omega (arith, f)

module _ (P : Program) (Ts : List Table) (S : IsTypedProgram P Ts) (B : Bounds) (m : ℕ) (k : Method) (n : ℤ) (there : slice_get P.methods m ≡ Some k) (static : k.dispatch ≡ dispatch.Static) (marked : k.retries ≡ Some n) where
  abbrev pub Q : Program
  Q = rewritten P Ts

  abbrev first : ℕ
  first = length P.methods

  abbrev R : Rewrites P Ts Q
  R = rewrites P Ts

  abbrev id : ℕ
  id = (R.wrapper m k n there marked).0

  abbrev wm : Method
  wm = wrapper_method P id m n k

  pub wrapper_there : slice_get Q.methods m ≡ Some wm
  wrapper_there = (R.wrapper m k n there marked).1

  abbrev q : ℕ
  q = call_place k

  abbrev z : ℕ
  z = conflict_at k

  pub is_wrapper : IsWrapper wm k.places id (duplicate P m) n k.parameters k.result q z
  is_wrapper = wrapper_is P id m n k static

  -- a marked method has code
  pub code : has_code (Some k) ≡ true
  code = by k.ops (tied.source_of P Ts S m k there).code
    where
      by : (os : List Op) → HasCode os k → is_code os ≡ true
      by [] h = let fall : Some n ≡ None = sym marked ∙ h.1 in cc
      by (o ∷ os) h = refl

  pub has_typing : HasTyping P Ts m k
  has_typing = S.typed m k there code

  pub is_tied : Tied P Ts S m (duplicate P m) k has_typing.table
  is_tied = record {
    is = there;
    code = code;
    table = has_typing.there;
    typing = has_typing.typing;
    dup = refl;
  }

  pub code_added : (i : ℕ) (o : Method) → IsAdded Q first i → slice_get Q.methods i ≡ Some o → (o.catches ≡ []) ⊎ IsCopy P o
  code_added i o low e = (added_at P Ts S.source (selects_added P Ts S) i o low e).entries

  pub ops_inner : (i : ℕ) (o : Method) → IsAdded Q first i → slice_get Q.methods i ≡ Some o → AllByRecursion (IsInnerOp Q first) o.ops
  ops_inner i o low e = (added_at P Ts S.source (selects_added P Ts S) i o low e).ops

  pub uncounted : is_counted Q m ≡ false
  uncounted = ap is_counted_in wrapper_there

  pub catch : catch_at Q m (q + 1) 0 ≡ Some z
  catch = (let e = wrapper_there in rw e (is_wrapper.catch Q))

  pub catch_other : (t : ℕ) → nat_eq t 0 ≡ false → catch_at Q m (q + 1) t ≡ Some (z + 4)
  catch_other t other = (let e = wrapper_there in rw e (is_wrapper.catch_other Q t other))

  module _ (args : List Value) (fit : AreArguments k.parameters args) (ws : Words) (σ : State) (represents : Represents P B.region.size ws σ) (own : σ.used B.region.number ≡ B.used) where
    abbrev slots : List Slot
    slots = flat_map slots_of args

    abbrev Goal : ℕ → Run → Type 0
    Goal = SoundGoal P Ts S Q refl R first code_added ops_inner B m k there static has_typing.table is_tied args fit ws σ represents own wm wrapper_there refl refl id n q z is_wrapper uncounted catch catch_other

    abbrev goal : IsGoal P Ts S Q B m args ws σ k.result k.places q z slots first ops_inner uncounted catch catch_other Goal Goal
    goal = is_goal P Ts S Q refl R first code_added ops_inner B m k there static has_typing.table is_tied args fit ws σ represents own wm wrapper_there refl refl id n q z is_wrapper uncounted catch catch_other

    abbrev Sound : Run → Type 0
    Sound = IsSound P Q B m args ws σ

    synced : (fs gs : Frames) (τ : State) (M : Meter) (w r : Log) → Here P Ts S Q B m args ws σ fs τ M w r → tied.Run P Ts S m q k.result k.places slots fs gs → IsSynced P Q B m args σ (On Open gs M w r)
    synced =
        synced_here P Ts S Q B m args ws σ k.result k.places q z slots first ops_inner uncounted catch catch_other
        (all_served P Ts S Q R (duplicate_is P Ts) (selected_moved P Ts S.source.names) B m args ws σ k.result k.places q z slots first ops_inner uncounted catch catch_other
        (SyncGoal P Ts S Q B m args ws σ k.result k.places q z slots first ops_inner uncounted catch catch_other) (SyncAstray P Ts S Q B m args ws σ k.result k.places q z slots first ops_inner uncounted catch catch_other)
        (sync_goal P Ts S Q B m args ws σ k.result k.places q z slots first ops_inner uncounted catch catch_other) (omega arith))

    none : (fs gs : Frames) (τ : State) (M : Meter) (w r : Log) → Here P Ts S Q B m args ws σ fs τ M w r → tied.Run P Ts S m q k.result k.places slots fs gs → Goal 0 (On Open gs M w r)
    none fs gs τ M w r here tie zero le loop = at_none Q B Sound (sound_of_ends P Q B m args ws σ) (On Open gs M w r) (λ a. (so_far P Ts S Q B m args ws σ fs τ M w r here, synced fs gs τ M w r here tie))
    none fs gs τ M w r here tie (suc i) le loop = absurd (omega (arith, le))

    main : (i : ℕ) (fs gs : Frames) (τ : State) (M : Meter) (w r : Log) → Here P Ts S Q B m args ws σ fs τ M w r → tied.Run P Ts S m q k.result k.places slots fs gs → Goal i (On Open gs M w r)
    main =
        walks P Ts S Q B m args ws σ k.result k.places q z slots first ops_inner uncounted catch catch_other Goal
        (all_served P Ts S Q R (duplicate_is P Ts) (selected_moved P Ts S.source.names) B m args ws σ k.result k.places q z slots first ops_inner uncounted catch catch_other Goal Goal goal (omega arith)) none
        (sound_ends P Ts S Q refl R.types first code_added ops_inner B m args ws σ wm wrapper_there k.places id (duplicate P m) n k.parameters k.result q z is_wrapper slots
        (many P Ts S Q refl R first code_added ops_inner B m k there static has_typing.table is_tied args fit ws σ represents own wm wrapper_there refl refl id n q z is_wrapper uncounted catch catch_other) uncounted catch catch_other represents own)

    -- what holds after all replies
    pub simulated : (vs : List Reply) → IsSound P Q B m args ws σ (run Q B vs (run_start Q B m args))
    simulated = sound_runs P Ts S Q refl R first code_added ops_inner B m k there static has_typing.table is_tied args fit ws σ represents own wm wrapper_there refl refl id n q z is_wrapper uncounted catch catch_other main
