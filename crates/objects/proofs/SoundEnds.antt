-- The end of an attempt: what the wrapper answers is how the original method ended.
use Rattle.std.proofs.Common.{◌≡◌, ◌≢◌, ℕ, ℤ, zero, suc, ◌+◌, ◌<◌, ◌≤◌, List, [], ◌∷◌, length, Option, Some, None, true, false, refl, sym, ap, subst, ◌∙◌, arith, ◌⊎◌}
use Rattle.std.specs.Prelude.{pos, slice_get, slice_set, nat_eq, nat_lt}
use Rattle.std.specs.List.{AllByRecursion}
use Rattle.std.proofs.lemmas.Bool.Decides.{nat_tests}
use Rattle.std.proofs.lemmas.List.{length-set}
use Rattle.jmodel.specs.declared.value.Value.{Value}
use Rattle.jmodel.specs.declared.value.Value.TheVariants as value
use Rattle.jmodel.specs.declared.value.Answer.{Answer}
use Rattle.jmodel.specs.declared.value.Answer.TheVariants.{Returned, Threw}
use Rattle.jmodel.specs.declared.typing.VType.{VType}
use Rattle.jmodel.specs.declared.typing.VType.TheVariants as type
use Rattle.objects.specs.declared.op.Sort.TheVariants as sort
use Rattle.jmodel.specs.history.History.{Words, overlaid}
use Rattle.objects.specs.declared.op.Slot.{Slot}
use Rattle.objects.specs.declared.op.Slot.TheVariants.{Int, Long, Second, Ref}
use Rattle.objects.specs.declared.op.Phase.TheVariants.{Open, Ready, Closed}
use Rattle.objects.specs.semantics.Value.{pushed}
use Rattle.objects.specs.semantics.Program.{Method, Program, is_counted, method_at, name_at}
use Rattle.objects.specs.semantics.Region.{Region}
use Rattle.objects.specs.semantics.State.{State}
use Rattle.objects.specs.semantics.Step.{Frames, catch_at, next, received, resumed}
use Rattle.objects.specs.semantics.Call.{Direct, direct, next_direct, starts, call_start, kept}
use Rattle.objects.specs.semantics.Call as call
use Rattle.objects.specs.rewriting.Attempt.{Log, Reply, Gives, Refuses, Bounds, Meter, Run, On, Ended, next_run, set_back, on_commit, class_of}
use Rattle.objects.specs.history.Meaning.{Represents}
use Rattle.objects.specs.typing.Typing.{Table}
use Rattle.objects.specs.laws.TypingLaw.{IsTypedProgram}
use Rattle.objects.specs.rewriting.Rewriting.{rewritten, result_sort, spare_locals}
use Rattle.objects.specs.laws.Law.{state_of}
use Rattle.objects.proofs.Frames.{frame}
use Rattle.objects.proofs.Moved.{get_set_same, get_set_other}
use Rattle.objects.proofs.Inner.{IsAdded, IsInnerOp}
use Rattle.objects.proofs.Added.{IsCopy}
use Rattle.objects.proofs.Alike.{IsGivenAs}
use Rattle.objects.proofs.Wrapper.{IsWrapper, HasValue, HasRoom, set_value, value_sort, throw_first, throw_commits, throw_again, throw_last, bare_first, bare_commits, bare_again, bare_last, end_first, end_commits, end_again, end_last}
use Rattle.objects.proofs.Lost.{IsSet, set_behind}
use Rattle.objects.proofs.Makes.{commit_synced}
use Rattle.objects.proofs.Replies.{Leads, IsOfEnds, Holds, on_leads, on_reply, at_end}
use Rattle.objects.proofs.Goals.{StandsFor, EndsAs, out, back, threw}
use Rattle.objects.proofs.Sound.{IsSound, SoFar, sound_of_ends, Goal}

-- A value of the result's sort is kept behind the context.
pub record IsStored (t : VType) (c : ℕ) (y : Value) (slots wl : List Slot) : Type 0 where
  pub room : HasRoom (c + 1) y wl
  pub kept : HasValue (c + 1) y (set_value (c + 1) y wl)
  pub set : IsSet (Some t) c slots (set_value (c + 1) y wl)

long_wide : (t : VType) (c n : ℕ) → result_sort t ≡ sort.Long → c + spare_locals (Some t) ≤ n → c + 1 + 1 < n
long_wide type.Long c n e wide = omega (arith, wide)
long_wide type.Int c n e wide = cc
long_wide t c n e wide = cc

pub value_stored : (t : VType) (c : ℕ) (y : Value) (slots wl : List Slot) → length slots ≡ c → result_sort t ≡ value_sort y → IsSet (Some t) c slots wl → IsStored t c y slots wl
value_stored t c (value.Int x) slots wl len e set = record {
  room = let g = set.room in grind (arith, nat_tests);
  kept = get_set_same wl (c + 1) (Int x) set.room;
  set = set_behind (Some t) c slots wl (c + 1) (Int x) len (omega arith) set;
}
value_stored t c (value.Ref o) slots wl len e set = record {
  room = let g = set.room in grind (arith, nat_tests);
  kept = get_set_same wl (c + 1) (Ref o) set.room;
  set = set_behind (Some t) c slots wl (c + 1) (Ref o) len (omega arith) set;
}
value_stored t c (value.Long x) slots wl len e set =
    let wide : c + 1 + 1 < length wl = long_wide t c (length wl) e set.wide in
    let n = length-set wl (c + 1) (Long x) in
    let wide2 : c + 1 + 1 < length (slice_set wl (c + 1) (Long x)) = omega (arith, wide, n) in
    record {
      room = grind (arith, nat_tests);
      kept = (get_set_other (slice_set wl (c + 1) (Long x)) (c + 1 + 1) (c + 1) Second (λ d. omega (arith, d)) ∙ get_set_same wl (c + 1) (Long x) set.room, get_set_same (slice_set wl (c + 1) (Long x)) (c + 1 + 1) Second wide2);
      set = set_behind (Some t) c slots _ (c + 1 + 1) Second len (omega arith) (set_behind (Some t) c slots wl (c + 1) (Long x) len (omega arith) set);
    }

-- a call that ends was begun
module _ (P : Program) (G : Region) where
  direct_none : (N : ℕ) (d : Direct) (x : Answer) (τ : State) → direct P G N d ≡ call.Ended x τ → d ≢ call.Stuck
  direct_none zero d x τ e s = let f : call.Stuck ≡ call.Ended x τ = sym s ∙ e in cc
  direct_none (suc N) d x τ e s = direct_none N (next_direct P G d) x τ e (ap (next_direct P G) s)

starts_at : (P : Program) (o : Option Method) (m : ℕ) (args : List Value) (budget : ℕ) (σ : State) → starts o m args budget σ ≢ call.Stuck → state_of (starts o m args budget σ) ≡ Some σ
starts_at P None m args budget σ h = absurd (h refl)
starts_at P (Some k) m args zero σ h = refl
starts_at P (Some k) m args (suc n) σ h = refl

module _ (P : Program) (Ts : List Table) (S : IsTypedProgram P Ts) (Q : Program) (same : Q ≡ rewritten P Ts) (types : Q.types ≡ P.types) (first_added : ℕ) (code_added : (m : ℕ) (k : Method) → IsAdded Q first_added m → slice_get Q.methods m ≡ Some k → (k.catches ≡ []) ⊎ IsCopy P k)
    (ops_inner : (m : ℕ) (k : Method) → IsAdded Q first_added m → slice_get Q.methods m ≡ Some k → AllByRecursion (IsInnerOp Q first_added) k.ops) (B : Bounds) (mn : ℕ) (args : List Value) (ws : Words) (σ : State)
    (wm : Method) (is : slice_get Q.methods mn ≡ Some wm) (c id dn : ℕ) (retries : ℤ) (takes : List VType) (gives : Option VType) (q z : ℕ) (W : IsWrapper wm c id dn retries takes gives q z) (slots : List Slot) (len : length slots ≡ c)
    (uncounted : is_counted Q mn ≡ false) (catch : catch_at Q mn (q + 1) 0 ≡ Some z) (catch_other : (t : ℕ) → nat_eq t 0 ≡ false → catch_at Q mn (q + 1) t ≡ Some (z + 4)) where
  abbrev G : Region
  G = B.region

  abbrev Sound : Run → Type 0
  Sound = IsSound P Q B mn args ws σ

  abbrev fine : IsOfEnds Q B Sound
  fine = sound_of_ends P Q B mn args ws σ

  abbrev Hold : ℕ → Run → Type 0
  Hold = Holds Q B Sound

  abbrev Looping : Option VType → ℕ → Type 0
  Looping g k = (wl j : List Slot) → IsSet g c slots wl → (m : Meter) → Hold k (On Ready (frame mn 2 wl j ∷ []) (set_back B m) [] [])

  abbrev first : Direct
  first = call_start P mn args B.budget σ

  -- the original ended, and the attempt stands for what it left
  record HasLeft (x : Answer) (τ : State) (M : Meter) (w : Log) : Type 0 where
    steps : ℕ
    ends : direct P G steps first ≡ call.Ended x τ
    stands : StandsFor P Ts S Q B mn args ws σ τ M.used w

  far : (x : Answer) (τ : State) (M : Meter) (w : Log) → HasLeft x τ M w → SoFar P Q B mn args ws σ w
  far x τ M w h = record { steps = h.steps; after = τ; comes = ap state_of h.ends; represents = h.stands.represents }

  -- so the call ends, where such an answer keeps the state
  over : (x : Answer) (τ : State) (M : Meter) (w r : Log) → HasLeft x τ M w → kept x σ τ ≡ τ → Sound (Ended x M w r)
  over x τ M w r h same a = (
    far x τ M w h,
    λ not_spent. record {
      steps = h.steps;
      last = τ;
      ends = h.ends;
      represents = subst (Represents P G.size (overlaid w ws)) (sym same) h.stands.represents;
      own = ap (λ (y : State). y.used G.number) same ∙ h.stands.own;
      others = λ region other. ap (λ (y : State). y.used region) same ∙ h.stands.others region other;
    },
  )

  module _ (x : Answer) (τ : State) (keeps : kept x σ τ ≡ τ) (M : Meter) (w r : Log) (h : HasLeft x τ M w) (k : ℕ) where
    -- behind the commit it ends so; where the commit fails, the wrapper tries again
    commits : (gs : Frames) (p : Frames) → ((v : Reply) → next_run Q B v (On Open p M w r) ≡ on_commit B v gs M w r) → (j : ℕ) → Leads Q B j (On Closed (resumed (Int (pos 1) ∷ []) gs) M w r) (Ended x M w r)
        → Hold k (On Ready (resumed (Int (pos 0) ∷ []) gs) (set_back B M) [] []) → Hold k (On Open p M w r)
    commits gs p asks j last again = on_reply Q B Sound fine k (On Open p M w r) (λ a. (far x τ M w h, commit_synced P Q B mn args σ p gs M w r asks)) (λ v. subst (Hold k) (sym (asks v)) (by v))
      where
        by : (v : Reply) → Hold k (on_commit B v gs M w r)
        by (Gives y) = on_leads Q B Sound fine j k _ _ last (at_end Q B Sound fine k x M w r (over x τ M w r h keeps))
        by Refuses = again

  none_ends : (W : IsWrapper wm c id dn retries takes None q z) (k : ℕ) → Looping None k → (τ : State) (wl j : List Slot) (M : Meter) (w r : Log) → IsSet None c slots wl → HasLeft (Returned None) τ M w
      → Hold k (On Open (frame mn (q + 1 + 1) wl j ∷ []) M w r)
  none_ends W k loop τ wl j M w r set h =
      on_leads Q B Sound fine 1 k _ _ (bare_first Q B mn wm is c id dn retries takes q z W wl set.here M w r j)
      (commits (Returned None) τ refl M w r h k (frame mn (q + 1 + 1 + 1) wl j ∷ []) _ (bare_commits Q B mn wm is c id dn retries takes q z W wl set.here M w r j) 2
      (bare_last Q B mn wm is c id dn retries takes q z W wl set.here M w r j)
      (on_leads Q B Sound fine 1 k _ _ (bare_again Q B mn wm is c id dn retries takes q z W wl set.here (set_back B M) [] [] j) (loop wl j set M)))

  value_ends : (t : VType) (W : IsWrapper wm c id dn retries takes (Some t) q z) (k : ℕ) → Looping (Some t) k → (y : Value) → result_sort t ≡ value_sort y → (τ : State) (wl j : List Slot) (M : Meter) (w r : Log) → IsSet (Some t) c slots wl
      → HasLeft (Returned (Some y)) τ M w → Hold k (On Open (frame mn (q + 1 + 1) wl (pushed y j) ∷ []) M w r)
  value_ends t W k loop y sort τ wl j M w r set h =
      let s = value_stored t c y slots wl len sort set in
      let l2 = set_value (c + 1) y wl in
      on_leads Q B Sound fine 2 k _ _ (end_first Q B mn wm is c id dn retries takes q z t W wl M w r j y l2 sort s.room refl s.set.here)
      (commits (Returned (Some y)) τ refl M w r h k (frame mn (q + 1 + 1 + 1 + 1) l2 j ∷ []) _ (end_commits Q B mn wm is c id dn retries takes q z t W l2 M w r j) 3
      (end_last Q B mn wm is c id dn retries takes q z t W l2 M w r j y sort s.kept)
      (on_leads Q B Sound fine 1 k _ _ (end_again Q B mn wm is c id dn retries takes q z t W l2 (set_back B M) [] [] j) (loop l2 j s.set M)))

  given_ends : (g : Option VType) (W : IsWrapper wm c id dn retries takes g q z) (k : ℕ) → Looping g k → (v : Option Value) → IsGivenAs g v → (τ : State) (wl j : List Slot) (M : Meter) (w r : Log) → IsSet g c slots wl → HasLeft (Returned v) τ M w
      → Hold k (On Open (next (received v (frame mn (q + 1) wl j)) ∷ []) M w r)
  given_ends None W k loop None ok τ wl j M w r set h = none_ends W k loop τ wl j M w r set h
  given_ends (Some t) W k loop (Some y) ok τ wl j M w r set h = value_ends t W k loop y ok τ wl j M w r set h
  given_ends None W k loop (Some y) ok τ wl j M w r set h = absurd ok
  given_ends (Some t) W k loop None ok τ wl j M w r set h = absurd ok

  threw_ends : (k : ℕ) → Looping gives k → (class : List ℕ) (o t : ℕ) (τ : State) (wl : List Slot) (M : Meter) (w r : Log) → IsSet gives c slots wl → M.thrown ≡ Some (record { reference = suc o; type = t }) → name_at P t ≡ Some class
      → HasLeft (Threw class) τ M w → Hold k (On Open (frame mn (z + 4) wl (Ref (suc o) ∷ []) ∷ []) M w r)
  threw_ends k loop class o t τ wl M w r set thrown named h =
      let l2 = slice_set wl (c + 1) (Ref (suc o)) in
      let room : nat_lt (c + 1) (length wl) ≡ true = let g = set.room in grind (arith, nat_tests) in
      let g = set_behind gives c slots wl (c + 1) (Ref (suc o)) len (omega arith) set in
      let kept = get_set_same wl (c + 1) (Ref (suc o)) set.room in
      let named2 : name_at Q t ≡ Some class = (let e = types in ap (λ (ts : _). name_at (record P { types = ts }) t) e ∙ named) in
      let same_ref : nat_eq (suc o) (suc o) ≡ true = grind (arith, nat_tests) in
      let class2 : class_of Q M.thrown (suc o) ≡ Some class = rw (thrown, same_ref) named2 in
      on_leads Q B Sound fine 2 k _ _ (throw_first Q B mn wm is c id dn retries takes q z gives W wl l2 (suc o) room refl g.here kept M w r)
      (commits (Threw class) τ refl M w r h k (frame mn (z + 4 + 1 + 1) l2 [] ∷ []) _ (throw_commits Q B mn wm is c id dn retries takes q z gives W wl l2 (suc o) room refl g.here kept M w r) 3
      (throw_last Q B mn wm is c id dn retries takes q z gives W wl l2 (suc o) room refl g.here kept M w r o refl class class2)
      (on_leads Q B Sound fine 1 k _ _ (throw_again Q B mn wm is c id dn retries takes q z gives W wl l2 (suc o) room refl g.here kept (set_back B M) [] []) (loop l2 [] g M)))

  -- from each end
  pub sound_ends : (represents : Represents P G.size ws σ) → σ.used G.number ≡ B.used → (n N : ℕ) (x : Answer) (τ : State) (e : Run) → direct P G N first ≡ call.Ended x τ
      → EndsAs P Ts S Q B mn args ws σ gives c q z slots first_added ops_inner uncounted catch catch_other τ x e
      → Goal P Ts S Q same first_added code_added ops_inner B mn args ws σ wm is c id dn retries takes gives q z W slots len uncounted catch catch_other n e
  sound_ends represents own n N x τ e ends (out x2 M r keeps agrees) k le loop =
      at_end Q B Sound fine k x (set_back B M) [] r (λ a. (
        record { steps = 0; after = σ; comes = start_state; represents = represents },
        λ not_spent. record {
          steps = N;
          last = τ;
          ends = ends;
          represents = subst (Represents P G.size ws) (sym keeps) represents;
          own = ap (λ (y : State). y.used G.number) keeps ∙ own;
          others = λ region other. ap (λ (y : State). y.used region) keeps;
        },
      ))
    where
      start_state : state_of first ≡ Some σ
      start_state = starts_at P (method_at P mn) mn args B.budget σ (direct_none P G N first x τ ends)
  sound_ends represents own n N x τ e ends (back v wl j M w r set ok stands agrees) k le loop =
      given_ends gives W k loop v ok τ wl j M w r set (record { steps = N; ends = ends; stands = stands })
  sound_ends represents own n N x τ e ends (threw class o t wl M w r set thrown named stands agrees) k le loop =
      threw_ends k loop class o t τ wl M w r set thrown named (record { steps = N; ends = ends; stands = stands })
