-- What an attempt shows of the original method's call, where its reads are what words have: a goal that each step of the rewritten code passes on.
use Rattle.std.proofs.Common.{◌≡◌, ◌≢◌, ℕ, ℤ, zero, suc, ◌+◌, ◌≤◌, List, [], ◌∷◌, length, Option, Some, None, Bool, true, false, refl, sym, subst, ◌∙◌, arith, ◌⊎◌}
use Rattle.std.specs.Prelude.{slice_get, nat_eq}
use Rattle.std.specs.List.{AllByRecursion}
use Rattle.std.proofs.lemmas.Bool.Decides.{nat_tests}
use Rattle.jmodel.specs.declared.value.Value.{Value}
use Rattle.jmodel.specs.declared.value.Answer.{Answer}
use Rattle.jmodel.specs.declared.value.Answer.TheVariants.{Spent}
use Rattle.jmodel.specs.declared.typing.VType.{VType}
use Rattle.jmodel.specs.declared.access.Access.{Access}
use Rattle.jmodel.specs.history.History.{Words, overlaid, Agrees}
use Rattle.objects.specs.declared.op.Slot.{Slot}
use Rattle.objects.specs.declared.op.Phase.TheVariants.{Ready}
use Rattle.objects.specs.semantics.Program.{Method, Program, is_counted}
use Rattle.objects.specs.semantics.Region.{Region}
use Rattle.objects.specs.semantics.State.{State}
use Rattle.objects.specs.semantics.Step.{Frames, catch_at, unwinds}
use Rattle.objects.specs.semantics.Call.{Direct, direct, call_start, kept}
use Rattle.objects.specs.semantics.Call as call
use Rattle.objects.specs.rewriting.Attempt.{Log, access, answered, written, recorded, Reply, Gives, Refuses, Bounds, Meter, Run, On, Asking, Ended, Stuck, next_run, unwound, set_back}
use Rattle.objects.specs.history.Meaning.{Represents}
use Rattle.objects.specs.typing.Typing.{Table}
use Rattle.objects.specs.laws.TypingLaw.{IsTypedProgram}
use Rattle.objects.specs.rewriting.Rewriting.{rewritten}
use Rattle.objects.specs.laws.Law.{IsOnWay, Matched}
use Rattle.objects.proofs.Frames.{frame}
use Rattle.objects.proofs.Inner.{IsAdded, IsInnerOp}
use Rattle.objects.proofs.Added.{IsCopy}
use Rattle.objects.proofs.Above.{AboveCall}
use Rattle.objects.proofs.Wrapper.{IsWrapper}
use Rattle.objects.proofs.Lost.{IsSet, reads_of, lost, follows_lost, throws_lost}
use Rattle.objects.proofs.Refusing.{refuses}
use Rattle.objects.proofs.Replies.{Leads, SameLogs, IsOfEnds, Holds, on_more, on_reply_more, at_none}
use Rattle.objects.proofs.Makes.{IsSynced, read_in, steps_synced, leads_synced}
use Rattle.objects.proofs.Goals.{IsAstray, IsGoal}

module _ (P : Program) (Q : Program) (B : Bounds) (mn : ℕ) (args : List Value) (ws : Words) (σ : State) where
  abbrev G : Region
  G = B.region

  -- the original method, run alone, ends so
  pub record HasEnded (x : Answer) (M : Meter) (w : Log) : Type 0 where
    pub steps : ℕ
    pub last : State
    pub ends : direct P G steps (call_start P mn args B.budget σ) ≡ call.Ended x last
    pub represents : Represents P G.size (overlaid w ws) (kept x σ last)
    pub own : (kept x σ last).used G.number ≡ M.used
    pub others : (region : ℕ) → region ≢ G.number → (kept x σ last).used region ≡ σ.used region

  abbrev pub SoFar : Log → Type 0
  SoFar w = Matched P B mn args w ws σ

  abbrev pub Synced : Run → Type 0
  Synced = IsSynced P Q B mn args σ

  abbrev pub Good : Run → Type 0
  Good (On p fs M w r) = SoFar w × Synced (On p fs M w r)
  Good (Asking a fs M w r) = SoFar w × Synced (Asking a fs M w r)
  Good (Ended x M w r) = SoFar w × (x ≢ Spent → HasEnded x M w)
  Good (Stuck r) = ⊥

  abbrev pub IsSound : Run → Type 0
  IsSound c = Agrees ws (reads_of c) → Good c

  -- a run that is sound isn't stuck
  pub not_stuck : (d : Run) (r : Log) → Agrees ws r → IsSound d → d ≢ Stuck r
  not_stuck d r a h e = subst IsSound e h a

  same_logs : (j : ℕ) (c d : Run) → SameLogs c d → ((v : Reply) → Leads Q B j (next_run Q B v c) d) → IsSound d → IsSound c
  same_logs j (On p fs M w r) (On p2 gs N x s) e l h a =
      (subst SoFar (sym e.0) (h (subst (Agrees ws) e.1 a)).0, leads_synced P Q B mn args σ j (On p fs M w r) (On p2 gs N x s) l (not_stuck (On p2 gs N x s) r a h))
  same_logs j (On p fs M w r) (Ended v N x s) e l h a =
      (subst SoFar (sym e.0) (h (subst (Agrees ws) e.1 a)).0, leads_synced P Q B mn args σ j (On p fs M w r) (Ended v N x s) l (not_stuck (Ended v N x s) r a h))
  same_logs j (On p fs M w r) (Stuck s) e l h a = absurd (h (subst (Agrees ws) e a))
  same_logs j (Asking v fs M w r) (On p2 gs N x s) e l h a =
      (subst SoFar (sym e.0) (h (subst (Agrees ws) e.1 a)).0, leads_synced P Q B mn args σ j (Asking v fs M w r) (On p2 gs N x s) l (not_stuck (On p2 gs N x s) r a h))
  same_logs j c d e l h a = absurd e

  pub sound_of_ends : IsOfEnds Q B IsSound
  sound_of_ends = record { same = same_logs }

  pub grows : (l : Access) (r : Log) → IsAstray ws r → IsAstray ws (l ∷ r)
  grows l r gone a = gone a.1

  pub vacuous : (c : Run) → IsAstray ws (reads_of c) → IsSound c
  vacuous c gone a = absurd (gone a)

  pub on_way_sound : (w r : Log) (d : Run) → IsOnWay w r d → SoFar w → Synced d → IsSound d
  on_way_sound w r (On p fs M v q) e h s a = (subst SoFar e.0 h, s)
  on_way_sound w r (Asking x fs M v q) e h s a = (subst SoFar e.0 h, s)
  on_way_sound w r d e h s a = absurd e

  pub read_on_way : (w r : Log) (d : Run) → IsOnWay w r d → read_in d ≡ r
  read_on_way w r (On p fs M v q) e = sym e.1
  read_on_way w r (Asking x fs M v q) e = sym e.1
  read_on_way w r d e = absurd e

module _ (P : Program) (Ts : List Table) (S : IsTypedProgram P Ts) (Q : Program) (same : Q ≡ rewritten P Ts) (first_added : ℕ) (code_added : (m : ℕ) (k : Method) → IsAdded Q first_added m → slice_get Q.methods m ≡ Some k → (k.catches ≡ []) ⊎ IsCopy P k)
    (ops_inner : (m : ℕ) (k : Method) → IsAdded Q first_added m → slice_get Q.methods m ≡ Some k → AllByRecursion (IsInnerOp Q first_added) k.ops) (B : Bounds) (mn : ℕ) (args : List Value) (ws : Words) (σ : State)
    (wm : Method) (is : slice_get Q.methods mn ≡ Some wm) (c id dn : ℕ) (retries : ℤ) (takes : List VType) (gives : Option VType) (q z : ℕ) (W : IsWrapper wm c id dn retries takes gives q z) (slots : List Slot) (len : length slots ≡ c)
    (uncounted : is_counted Q mn ≡ false) (catch : catch_at Q mn (q + 1) 0 ≡ Some z) (catch_other : (t : ℕ) → nat_eq t 0 ≡ false → catch_at Q mn (q + 1) t ≡ Some (z + 4)) where
  abbrev Sound : Run → Type 0
  Sound = IsSound P Q B mn args ws σ

  abbrev fine : IsOfEnds Q B Sound
  fine = sound_of_ends P Q B mn args ws σ

  abbrev pub Hold : ℕ → Run → Type 0
  Hold = Holds Q B Sound

  -- the wrapper's loop
  abbrev pub Loops : ℕ → Type 0
  Loops n = (wl j : List Slot) → IsSet gives c slots wl → (m : Meter) → Hold n (On Ready (frame mn 2 wl j ∷ []) (set_back B m) [] [])

  -- what holds after up to n replies, where it does so of the loop
  abbrev pub Goal : ℕ → Run → Type 0
  Goal n d = (k : ℕ) → k ≤ n → Loops k → Hold k d

  fewer : (n : ℕ) (d : Run) → Hold (suc n) d → Hold n d
  fewer n d h vs le = let le' : length vs ≤ suc n = omega (arith, le) in h vs le'

  pub loops_less : (n : ℕ) → Loops (suc n) → Loops n
  loops_less n loop wl j h m = fewer n _ (loop wl j h m)

  loops_none : (n : ℕ) → Loops n → Loops 0
  loops_none zero loop = loop
  loops_none (suc n) loop = loops_none n (loops_less n loop)

  none : (n : ℕ) (d : Run) → Hold n d → Sound d
  none n d h = h [] (omega arith)

  pub goal_now : (n : ℕ) (d : Run) → Goal n d → Loops 0 → Sound d
  goal_now n d g loop = none 0 d (g 0 (omega arith) loop)

  leads_on : (j n : ℕ) (d e : Run) → Leads Q B (suc j) d e → Goal n e → Goal (suc n) d
  leads_on j n d e l g zero le loop = at_none Q B Sound fine d (fine.same j d e l.0 l.1 (goal_now n e g loop))
  leads_on j n d e l g (suc k) le loop = on_more Q B Sound fine j k d e l (g k (omega (arith, le)) (loops_less k loop))

  abbrev gone_sound : (d : Run) → IsAstray ws (reads_of d) → Sound d
  gone_sound = vacuous P Q B mn args ws σ

  -- where every reply leads on to the same
  steps_on : (n : ℕ) (w r : Log) (d e : Run) → IsOnWay w r d → SoFar P Q B mn args ws σ w → Agrees ws r → ((v : Reply) → next_run Q B v d ≡ e) → Goal n e → Goal (suc n) d
  steps_on n w r d e way far agrees step g k le loop = by k le loop
    where
      now : (k : ℕ) → Loops k → Sound d
      now k loop =
          let same = read_on_way P Q B mn args ws σ w r d way in
          let other = not_stuck P Q B mn args ws σ e (read_in d) (subst (Agrees ws) (sym same) agrees) (goal_now n e g (loops_none k loop)) in
          on_way_sound P Q B mn args ws σ w r d way far (steps_synced P Q B mn args σ d e step other)

      by : (k : ℕ) → k ≤ suc n → Loops k → Hold k d
      by zero le loop = at_none Q B Sound fine d (now 0 loop)
      by (suc k) le loop = on_reply_more Q B Sound fine k d (now (suc k) loop) (λ v. subst (Hold k) (sym (step v)) (g k (omega (arith, le)) (loops_less k loop)))

  module _ (w r : Log) (d : Run) (way : IsOnWay w r d) (synced : IsSynced P Q B mn args σ d) (far : SoFar P Q B mn args ws σ w) where
    now : Sound d
    now = on_way_sound P Q B mn args ws σ w r d way far synced

    module _ (wl : List Slot) (gs : Frames) (M : Meter) (set : IsSet gives c slots wl) (above : AboveCall Q first_added mn q wl gs) (refused : next_run Q B Refuses d ≡ unwound (unwinds Q 1 0 gs) M w r) where
      goes_back : (k : ℕ) → Loops k → Hold k (next_run Q B Refuses d)
      goes_back k loop =
          subst (Hold k) (sym refused) (refuses P Ts Q same first_added code_added B mn wm is c id dn retries takes gives q z W wl set.here Sound fine k w r (λ fs m a. (far, λ t len made gs row asks is room. cc)) (λ j m. loop wl j set m) gs above M)

      looks_on : (n : ℕ) (e : Run) → ((x : ℕ) → next_run Q B (Gives x) d ≡ e) → Goal n e → Goal (suc n) d
      looks_on n e step g zero le loop = at_none Q B Sound fine d now
      looks_on n e step g (suc k) le loop = on_reply_more Q B Sound fine k d now by
        where
          by : (v : Reply) → Hold k (next_run Q B v d)
          by Refuses = goes_back k (loops_less k loop)
          by (Gives x) = subst (Hold k) (sym (step x)) (g k (omega (arith, le)) (loops_less k loop))

      reads_on : (n : ℕ) (a : ℕ) (next : ℕ → Log → Run) → Agrees ws r → ((x : ℕ) → next_run Q B (Gives x) d ≡ next (answered w a x) (recorded (written w a) a x r))
          → ((y : ℕ) (s : Log) → IsAstray ws s → Goal n (next y s)) → ((s : Log) → Agrees ws s → Goal n (next (overlaid w ws a) s)) → Goal (suc n) d
      reads_on n a next agrees step astray g zero le loop = at_none Q B Sound fine d now
      reads_on n a next agrees step astray g (suc k) le loop = on_reply_more Q B Sound fine k d now by
        where
          little : k ≤ n
          little = omega (arith, le)

          before : Loops k
          before = loops_less k loop

          told : (o : Option ℕ) (x : ℕ) → written w a ≡ o → Hold k (next (answered w a x) (recorded o a x r))
          told (Some y) x e =
              let same_word : answered w a x ≡ overlaid w ws a = (let f = e in rw f refl) in
              subst (λ (y : ℕ). Hold k (next y r)) (sym same_word) (g r agrees k little before)
          told None x e = at_word (nat_eq (ws a) x) refl
            where
              same_word : answered w a x ≡ x
              same_word = (let f = e in rw f refl)

              over : overlaid w ws a ≡ ws a
              over = (let f = e in rw f refl)

              at_word : (b : Bool) → nat_eq (ws a) x ≡ b → Hold k (next (answered w a x) (access a x ∷ r))
              at_word true f =
                  let there : ws a ≡ x = grind (arith, nat_tests) in
                  subst (λ (y : ℕ). Hold k (next y (access a x ∷ r))) (over ∙ there ∙ sym same_word) (g (access a x ∷ r) (there, agrees) k little before)
              at_word false f =
                  let other : ws a ≢ x = λ e. grind (arith, nat_tests) in
                  astray (answered w a x) (access a x ∷ r) (λ h. other h.0) k little before

          by : (v : Reply) → Hold k (next_run Q B v d)
          by Refuses = goes_back k before
          by (Gives x) = subst (Hold k) (sym (step x)) (told (written w a) x refl)

  abbrev refuses_lost : (n : ℕ) (w r : Log) → IsAstray ws r → Loops n → (wl : List Slot) → IsSet gives c slots wl → (fs : Frames) → AboveCall Q first_added mn q wl fs → (m : Meter) → Hold n (unwound (unwinds Q 1 0 fs) m w r)
  refuses_lost n w r gone loop wl set fs above m =
      refuses P Ts Q same first_added code_added B mn wm is c id dn retries takes gives q z W wl set.here Sound fine n w r (λ gs N a. absurd (gone a)) (λ j N. loop wl j set N) fs above m

  pub sound_goal : IsGoal P Ts S Q B mn args ws σ gives c q z slots first_added ops_inner uncounted catch catch_other Goal Goal
  sound_goal = record {
    more = λ n d g k le loop. g k (omega (arith, le)) loop;
    leads = leads_on;
    steps = steps_on;
    looks = λ n wl gs M w r d e way synced set above far agrees refused step g. looks_on w r d way synced far wl gs M set above refused n e step g;
    reads = λ n wl gs M w r d a next way synced set above far agrees refused step astray g. reads_on w r d way synced far wl gs M set above refused n a next agrees step astray g;
    stray_on = λ n wl gs M w s set inside gone k le loop.
        lost Q B Sound fine (IsAstray ws) (grows P Q B mn args ws σ) gone_sound mn wm is c id dn retries takes q z slots len gives W first_added ops_inner uncounted catch catch_other refuses_lost wl set k loop gs M w s gone inside;
    stray_follows = λ n wl a M w s set inner gone k le loop.
        follows_lost Q B Sound fine (IsAstray ws) (grows P Q B mn args ws σ) gone_sound mn wm is c id dn retries takes q z slots len gives W first_added ops_inner uncounted catch catch_other refuses_lost wl set k loop a inner M w s gone;
    stray_throws = λ n wl row o t gs M w s set inside gone k le loop.
        throws_lost Q B Sound fine (IsAstray ws) (grows P Q B mn args ws σ) gone_sound mn wm is c id dn retries takes q z slots len gives W first_added ops_inner uncounted catch catch_other refuses_lost wl set k loop row o t gs M w s gone inside;
  }
