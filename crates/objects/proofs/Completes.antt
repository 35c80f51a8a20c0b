-- Where the original method's call ends, some replies lead the rewritten code to the same end.
use Rattle.std.proofs.Common.{◌≡◌, ℕ, zero, suc, ◌+◌, ◌-◌, ◌<◌, ◌≤◌, List, ◌∷◌, Option, Some, None, false, refl, sym, ap, subst, ◌∙◌, arith, ⊎_elim}
use Rattle.std.specs.Prelude.{slice_get, nat_eq}
use Rattle.std.specs.List.{AllByRecursion}
use Rattle.std.proofs.lemmas.Bool.{cases_lt}
use Rattle.jmodel.specs.declared.value.Value.{Value}
use Rattle.jmodel.specs.declared.value.Answer.{Answer}
use Rattle.jmodel.specs.declared.typing.VType.{VType}
use Rattle.jmodel.specs.history.History.{Words, overlaid, Agrees}
use Rattle.objects.specs.declared.op.Slot.{Slot}
use Rattle.objects.specs.declared.op.Phase.TheVariants.{Open}
use Rattle.objects.specs.semantics.Program.{Method, Program, is_counted}
use Rattle.objects.specs.semantics.Region.{Region}
use Rattle.objects.specs.semantics.State.{State}
use Rattle.objects.specs.semantics.Step.{Frames, catch_at}
use Rattle.objects.specs.semantics.Call.{Direct, direct, next_direct, call_start, kept}
use Rattle.objects.specs.semantics.Call as call
use Rattle.objects.specs.rewriting.Attempt.{Log, written, recorded, Reply, Gives, Bounds, Meter, Run, On, Ended, next_run, run}
use Rattle.objects.specs.history.Meaning.{Represents}
use Rattle.objects.specs.typing.Typing.{Table}
use Rattle.objects.specs.laws.TypingLaw.{IsTypedProgram}
use Rattle.objects.proofs.Frames.{frame}
use Rattle.objects.proofs.Fields.{some_at}
use Rattle.objects.proofs.Inner.{IsAdded, IsInnerOp}
use Rattle.objects.proofs.Replies.{Leads}
use Rattle.objects.proofs.Goals.{Here, IsGoal, EndsAs, direct_both}
use Rattle.objects.proofs.Tied.{top}
use Rattle.objects.proofs.Tied as tied
use Rattle.objects.proofs.Walking.{Serves}

-- ---- runs that are over

pub ended_stays : (P : Program) (G : Region) (i : ℕ) (x : Answer) (τ : State) → direct P G i (call.Ended x τ) ≡ call.Ended x τ
ended_stays P G zero x τ = refl
ended_stays P G (suc i) x τ = ended_stays P G i x τ

pub ended_later : (P : Program) (G : Region) (i j : ℕ) (d : Direct) (x : Answer) (τ : State) → direct P G i d ≡ call.Ended x τ → direct P G (i + j) d ≡ call.Ended x τ
ended_later P G i j d x τ e = direct_both P G i j d ∙ ap (direct P G j) e ∙ ended_stays P G j x τ

-- a run ends once
pub ended_same : (P : Program) (G : Region) (i j : ℕ) (d : Direct) (x y : Answer) (τ ρ : State) → direct P G i d ≡ call.Ended x τ → direct P G j d ≡ call.Ended y ρ → (x ≡ y) × (τ ≡ ρ)
ended_same P G i j d x y τ ρ e f =
    let turn : i + j ≡ j + i = omega arith in
    let same : call.Ended x τ ≡ call.Ended y ρ = sym (ended_later P G i j d x τ e) ∙ ap (λ (n : ℕ). direct P G n d) turn ∙ ended_later P G j i d y ρ f in
    (cc, cc)

-- what is left of a run that ends
pub ends_from : (P : Program) (G : Region) (i N : ℕ) (d : Direct) (fs : Frames) (k : ℕ) (ρ : State) (x : Answer) (τ : State) → direct P G i d ≡ call.On fs k ρ → direct P G N d ≡ call.Ended x τ → (i ≤ N) × (direct P G (N - i) (call.On fs k ρ) ≡ call.Ended x τ)
ends_from P G i N d fs k ρ x τ e f = ⊎_elim
    (λ (late : N < i).
    let n : i ≡ N + (i - N) = omega (arith, late) in
    absurd (let no : call.On fs k ρ ≡ call.Ended x τ = sym e ∙ ap (λ (n : ℕ). direct P G n d) n ∙ ended_later P G N (i - N) d x τ f in let fall : ⊥ = cc in fall))
    (λ (le : i ≤ N).
    let n : i + (N - i) ≡ N = omega (arith, le) in
    (le, ap (direct P G (N - i)) (sym e) ∙ sym (direct_both P G i (N - i) d) ∙ ap (λ (n : ℕ). direct P G n d) n ∙ f))
    (cases_lt N i)

module _ (P : Program) (Ts : List Table) (S : IsTypedProgram P Ts) (Q : Program) (B : Bounds) (mn : ℕ) (args : List Value) (ws : Words) (σ : State) (x : Answer) (last : State) where
  abbrev G : Region
  G = B.region

  -- the state that the call leaves
  abbrev pub left_state : State
  left_state = kept x σ last

  -- some replies lead to its end
  pub record Completes (d : Run) : Type 0 where
    pub replies : List Reply
    pub meter : Meter
    pub writes : Log
    pub reads : Log
    pub comes : run Q B replies d ≡ Ended x meter writes reads
    pub agrees : Agrees ws reads
    pub represents : Represents P B.region.size (overlaid writes ws) left_state
    pub used : meter.used ≡ left_state.used B.region.number

  pub by_reply : (v : Reply) (d : Run) → Completes (next_run Q B v d) → Completes d
  by_reply v d h = record { replies = v ∷ h.replies; meter = h.meter; writes = h.writes; reads = h.reads; comes = h.comes; agrees = h.agrees; represents = h.represents; used = h.used }

  pub by_leads : (j : ℕ) (d e : Run) → Leads Q B j d e → Completes e → Completes d
  by_leads zero d e l h = subst Completes (sym l) h
  by_leads (suc j) d e l h = by_reply (Gives 0) d (by_leads j (next_run Q B (Gives 0) d) e (l.1 (Gives 0)) h)

  abbrev pub Goal : ℕ → Run → Type 0
  Goal n d = Completes d

  abbrev pub Astray : ℕ → Run → Type 0
  Astray n d = Unit {0}

  module _ (gives : Option VType) (c q z : ℕ) (slots : List Slot) (first_added : ℕ) (ops_inner : (m : ℕ) (k : Method) → IsAdded Q first_added m → slice_get Q.methods m ≡ Some k → AllByRecursion (IsInnerOp Q first_added) k.ops) (uncounted : is_counted Q mn ≡ false)
      (catch : catch_at Q mn (q + 1) 0 ≡ Some z) (catch_other : (t : ℕ) → nat_eq t 0 ≡ false → catch_at Q mn (q + 1) t ≡ Some (z + 4)) where
    -- the engine gives the words that are there
    honest : (o : Option ℕ) (a : ℕ) (r : Log) → Agrees ws r → Agrees ws (recorded o a (ws a) r)
    honest None a r agrees = (refl, agrees)
    honest (Some y) a r agrees = agrees

    pub complete_goal : IsGoal P Ts S Q B mn args ws σ gives c q z slots first_added ops_inner uncounted catch catch_other Goal Astray
    complete_goal = record {
      more = λ n d g. g;
      leads = λ j n d e l g. by_leads (suc j) d e l g;
      steps = λ n w r d e way far agrees step g. by_reply (Gives 0) d (subst Completes (sym (step (Gives 0))) g);
      looks = λ n wl gs M w r d e way synced set above far agrees refused step g. by_reply (Gives 0) d (subst Completes (sym (step 0)) g);
      reads = λ n wl gs M w r d a next way synced set above far agrees refused step astray g.
          by_reply (Gives (ws a)) d (subst Completes (sym (step (ws a))) (g (recorded (written w a) a (ws a) r) (honest (written w a) a r agrees)));
      stray_on = λ n wl gs M w s set inside gone. tt;
      stray_follows = λ n wl a M w s set inner gone. tt;
      stray_throws = λ n wl row o t gs M w s set inside gone. tt;
    }

    abbrev IsEnd : State → Answer → Run → Type 0
    IsEnd = EndsAs P Ts S Q B mn args ws σ gives c q z slots first_added ops_inner uncounted catch catch_other

    abbrev IsHere : Frames → State → Meter → Log → Log → Type 0
    IsHere = Here P Ts S Q B mn args ws σ

    abbrev Tie : Frames → Frames → Type 0
    Tie = tied.Run P Ts S mn q gives c slots

    module _ (serves : Serves P Ts S Q B mn args ws σ gives c q z slots first_added ops_inner uncounted catch catch_other Goal) (ends : (e : Run) → IsEnd last x e → Completes e) where
      ends_as : (y : Answer) (τ : State) (e : Run) → (x ≡ y) × (last ≡ τ) → IsEnd τ y e → Completes e
      ends_as y τ e same end = ends e (subst (λ (y : Answer). IsEnd last y e) (sym same.0) (subst (λ (τ : State). IsEnd τ y e) (sym same.1) end))

      -- by what is left of the original's run
      walk : (n N : ℕ) → N ≤ n → (fs gs : Frames) (τ : State) (M : Meter) (w r : Log) → IsHere fs τ M w r → Tie fs gs → direct P G N (call.On fs M.turns τ) ≡ call.Ended x last → Completes (On Open gs M w r)
      walk n zero le fs gs τ M w r here tie f = cc
      walk zero (suc N) le fs gs τ M w r here tie f = absurd (omega (arith, le))
      walk (suc n) (suc N) le fs gs τ M w r here (top m pc dn k T l l' s fs0 gs0 t stands callers) f =
          let o = some_at k.ops pc stands.inside in
          serves 0 m pc dn k T l l' s fs0 gs0 t stands callers τ M w r here
          (record {
            on = λ j fs2 gs2 τ2 M2 w2 r2 e here2 tie2.
                let y = ends_from P G (suc j) (suc N) (call.On (frame m pc l s ∷ fs0) M.turns τ) fs2 M2.turns τ2 x last e f in
                let less : suc N - suc j ≤ n = omega (arith, le) in
                walk n (suc N - suc j) less fs2 gs2 τ2 M2 w2 r2 here2 tie2 y.1;
            ends = λ j y τ2 e run end. ends_as y τ2 e (ended_same P G (suc N) (suc j) (call.On (frame m pc l s ∷ fs0) M.turns τ) x y last τ2 f run) end;
          }) o.0 o.1

      module _ (N : ℕ) (over : direct P G N (call_start P mn args B.budget σ) ≡ call.Ended x last) where
        pub main : (n : ℕ) (fs gs : Frames) (τ : State) (M : Meter) (w r : Log) → IsHere fs τ M w r → Tie fs gs → Goal n (On Open gs M w r)
        main n fs gs τ M w r here tie =
            let y = ends_from P G here.reach.0 N (call_start P mn args B.budget σ) fs M.turns τ x last here.reach.1 over in
            walk (N - here.reach.0) (N - here.reach.0) (omega arith) fs gs τ M w r here tie y.1

        pub main_ends : (n i : ℕ) (y : Answer) (τ : State) (e : Run) → direct P G i (call_start P mn args B.budget σ) ≡ call.Ended y τ → IsEnd τ y e → Goal n e
        main_ends n i y τ e f end = ends_as y τ e (ended_same P G N i (call_start P mn args B.budget σ) x y last τ over f) end
