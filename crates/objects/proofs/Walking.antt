-- Frames of the original and those of the duplicates go on alike, instruction by instruction.
use Rattle.std.proofs.Common.{◌≡◌, ℕ, zero, suc, ◌+◌, List, ◌∷◌, Option, Some, false, ap, ◌∙◌}
use Rattle.std.specs.Prelude.{slice_get, nat_eq}
use Rattle.std.specs.List.{AllByRecursion}
use Rattle.jmodel.specs.declared.value.Value.{Value}
use Rattle.jmodel.specs.declared.value.Answer.{Answer}
use Rattle.jmodel.specs.declared.typing.VType.{VType}
use Rattle.jmodel.specs.history.History.{Words}
use Rattle.objects.specs.declared.op.Slot.{Slot}
use Rattle.objects.specs.declared.op.Op.{Op}
use Rattle.objects.specs.declared.op.Phase.TheVariants.{Open}
use Rattle.objects.specs.semantics.Program.{Method, Program, is_counted}
use Rattle.objects.specs.semantics.Region.{Region}
use Rattle.objects.specs.semantics.State.{State}
use Rattle.objects.specs.semantics.Step.{Frames, catch_at}
use Rattle.objects.specs.semantics.Call.{Direct, direct, call_start}
use Rattle.objects.specs.semantics.Call as call
use Rattle.objects.specs.rewriting.Attempt.{Log, Bounds, Meter, Run, On}
use Rattle.objects.specs.typing.Typing.{Table}
use Rattle.objects.specs.laws.TypingLaw.{IsTypedProgram}
use Rattle.objects.specs.rewriting.Rewriting.{block_at}
use Rattle.objects.proofs.Frames.{frame}
use Rattle.objects.proofs.Fields.{some_at}
use Rattle.objects.proofs.Alike.{Stands}
use Rattle.objects.proofs.Inner.{IsAdded, IsInnerOp}
use Rattle.objects.proofs.Tied.{Tied, Callers, top, typed_code}
use Rattle.objects.proofs.Tied as tied
use Rattle.objects.proofs.Goals.{Here, Continues, EndsAs, direct_both}

module _ (P : Program) (Ts : List Table) (S : IsTypedProgram P Ts) (Q : Program) (B : Bounds) (mn : ℕ) (args : List Value) (ws : Words) (σ : State) (gives : Option VType) (c q z : ℕ) (slots : List Slot) (first_added : ℕ)
    (ops_inner : (m : ℕ) (k : Method) → IsAdded Q first_added m → slice_get Q.methods m ≡ Some k → AllByRecursion (IsInnerOp Q first_added) k.ops) (uncounted : is_counted Q mn ≡ false) (catch : catch_at Q mn (q + 1) 0 ≡ Some z)
    (catch_other : (t : ℕ) → nat_eq t 0 ≡ false → catch_at Q mn (q + 1) t ≡ Some (z + 4)) (Goal : ℕ → Run → Type 0) where
  abbrev G : Region
  G = B.region

  -- one instruction leads both on
  abbrev pub Serves : Type 0
  Serves = (n m pc dn : ℕ) (k : Method) (T : Table) (l l' s : List Slot) (fs gs : Frames) → Tied P Ts S m dn k T → Stands k T pc l l' → Callers P Ts S mn q gives c slots k.result fs gs
      → (τ : State) (M : Meter) (w r : Log) → Here P Ts S Q B mn args ws σ (frame m pc l s ∷ fs) τ M w r
      → Continues P Ts S Q B mn args ws σ gives c q z slots first_added ops_inner uncounted catch catch_other Goal n (call.On (frame m pc l s ∷ fs) M.turns τ) → (o : Op) → slice_get k.ops pc ≡ Some o
      → Goal (suc n) (On Open (frame dn (block_at (typed_code P Ts S k T) pc) l' s ∷ gs) M w r)

  module _ (serves : Serves) (none : (fs gs : Frames) (τ : State) (M : Meter) (w r : Log) → Here P Ts S Q B mn args ws σ fs τ M w r → tied.Run P Ts S mn q gives c slots fs gs → Goal 0 (On Open gs M w r))
      (ends : (n N : ℕ) (x : Answer) (τ : State) (e : Run) → direct P G N (call_start P mn args B.budget σ) ≡ call.Ended x τ → EndsAs P Ts S Q B mn args ws σ gives c q z slots first_added ops_inner uncounted catch catch_other τ x e → Goal n e) where
    pub walks : (n : ℕ) (fs gs : Frames) (τ : State) (M : Meter) (w r : Log) → Here P Ts S Q B mn args ws σ fs τ M w r → tied.Run P Ts S mn q gives c slots fs gs → Goal n (On Open gs M w r)
    walks zero fs gs τ M w r here tie = none fs gs τ M w r here tie
    walks (suc n) fs gs τ M w r here (top m pc dn k T l l' s fs0 gs0 t stands callers) =
        let o = some_at k.ops pc stands.inside in
        serves n m pc dn k T l l' s fs0 gs0 t stands callers τ M w r here
        (record {
          on = λ j fs2 gs2 τ2 M2 w2 r2 f here2 tie2. walks n fs2 gs2 τ2 M2 w2 r2 here2 tie2;
          ends = λ j x τ2 e f end. ends n (here.reach.0 + suc j) x τ2 e (direct_both P G here.reach.0 (suc j) (call_start P mn args B.budget σ) ∙ ap (direct P G (suc j)) here.reach.1 ∙ f) end;
        }) o.0 o.1
