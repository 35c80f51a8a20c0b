-- Each instruction of an original method leads both on.
use Rattle.std.proofs.Common.{◌≡◌, ℕ, suc, ◌+◌, ◌≤◌, arith, List, ◌∷◌, length, Option, Some, false}
use Rattle.std.specs.Prelude.{slice_get, nat_eq, option_map}
use Rattle.std.specs.List.{AllByRecursion}
use Rattle.jmodel.specs.declared.value.Value.{Value}
use Rattle.jmodel.specs.declared.typing.VType.{VType}
use Rattle.jmodel.specs.history.History.{Words}
use Rattle.objects.specs.declared.op.Slot.{Slot}
use Rattle.objects.specs.declared.op.Op.{Op}
use Rattle.objects.specs.declared.op.Op.TheVariants as op
use Rattle.objects.specs.semantics.Program.{Method, Program, is_counted, method_at, selected}
use Rattle.objects.specs.semantics.State.{State}
use Rattle.objects.specs.semantics.Step.{catch_at}
use Rattle.objects.specs.declared.op.Phase.TheVariants.{Open}
use Rattle.objects.specs.rewriting.Attempt.{Bounds, Run, On}
use Rattle.objects.specs.typing.Typing.{Table}
use Rattle.objects.specs.laws.TypingLaw.{IsTypedProgram}
use Rattle.objects.specs.typing.Source.{IsSourceOp}
use Rattle.objects.specs.rewriting.Rewriting.{block_at, duplicate, duplicate_method}
use Rattle.objects.proofs.Fields.{each_at}
use Rattle.objects.proofs.Inner.{IsAdded, IsInnerOp}
use Rattle.objects.proofs.Frames.{frame}
use Rattle.objects.proofs.Tied.{source_of, typed_code}
use Rattle.objects.proofs.Places.{Rewrites}
use Rattle.objects.proofs.Goals.{IsGoal}
use Rattle.objects.proofs.Walking.{Serves}
use Rattle.objects.proofs.Singles.{simple_goes}
use Rattle.objects.proofs.Members.{serves_memory}
use Rattle.objects.proofs.Calls.{call_goes}

module _ (P : Program) (Ts : List Table) (S : IsTypedProgram P Ts) (Q : Program) (R : Rewrites P Ts Q) (dup_is : (i : ℕ) (o : Method) → method_at P i ≡ Some o → (T : Table) × (method_at Q (duplicate P i) ≡ Some (duplicate_method P o T)))
    (moved : (t m : ℕ) (k : Method) → method_at P m ≡ Some k → selected Q t (duplicate P m) ≡ option_map (duplicate P) (selected P t m))
    (B : Bounds) (mn : ℕ) (args : List Value) (ws : Words) (σ : State) (gives_type : Option VType) (c q z : ℕ) (slots : List Slot) (first_added : ℕ)
    (ops_inner : (m : ℕ) (k : Method) → IsAdded Q first_added m → slice_get Q.methods m ≡ Some k → AllByRecursion (IsInnerOp Q first_added) k.ops) (uncounted : is_counted Q mn ≡ false) (catch : catch_at Q mn (q + 1) 0 ≡ Some z)
    (catch_other : (t : ℕ) → nat_eq t 0 ≡ false → catch_at Q mn (q + 1) t ≡ Some (z + 4)) (Goal Astray : ℕ → Run → Type 0)
    (goal : IsGoal P Ts S Q B mn args ws σ gives_type c q z slots first_added ops_inner uncounted catch catch_other Goal Astray) (low : first_added ≤ length P.methods) where
  high : (m : ℕ) → first_added ≤ duplicate P m
  high m = omega (arith, low)

  pub all_served : Serves P Ts S Q B mn args ws σ gives_type c q z slots first_added ops_inner uncounted catch catch_other Goal
  all_served n m pc dn k T l l' s fs gs t here callers τ M w r hr kk o e = by o e (each_at (IsSourceOp P k) k.ops pc o (source_of P Ts S m k t.is).each e)
    where
      by : (x : Op) → slice_get k.ops pc ≡ Some x → IsSourceOp P k x → Goal (suc n) (On Open (frame dn (block_at (typed_code P Ts S k T) pc) l' s ∷ gs) M w r)
      by (op.GetStatic f) e src = serves_memory P Ts S Q R B mn args ws σ gives_type c q z slots first_added ops_inner uncounted catch catch_other Goal Astray goal low n m pc dn k T l l' fs gs t here callers τ M w r s hr kk (op.GetStatic f) e tt
      by (op.PutStatic f) e src = serves_memory P Ts S Q R B mn args ws σ gives_type c q z slots first_added ops_inner uncounted catch catch_other Goal Astray goal low n m pc dn k T l l' fs gs t here callers τ M w r s hr kk (op.PutStatic f) e tt
      by (op.GetField f x) e src = serves_memory P Ts S Q R B mn args ws σ gives_type c q z slots first_added ops_inner uncounted catch catch_other Goal Astray goal low n m pc dn k T l l' fs gs t here callers τ M w r s hr kk (op.GetField f x) e tt
      by (op.PutField f x) e src = serves_memory P Ts S Q R B mn args ws σ gives_type c q z slots first_added ops_inner uncounted catch catch_other Goal Astray goal low n m pc dn k T l l' fs gs t here callers τ M w r s hr kk (op.PutField f x) e tt
      by (op.LoadElement y) e src = serves_memory P Ts S Q R B mn args ws σ gives_type c q z slots first_added ops_inner uncounted catch catch_other Goal Astray goal low n m pc dn k T l l' fs gs t here callers τ M w r s hr kk (op.LoadElement y) e tt
      by (op.StoreElement y) e src = serves_memory P Ts S Q R B mn args ws σ gives_type c q z slots first_added ops_inner uncounted catch catch_other Goal Astray goal low n m pc dn k T l l' fs gs t here callers τ M w r s hr kk (op.StoreElement y) e tt
      by (op.InvokeStatic y) e src = call_goes P Ts S Q R dup_is moved B mn args ws σ gives_type c q z slots first_added ops_inner uncounted catch catch_other Goal Astray goal high n m pc dn k T l l' s fs gs t here callers τ M w r hr kk (op.InvokeStatic y) e tt
      by (op.InvokeSpecial y) e src = call_goes P Ts S Q R dup_is moved B mn args ws σ gives_type c q z slots first_added ops_inner uncounted catch catch_other Goal Astray goal high n m pc dn k T l l' s fs gs t here callers τ M w r hr kk (op.InvokeSpecial y) e tt
      by (op.InvokeVirtual y x) e src = call_goes P Ts S Q R dup_is moved B mn args ws σ gives_type c q z slots first_added ops_inner uncounted catch catch_other Goal Astray goal high n m pc dn k T l l' s fs gs t here callers τ M w r hr kk (op.InvokeVirtual y x) e tt
      by (op.InvokeInterface y name) e src = call_goes P Ts S Q R dup_is moved B mn args ws σ gives_type c q z slots first_added ops_inner uncounted catch catch_other Goal Astray goal high n m pc dn k T l l' s fs gs t here callers τ M w r hr kk (op.InvokeInterface y name) e tt
      by op.GetContext e src = absurd src
      by (op.Context y) e src = absurd src
      by x e src = simple_goes P Ts S Q R B mn args ws σ gives_type c q z slots first_added ops_inner uncounted catch catch_other Goal Astray goal high n m pc dn k T l l' s fs gs t here callers τ M w r hr kk x e tt
