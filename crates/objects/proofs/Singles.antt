-- Instructions for which one stands in the duplicate lead both on.
use Rattle.std.proofs.Common.{◌≡◌, ℕ, suc, ◌+◌, ◌≤◌, List, ◌∷◌, Option, Some, false, refl, ap, subst, ◌∙◌, arith}
use Rattle.std.specs.Prelude.{slice_get, nat_eq}
use Rattle.std.specs.List.{AllByRecursion}
use Rattle.jmodel.specs.declared.value.Value.{Value}
use Rattle.jmodel.specs.declared.typing.VType.{VType}
use Rattle.jmodel.specs.history.History.{Words}
use Rattle.objects.specs.declared.op.Slot.{Slot}
use Rattle.objects.specs.declared.op.Op.{Op}
use Rattle.objects.specs.declared.op.Op.TheVariants as op
use Rattle.objects.specs.declared.op.Phase.TheVariants.{Open}
use Rattle.objects.specs.semantics.Program.{Method, Program, is_counted, op_at}
use Rattle.objects.specs.semantics.State.{State}
use Rattle.objects.specs.semantics.Step.{Frames, does, on_did, step, catch_at}
use Rattle.objects.specs.semantics.Call as call
use Rattle.objects.specs.rewriting.Attempt.{Log, Reply, Bounds, Meter, Run, On, next_run}
use Rattle.objects.specs.rewriting.Attempt as attempt
use Rattle.objects.specs.typing.Typing.{Types, Table, types_at}
use Rattle.objects.specs.laws.TypingLaw.{IsTypedProgram}
use Rattle.objects.proofs.LocalRoom.{has_room}
use Rattle.objects.specs.typing.Source.{IsSourceOp}
use Rattle.objects.specs.rewriting.Rewriting.{Typed, block_len_of, block_at, block_of, duplicate, duplicate_code}
use Rattle.objects.proofs.Frames.{frame}
use Rattle.objects.proofs.Fields.{each_at}
use Rattle.objects.proofs.Alike.{Stands, IsSimple, image, simple_alike}
use Rattle.objects.proofs.Inner.{IsAdded, IsInnerOp}
use Rattle.objects.proofs.Tied.{Tied, Callers, typed_code, source_of, counted_of, counted_dup, there_of}
use Rattle.objects.proofs.Places.{Rewrites, HasAt, typed_at, has_block}
use Rattle.objects.proofs.Safety.{step_fine}
use Rattle.objects.proofs.TypedFrames.{AsksFine}
use Rattle.objects.proofs.Goals.{Here, IsGoal, Continues}
use Rattle.objects.proofs.Simple.{serves}

-- One instruction stands for a simple one.
pub one_place : (h : Option Types) (o : Op) → IsSimple o → block_len_of h o ≡ 1
one_place h (op.GetStatic f) s = absurd s
one_place h (op.PutStatic f) s = absurd s
one_place h (op.GetField f c) s = absurd s
one_place h (op.PutField f c) s = absurd s
one_place h (op.LoadElement t) s = absurd s
one_place h (op.StoreElement t) s = absurd s
one_place h (op.InvokeStatic m) s = absurd s
one_place h (op.InvokeSpecial m) s = absurd s
one_place h (op.InvokeVirtual m c) s = absurd s
one_place h (op.InvokeInterface m c) s = absurd s
one_place h o s = refl

module _ (P : Program) (Ts : List Table) (S : IsTypedProgram P Ts) (Q : Program) (R : Rewrites P Ts Q) (B : Bounds) (mn : ℕ) (args : List Value) (ws : Words) (σ : State) (gives_type : Option VType) (c q z : ℕ) (slots : List Slot) (first_added : ℕ)
    (ops_inner : (m : ℕ) (k : Method) → IsAdded Q first_added m → slice_get Q.methods m ≡ Some k → AllByRecursion (IsInnerOp Q first_added) k.ops) (uncounted : is_counted Q mn ≡ false) (catch : catch_at Q mn (q + 1) 0 ≡ Some z)
    (catch_other : (t : ℕ) → nat_eq t 0 ≡ false → catch_at Q mn (q + 1) t ≡ Some (z + 4)) (Goal Astray : ℕ → Run → Type 0)
    (goal : IsGoal P Ts S Q B mn args ws σ gives_type c q z slots first_added ops_inner uncounted catch catch_other Goal Astray)
    (high : (m : ℕ) → first_added ≤ duplicate P m) (n : ℕ) (m pc dn : ℕ) (k : Method) (T : Table) (l l' s : List Slot) (fs gs : Frames) (t : Tied P Ts S m dn k T) (here : Stands k T pc l l')
    (callers : Callers P Ts S mn q gives_type c slots k.result fs gs) (τ : State) (M : Meter) (w r : Log) (hr : Here P Ts S Q B mn args ws σ (frame m pc l s ∷ fs) τ M w r)
    (kk : Continues P Ts S Q B mn args ws σ gives_type c q z slots first_added ops_inner uncounted catch catch_other Goal n (call.On (frame m pc l s ∷ fs) M.turns τ)) (o : Op) (e : slice_get k.ops pc ≡ Some o) where
  abbrev xs : List Typed
  xs = typed_code P Ts S k T

  abbrev a : ℕ
  a = block_at xs pc

  abbrev stands_for : Op → Op
  stands_for = image P Q R.texts k T t.typing (has_room P k T t.typing (source_of P Ts S m k t.is).many) m pc dn a (block_at xs) (counted_of P Ts S m k t.is) (counted_dup P Ts S mn q gives_type c slots Q R uncounted m dn k T t) l l' here.types here.there here.agree

  pub block_stands : HasAt (duplicate_code P k xs).ops a (block_of P k.places k.locals (block_at xs) (types_at T pc) o)
  block_stands =
      let z : 0 + pc ≡ pc = omega arith in
      has_block P k xs pc _ (typed_at 0 T k.ops pc o e ∙ ap (λ (i : ℕ). Some (record { op = o; types = types_at T i })) z)

  one_stands : (x : Op) → IsSimple x → HasAt (duplicate_code P k xs).ops a (block_of P k.places k.locals (block_at xs) (types_at T pc) x) → slice_get (duplicate_code P k xs).ops a ≡ Some (stands_for x)
  one_stands (op.GetStatic f) i h = absurd i
  one_stands (op.PutStatic f) i h = absurd i
  one_stands (op.GetField f c) i h = absurd i
  one_stands (op.PutField f c) i h = absurd i
  one_stands (op.LoadElement t) i h = absurd i
  one_stands (op.StoreElement t) i h = absurd i
  one_stands (op.InvokeStatic m) i h = absurd i
  one_stands (op.InvokeSpecial m) i h = absurd i
  one_stands (op.InvokeVirtual m c) i h = absurd i
  one_stands (op.InvokeInterface m c) i h = absurd i
  one_stands op.GetContext i h = absurd i
  one_stands (op.Context c) i h = absurd i
  one_stands x i h = h.0

  pub simple_goes : IsSimple o → Goal (suc n) (On Open (frame dn a l' s ∷ gs) M w r)
  simple_goes simple =
      let src = each_at (IsSourceOp P k) k.ops pc o (source_of P Ts S m k t.is).each e in
      let alike = simple_alike P Q R.texts k T t.typing (has_room P k T t.typing (source_of P Ts S m k t.is).many) m pc dn a (block_at xs) (counted_of P Ts S m k t.is) (counted_dup P Ts S mn q gives_type c slots Q R uncounted m dn k T t) l l' here.types here.there here.agree o e simple src s in
      let up : op_at P m pc ≡ Some o = (let i = t.is in rw i e) in
      let down : op_at Q dn a ≡ Some (stands_for o) = (let i = there_of P Ts S mn q gives_type c slots Q R uncounted m dn k T t in rw i (one_stands o simple block_stands)) in
      let step_up : step P (frame m pc l s ∷ fs) ≡ on_did P (does P o (frame m pc l s)) fs = (rw up refl) in
      let step_down : step Q (frame dn a l' s ∷ gs) ≡ on_did Q (does Q (stands_for o) (frame dn a l' s)) gs = (rw down refl) in
      serves P Ts S Q R B mn args ws σ gives_type c q z slots first_added ops_inner uncounted catch catch_other Goal Astray goal high n m pc dn k T l l' s fs gs t here callers τ M w r hr kk o e (one_place (types_at T pc) o simple)
      (does P o (frame m pc l s)) (does Q (stands_for o) (frame dn a l' s)) alike step_up step_down (ap (λ (x : _). call.on_asked P B.region x M.turns τ) step_up) (λ v. ap (λ (x : _). attempt.on_asked Q B x Open v M w r) step_down)
      (subst (AsksFine P Ts S B.region.size τ hr.stands.represents.heap) step_up (step_fine P Ts S B.region.size τ hr.stands.represents.heap (frame m pc l s ∷ fs) hr.typed))
