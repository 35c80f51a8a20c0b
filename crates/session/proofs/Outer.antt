-- The frame of a wrapper: it asks for an attempt with its own number of attempts alone, and waits for a call behind that.
use Rattle.std.proofs.Common.{◌≡◌, ℕ, ℤ, zero, suc, ◌+◌, ◌≤◌, List, [], ◌∷◌, ◌++◌, Option, Some, None, Bool, true, false, refl, subst}
use Rattle.std.specs.Prelude.{slice_get}
use Rattle.std.specs.List.{AllByRecursion}
use Rattle.jmodel.specs.declared.value.Value.{Value}
use Rattle.jmodel.specs.declared.typing.VType.{VType}
use Rattle.jmodel.specs.declared.typing.VType.TheVariants as type
use Rattle.objects.specs.declared.op.Slot.{Slot}
use Rattle.objects.specs.declared.op.Slot.TheVariants.{Int, Long, Second, Ref, Context}
use Rattle.objects.specs.declared.op.Sort.{Sort}
use Rattle.objects.specs.declared.op.Sort.TheVariants as sort
use Rattle.objects.specs.declared.op.Dispatch.TheVariants as dispatch
use Rattle.objects.specs.declared.op.StackOp.TheVariants.{Pop}
use Rattle.objects.specs.declared.op.ContextCall.TheVariants as call
use Rattle.objects.specs.declared.op.Request.{Request}
use Rattle.objects.specs.declared.op.Request.TheVariants as request
use Rattle.objects.specs.declared.op.Trap.TheVariants.{NullPointer, AbstractMethod}
use Rattle.objects.specs.declared.op.Op.{Op}
use Rattle.objects.specs.declared.op.Op.TheVariants as op
use Rattle.objects.specs.declared.op.Doing.{Doing}
use Rattle.objects.specs.declared.op.Doing.TheVariants.{Next, Jump, Invoke, Give, Throw, Raise, Trap, Ask}
use Rattle.objects.specs.semantics.Program.{Method, Program, method_at, has_code, is_counted}
use Rattle.objects.specs.semantics.Step.{Frame, Did, Does, Wrong, with_stack, on_top, int_in, on_int, ref_in, on_ref, second_in, long_in, on_long, context_in, on_context, object_in, on_value, slot_in, method_in, not_null, throws, branches, loads, set_local, set_long, stores, runs, does}
use Rattle.objects.specs.rewriting.Rewriting.{load_all, end_code, conflict_code, exception_code, body_code}

-- what a wrapper does behind its attempt's beginning: it jumps to 2 alone
abbrev pub IsOuterOp : ℕ → Op → Type 0
IsOuterOp first op.GetContext = Unit {0}
IsOuterOp first (op.Constant v) = Unit {0}
IsOuterOp first (op.Load t i) = Unit {0}
IsOuterOp first (op.Store t i) = Unit {0}
IsOuterOp first (op.Stack Pop) = Unit {0}
IsOuterOp first (op.Branch t to) = to ≡ 2
IsOuterOp first (op.Goto to) = to ≡ 2
IsOuterOp first (op.InvokeStatic m) = first ≤ m
IsOuterOp first (op.Context call.Commit) = Unit {0}
IsOuterOp first (op.Context call.Rollback) = Unit {0}
IsOuterOp first op.Return = Unit {0}
IsOuterOp first (op.ReturnValue t) = Unit {0}
IsOuterOp first op.Throw = Unit {0}
IsOuterOp first o = ⊥

-- a request that begins no attempt
abbrev pub BeginsNone : Request → Type 0
BeginsNone (request.Begin n) = ⊥
BeginsNone q = Unit {0}

abbrev pub IsOuterDoing : ℕ → Doing → Type 0
IsOuterDoing first Next = Unit {0}
IsOuterDoing first (Jump to) = to ≡ 2
IsOuterDoing first (Invoke m) = first ≤ m
IsOuterDoing first (Give v) = Unit {0}
IsOuterDoing first (Throw o) = Unit {0}
IsOuterDoing first (Raise o) = Unit {0}
IsOuterDoing first (Trap t) = Unit {0}
IsOuterDoing first (Ask q) = BeginsNone q
IsOuterDoing first d = ⊥

-- what goes on to the next instruction, and does nothing else
abbrev pub IsQuietOp : Op → Type 0
IsQuietOp op.GetContext = Unit {0}
IsQuietOp (op.Constant v) = Unit {0}
IsQuietOp (op.Load t i) = Unit {0}
IsQuietOp (op.Store t i) = Unit {0}
IsQuietOp o = ⊥

abbrev pub IsNext : Doing → Type 0
IsNext Next = Unit {0}
IsNext d = ⊥

module _ (D : Doing → Type 0) (on : D Next) (m pc : ℕ) where
  -- an instruction stays in its frame, and leaves such a thing to be done
  abbrev pub IsOuterDid : Did → Type 0
  IsOuterDid Wrong = Unit {0}
  IsOuterDid (Does d g) = (g.method ≡ m) × (g.pc ≡ pc) × D d

  top : (s : List Slot) (k : Slot → List Slot → Did) → ((v : Slot) (t : List Slot) → IsOuterDid (k v t)) → IsOuterDid (on_top s k)
  top [] k h = tt
  top (v ∷ s) k h = h v s

  an_int : (v : Slot) (k : ℤ → Did) → ((x : ℤ) → IsOuterDid (k x)) → IsOuterDid (int_in v k)
  an_int (Int x) k h = h x
  an_int v k h = tt

  int : (s : List Slot) (k : ℤ → List Slot → Did) → ((x : ℤ) (t : List Slot) → IsOuterDid (k x t)) → IsOuterDid (on_int s k)
  int s k h = top s _ (λ v t. an_int v (λ x. k x t) (λ x. h x t))

  a_ref : (v : Slot) (k : ℕ → Did) → ((x : ℕ) → IsOuterDid (k x)) → IsOuterDid (ref_in v k)
  a_ref (Ref x) k h = h x
  a_ref v k h = tt

  ref : (s : List Slot) (k : ℕ → List Slot → Did) → ((x : ℕ) (t : List Slot) → IsOuterDid (k x t)) → IsOuterDid (on_ref s k)
  ref s k h = top s _ (λ v t. a_ref v (λ x. k x t) (λ x. h x t))

  a_second : (v : Slot) (k : Did) → IsOuterDid k → IsOuterDid (second_in v k)
  a_second Second k h = h
  a_second v k h = tt

  a_long : (v : Slot) (k : ℤ → Did) → ((x : ℤ) → IsOuterDid (k x)) → IsOuterDid (long_in v k)
  a_long (Long x) k h = h x
  a_long v k h = tt

  long : (s : List Slot) (k : ℤ → List Slot → Did) → ((x : ℤ) (t : List Slot) → IsOuterDid (k x t)) → IsOuterDid (on_long s k)
  long s k h = top s _ (λ v t. a_second v _ (top t _ (λ u t. a_long u (λ x. k x t) (λ x. h x t))))

  a_context : (v : Slot) (k : Did) → IsOuterDid k → IsOuterDid (context_in v k)
  a_context Context k h = h
  a_context v k h = tt

  context : (s : List Slot) (k : List Slot → Did) → ((t : List Slot) → IsOuterDid (k t)) → IsOuterDid (on_context s k)
  context s k h = top s _ (λ v t. a_context v (k t) (h t))

  an_object : (v : Slot) (k : Did) → IsOuterDid k → IsOuterDid (object_in v k)
  an_object (Ref o) k h = h
  an_object Context k h = h
  an_object v k h = tt

  slot : (o : Option Slot) (k : Slot → Did) → ((v : Slot) → IsOuterDid (k v)) → IsOuterDid (slot_in o k)
  slot None k h = tt
  slot (Some v) k h = h v

  method : (o : Option Method) (k : Method → Did) → ((c : Method) → IsOuterDid (k c)) → IsOuterDid (method_in o k)
  method None k h = tt
  method (Some v) k h = h v

  a_value : (t : Sort) (s : List Slot) (k : Value → List Slot → Did) → ((v : Value) (t : List Slot) → IsOuterDid (k v t)) → IsOuterDid (on_value t s k)
  a_value sort.Int s k h = int s _ (λ x t. h _ t)
  a_value sort.Long s k h = long s _ (λ x t. h _ t)
  a_value sort.Reference s k h = ref s _ (λ x t. h _ t)

  some : (o : ℕ) (g : Frame) (k : Did) → g.method ≡ m → g.pc ≡ pc → D (Trap NullPointer) → IsOuterDid k → IsOuterDid (not_null o g k)
  some zero g k e p x h = (e, p, x)
  some (suc o) g k e p x h = h

  thrown : (b : Bool) (o : ℕ) (g : Frame) → g.method ≡ m → g.pc ≡ pc → D (Raise o) → D (Throw o) → IsOuterDid (throws b o g)
  thrown true o g e p x y = (e, p, x)
  thrown false o g e p x y = (e, p, y)

  branched : (b : Bool) (to : ℕ) (g : Frame) → D (Jump to) → g.method ≡ m → g.pc ≡ pc → IsOuterDid (branches b to g)
  branched true to g x e p = (e, p, x)
  branched false to g x e p = (e, p, on)

  one_set : (b : Bool) (i : ℕ) (v : Slot) (g : Frame) → g.method ≡ m → g.pc ≡ pc → IsOuterDid (set_local b i v g)
  one_set true i v g e p = (e, p, on)
  one_set false i v g e p = tt

  long_set : (b : Bool) (i : ℕ) (x : ℤ) (g : Frame) → g.method ≡ m → g.pc ≡ pc → IsOuterDid (set_long b i x g)
  long_set true i x g e p = (e, p, on)
  long_set false i x g e p = tt

  ran : (b : Bool) (c : ℕ) (g : Frame) → g.method ≡ m → g.pc ≡ pc → D (Invoke c) → D (Trap AbstractMethod) → IsOuterDid (runs b c g)
  ran true c g e p x y = (e, p, x)
  ran false c g e p x y = (e, p, y)

  loads_out : (t : Sort) (i : ℕ) (g : Frame) → g.method ≡ m → g.pc ≡ pc → IsOuterDid (loads t i g)
  loads_out sort.Int i g e p = slot (slice_get g.locals i) _ (λ v. an_int v _ (λ x. (e, p, on)))
  loads_out sort.Reference i g e p = slot (slice_get g.locals i) _ (λ v. an_object v _ (e, p, on))
  loads_out sort.Long i g e p = slot (slice_get g.locals i) _ (λ v. a_long v _ (λ x. slot (slice_get g.locals (i + 1)) _ (λ u. a_second u _ (e, p, on))))

  stores_out : (t : Sort) (i : ℕ) (g : Frame) → g.method ≡ m → g.pc ≡ pc → IsOuterDid (stores t i g)
  stores_out sort.Int i g e p = int g.stack _ (λ x s. one_set _ i _ (with_stack g s) e p)
  stores_out sort.Reference i g e p = top g.stack _ (λ v s. an_object v _ (one_set _ i _ (with_stack g s) e p))
  stores_out sort.Long i g e p = long g.stack _ (λ x s. long_set _ i x (with_stack g s) e p)

  pub does_quiet : (Q : Program) (o : Op) → IsQuietOp o → (g : Frame) → g.method ≡ m → g.pc ≡ pc → IsOuterDid (does Q o g)
  does_quiet Q op.GetContext a g e p = (e, p, on)
  does_quiet Q (op.Constant v) a g e p = (e, p, on)
  does_quiet Q (op.Load t i) a g e p = loads_out t i g e p
  does_quiet Q (op.Store t i) a g e p = stores_out t i g e p
  does_quiet Q o a g e p = absurd a

module _ (first m pc : ℕ) where
  abbrev D : Doing → Type 0
  D = IsOuterDoing first

  abbrev Out : Did → Type 0
  Out = IsOuterDid D tt m pc

  pub does_outer : (Q : Program) (o : Op) → IsOuterOp first o → (g : Frame) → g.method ≡ m → g.pc ≡ pc → Out (does Q o g)
  does_outer Q op.GetContext a g e p = (e, p, tt)
  does_outer Q (op.Constant v) a g e p = (e, p, tt)
  does_outer Q (op.Load t i) a g e p = loads_out D tt m pc t i g e p
  does_outer Q (op.Store t i) a g e p = stores_out D tt m pc t i g e p
  does_outer Q (op.Stack Pop) a g e p = top D tt m pc g.stack _ (λ v s. (e, p, tt))
  does_outer Q (op.Branch t to) a g e p = int D tt m pc g.stack _ (λ x s. branched D tt m pc _ to (with_stack g s) a e p)
  does_outer Q (op.Goto to) a g e p = (e, p, a)
  does_outer Q (op.InvokeStatic c) a g e p = method D tt m pc (method_at Q c) _ (λ k. ran D tt m pc (has_code (Some k)) c g e p a tt)
  does_outer Q (op.Context call.Commit) a g e p = context D tt m pc g.stack _ (λ s. (e, p, tt))
  does_outer Q (op.Context call.Rollback) a g e p = context D tt m pc g.stack _ (λ s. (e, p, tt))
  does_outer Q op.Return a g e p = (e, p, tt)
  does_outer Q (op.ReturnValue t) a g e p = a_value D tt m pc t g.stack _ (λ v s. (e, p, tt))
  does_outer Q op.Throw a g e p = ref D tt m pc g.stack _ (λ o s. some D tt m pc o (with_stack g s) _ e p tt (thrown D tt m pc (is_counted Q g.method) o (with_stack g s) e p tt tt))
  does_outer Q o a g e p = absurd a

-- ---- the code behind an attempt's beginning

module _ (first : ℕ) where
  abbrev AreOuter : List Op → Type 0
  AreOuter = AllByRecursion (IsOuterOp first)

  outer_append : (xs ys : List Op) → AreOuter xs → AreOuter ys → AreOuter (xs ++ ys)
  outer_append [] ys p q = q
  outer_append (x ∷ xs) ys p q = (p.0, outer_append xs ys p.1 q)

  loads_outer : (i : ℕ) (ts : List VType) → AreOuter (load_all i ts)
  loads_outer i [] = tt
  loads_outer i (type.Int ∷ ts) = (tt, loads_outer (suc i) ts)
  loads_outer i (type.Long ∷ ts) = (tt, loads_outer (suc i) ts)
  loads_outer i (type.Second ∷ ts) = loads_outer (suc i) ts
  loads_outer i (type.Null ∷ ts) = (tt, loads_outer (suc i) ts)
  loads_outer i (type.Ref n ∷ ts) = (tt, loads_outer (suc i) ts)
  loads_outer i (type.Uninit p ∷ ts) = (tt, loads_outer (suc i) ts)
  loads_outer i (type.UninitThis ∷ ts) = (tt, loads_outer (suc i) ts)
  loads_outer i (type.Top ∷ ts) = (tt, loads_outer (suc i) ts)

  body_outer : (k : Method) (m : ℕ) → k.dispatch ≡ dispatch.Static → first ≤ m → AreOuter (body_code k m)
  body_outer k m static le = outer_append (load_all 0 k.parameters) _ (loads_outer 0 k.parameters) (rw static (tt, (le, tt)))

  end_outer : (t : Option VType) (c : ℕ) → AreOuter (end_code t c)
  end_outer None c = (tt, (tt, (refl, (tt, tt))))
  end_outer (Some t) c = (tt, (tt, (tt, (refl, (tt, (tt, tt))))))

  pub tail_outer : (k : Method) (m : ℕ) → k.dispatch ≡ dispatch.Static → first ≤ m → AreOuter (body_code k m ++ end_code k.result k.places ++ conflict_code k.places ++ exception_code k.places)
  tail_outer k m static le =
      outer_append (body_code k m ++ end_code k.result k.places ++ conflict_code k.places) (exception_code k.places)
      (outer_append (body_code k m ++ end_code k.result k.places) (conflict_code k.places)
      (outer_append (body_code k m) (end_code k.result k.places) (body_outer k m static le) (end_outer k.result k.places))
      (tt, (tt, (tt, (refl, tt)))))
      (tt, (tt, (tt, (refl, (tt, (tt, tt))))))

  pub outer_at : (os : List Op) (i : ℕ) (o : Op) → AreOuter os → slice_get os i ≡ Some o → IsOuterOp first o
  outer_at [] i o all e = cc
  outer_at (x ∷ os) zero o all e = let s : x ≡ o = cc in subst (IsOuterOp first) s all.0
  outer_at (x ∷ os) (suc i) o all e = outer_at os i o all.1 e
