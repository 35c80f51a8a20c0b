-- What runs above a wrapper's call: methods that the rewriting added. They begin and end no attempt, and call no other methods.
use Rattle.std.proofs.Common.{◌≡◌, ℕ, ℤ, zero, suc, ◌+◌, ◌≤◌, List, [], ◌∷◌, Option, Some, None, Bool, true, false}
use Rattle.std.specs.Prelude.{pos, negsuc, slice_get, nat_lt, if◌then◌else◌}
use Rattle.std.specs.Ordering.{int_eq}
use Rattle.std.specs.Int.{w64, cast_unsigned}
use Rattle.jmodel.specs.declared.value.Value.{Value}
use Rattle.objects.specs.declared.op.Slot.{Slot}
use Rattle.objects.specs.declared.op.Slot.TheVariants.{Int, Long, Second, Ref, Context, Loaded}
use Rattle.objects.specs.declared.op.Sort.{Sort}
use Rattle.objects.specs.declared.op.Sort.TheVariants as sort
use Rattle.objects.specs.declared.op.Width.{Width}
use Rattle.objects.specs.declared.op.Width.TheVariants as width
use Rattle.objects.specs.declared.op.WordType.{WordType}
use Rattle.objects.specs.declared.op.Division.{Division}
use Rattle.objects.specs.declared.op.Conversion.TheVariants.{IntToByte, IntToChar, IntToShort, IntToLong, LongToInt}
use Rattle.objects.specs.declared.op.StackOp.TheVariants.{Nop, Pop, Pop2, Dup, DupX1, DupX2, Dup2, Dup2X1, Dup2X2, Swap}
use Rattle.objects.specs.declared.op.ContextCall.{ContextCall}
use Rattle.objects.specs.declared.op.ContextCall.TheVariants as call
use Rattle.objects.specs.declared.op.Op.{Op}
use Rattle.objects.specs.declared.op.Op.TheVariants as op
use Rattle.objects.specs.declared.op.Place.{Place}
use Rattle.objects.specs.declared.op.Request.{Request}
use Rattle.objects.specs.declared.op.Request.TheVariants as request
use Rattle.objects.specs.declared.op.Element.TheVariants as element
use Rattle.objects.specs.declared.op.Use.{Use}
use Rattle.objects.specs.declared.op.Use.TheVariants.{Selects, Implements, Indexes}
use Rattle.objects.specs.declared.op.Doing.{Doing}
use Rattle.objects.specs.declared.op.Doing.TheVariants.{Invoke, Head, Ask}
use Rattle.objects.specs.semantics.Value.{kept_by, word_of}
use Rattle.objects.specs.semantics.Program.{Field, Method, Program, method_at, field_at, has_code, selected, is_counted}
use Rattle.objects.specs.semantics.Step.{Frame, Did, Does, Wrong, with_stack, on_top, int_in, on_int, ref_in, on_ref, second_in, long_in, on_long, on_number, context_in, on_context, loaded_in, on_loaded, object_in, on_value, sort_of, on_word, slot_in, field_in, number_in, static_in, method_in, place_in, element_in, not_null, if_object, throws, divides, branches, loads, set_local, set_long, stores, without, over_object, runs, sized, context_calls, does, inner}

module _ (Q : Program) (first : ℕ) where
  -- a method that was added
  abbrev pub IsAdded : ℕ → Type 0
  IsAdded m = first ≤ m

  -- whatever is selected for a method was added
  abbrev pub SelectsAdded : ℕ → Type 0
  SelectsAdded m = (t to : ℕ) → selected Q t m ≡ Some to → IsAdded to

  abbrev pub IsInnerUse : Use → Type 0
  IsInnerUse (Selects m) = SelectsAdded m
  IsInnerUse (Implements m c) = SelectsAdded m
  IsInnerUse u = Unit {0}

  abbrev pub IsInnerRequest : Request → Type 0
  IsInnerRequest (request.Begin n) = ⊥
  IsInnerRequest request.Commit = ⊥
  IsInnerRequest request.Rollback = ⊥
  IsInnerRequest q = Unit {0}

  abbrev pub IsInnerDoing : Doing → Type 0
  IsInnerDoing (Invoke m) = IsAdded m
  IsInnerDoing (Head o u) = IsInnerUse u
  IsInnerDoing (Ask q) = IsInnerRequest q
  IsInnerDoing d = Unit {0}

  abbrev pub IsInnerCall : ContextCall → Type 0
  IsInnerCall call.Init = ⊥
  IsInnerCall call.Commit = ⊥
  IsInnerCall call.Rollback = ⊥
  IsInnerCall c = Unit {0}

  abbrev pub IsInnerOp : Op → Type 0
  IsInnerOp (op.InvokeStatic m) = IsAdded m
  IsInnerOp (op.InvokeSpecial m) = IsAdded m
  IsInnerOp (op.InvokeVirtual m n) = SelectsAdded m
  IsInnerOp (op.InvokeInterface m c) = SelectsAdded m
  IsInnerOp (op.Context c) = IsInnerCall c
  IsInnerOp o = Unit {0}

  module _ (m : ℕ) where
    -- an instruction of a method's frame stays in the frame
    abbrev pub IsInnerDid : Did → Type 0
    IsInnerDid Wrong = Unit {0}
    IsInnerDid (Does d g) = (g.method ≡ m) × IsInnerDoing d

    top : (s : List Slot) (k : Slot → List Slot → Did) → ((v : Slot) (t : List Slot) → IsInnerDid (k v t)) → IsInnerDid (on_top s k)
    top [] k h = tt
    top (v ∷ s) k h = h v s

    an_int : (v : Slot) (k : ℤ → Did) → ((x : ℤ) → IsInnerDid (k x)) → IsInnerDid (int_in v k)
    an_int (Int x) k h = h x
    an_int v k h = tt

    int : (s : List Slot) (k : ℤ → List Slot → Did) → ((x : ℤ) (t : List Slot) → IsInnerDid (k x t)) → IsInnerDid (on_int s k)
    int s k h = top s _ (λ v t. an_int v (λ x. k x t) (λ x. h x t))

    a_ref : (v : Slot) (k : ℕ → Did) → ((x : ℕ) → IsInnerDid (k x)) → IsInnerDid (ref_in v k)
    a_ref (Ref x) k h = h x
    a_ref v k h = tt

    ref : (s : List Slot) (k : ℕ → List Slot → Did) → ((x : ℕ) (t : List Slot) → IsInnerDid (k x t)) → IsInnerDid (on_ref s k)
    ref s k h = top s _ (λ v t. a_ref v (λ x. k x t) (λ x. h x t))

    a_second : (v : Slot) (k : Did) → IsInnerDid k → IsInnerDid (second_in v k)
    a_second Second k h = h
    a_second v k h = tt

    a_long : (v : Slot) (k : ℤ → Did) → ((x : ℤ) → IsInnerDid (k x)) → IsInnerDid (long_in v k)
    a_long (Long x) k h = h x
    a_long v k h = tt

    long : (s : List Slot) (k : ℤ → List Slot → Did) → ((x : ℤ) (t : List Slot) → IsInnerDid (k x t)) → IsInnerDid (on_long s k)
    long s k h = top s _ (λ v t. a_second v _ (top t _ (λ u t. a_long u (λ x. k x t) (λ x. h x t))))

    number : (w : Width) (s : List Slot) (k : ℤ → List Slot → Did) → ((x : ℤ) (t : List Slot) → IsInnerDid (k x t)) → IsInnerDid (on_number w s k)
    number width.Int s k h = int s k h
    number width.Long s k h = long s k h

    a_context : (v : Slot) (k : Did) → IsInnerDid k → IsInnerDid (context_in v k)
    a_context Context k h = h
    a_context v k h = tt

    context : (s : List Slot) (k : List Slot → Did) → ((t : List Slot) → IsInnerDid (k t)) → IsInnerDid (on_context s k)
    context s k h = top s _ (λ v t. a_context v (k t) (h t))

    a_loaded : (v : Slot) (k : Did) → IsInnerDid k → IsInnerDid (loaded_in v k)
    a_loaded Loaded k h = h
    a_loaded v k h = tt

    loaded : (s : List Slot) (k : List Slot → Did) → ((t : List Slot) → IsInnerDid (k t)) → IsInnerDid (on_loaded s k)
    loaded s k h = top s _ (λ v t. a_loaded v (k t) (h t))

    an_object : (v : Slot) (k : Did) → IsInnerDid k → IsInnerDid (object_in v k)
    an_object (Ref o) k h = h
    an_object Context k h = h
    an_object v k h = tt

    value : (t : Sort) (s : List Slot) (k : Value → List Slot → Did) → ((v : Value) (t : List Slot) → IsInnerDid (k v t)) → IsInnerDid (on_value t s k)
    value sort.Int s k h = int s _ (λ x t. h _ t)
    value sort.Long s k h = long s _ (λ x t. h _ t)
    value sort.Reference s k h = ref s _ (λ x t. h _ t)

    a_word : (t : WordType) (s : List Slot) (k : Value → List Slot → Did) → ((v : Value) (t : List Slot) → IsInnerDid (k v t)) → IsInnerDid (on_word t s k)
    a_word t s k h = value (sort_of t) s _ (λ v u. h (kept_by t v) u)

    slot : (o : Option Slot) (k : Slot → Did) → ((v : Slot) → IsInnerDid (k v)) → IsInnerDid (slot_in o k)
    slot None k h = tt
    slot (Some v) k h = h v

    field : (o : Option Field) (k : Field → Did) → ((f : Field) → IsInnerDid (k f)) → IsInnerDid (field_in o k)
    field None k h = tt
    field (Some v) k h = h v

    numbered_in : (o : Option ℕ) (k : ℕ → Did) → ((n : ℕ) → IsInnerDid (k n)) → IsInnerDid (number_in o k)
    numbered_in None k h = tt
    numbered_in (Some v) k h = h v

    static : (o : Option Field) (k : Field → Place → Did) → ((f : Field) (p : Place) → IsInnerDid (k f p)) → IsInnerDid (static_in o k)
    static o k h = field o _ (λ f. numbered_in f.base _ (λ b. h f _))

    method : (o : Option Method) (k : Method → Did) → ((c : Method) → IsInnerDid (k c)) → IsInnerDid (method_in o k)
    method None k h = tt
    method (Some v) k h = h v

    placed : (b : Bool) (k : Did) → IsInnerDid k → IsInnerDid (if b then k else Wrong)
    placed true k h = h
    placed false k h = tt

    place : (o i : ℕ) (k : Place → Did) → ((p : Place) → IsInnerDid (k p)) → IsInnerDid (place_in o i k)
    place zero i k h = tt
    place (suc o) i k h = placed (nat_lt (suc o + i) _) _ (h _)

    an_element : (o : ℕ) (i : ℤ) (k : Place → Did) → ((p : Place) → IsInnerDid (k p)) → IsInnerDid (element_in o i k)
    an_element o (pos i) k h = place o (suc i) k h
    an_element o (negsuc i) k h = tt

    some : (o : ℕ) (g : Frame) (k : Did) → g.method ≡ m → IsInnerDid k → IsInnerDid (not_null o g k)
    some zero g k e h = (e, tt)
    some (suc o) g k e h = h

    chosen : (o : ℕ) (a b : Did) → IsInnerDid a → IsInnerDid b → IsInnerDid (if_object o a b)
    chosen zero a b h g = h
    chosen (suc o) a b h g = g

    thrown : (b : Bool) (o : ℕ) (g : Frame) → g.method ≡ m → IsInnerDid (throws b o g)
    thrown true o g e = (e, tt)
    thrown false o g e = (e, tt)

    divided : (b : Bool) (w : Width) (d : Division) (x y : ℤ) (s : List Slot) (g : Frame) → g.method ≡ m → IsInnerDid (divides b w d x y s g)
    divided true w d x y s g e = (e, tt)
    divided false w d x y s g e = (e, tt)

    branched : (b : Bool) (to : ℕ) (g : Frame) → g.method ≡ m → IsInnerDid (branches b to g)
    branched true to g e = (e, tt)
    branched false to g e = (e, tt)

    one_set : (b : Bool) (i : ℕ) (v : Slot) (g : Frame) → g.method ≡ m → IsInnerDid (set_local b i v g)
    one_set true i v g e = (e, tt)
    one_set false i v g e = tt

    long_set : (b : Bool) (i : ℕ) (x : ℤ) (g : Frame) → g.method ≡ m → IsInnerDid (set_long b i x g)
    long_set true i x g e = (e, tt)
    long_set false i x g e = tt

    dropped : (n : ℕ) (s : List Slot) (k : List Slot → Did) → ((t : List Slot) → IsInnerDid (k t)) → IsInnerDid (without n s k)
    dropped zero s k h = h s
    dropped (suc n) [] k h = tt
    dropped (suc n) (v ∷ s) k h = dropped n s k h

    ran : (b : Bool) (c : ℕ) (g : Frame) → g.method ≡ m → IsAdded c → IsInnerDid (runs b c g)
    ran true c g e a = (e, a)
    ran false c g e a = (e, tt)

    sized_in : (n : ℤ) (t : ℕ) (g : Frame) → g.method ≡ m → IsInnerDid (sized n t g)
    sized_in (pos n) t g e = (e, tt)
    sized_in (negsuc n) t g e = (e, tt)

    over : (c : ℕ) (g : Frame) (k : Method → ℕ → Did) → g.method ≡ m → ((x : Method) (o : ℕ) → IsInnerDid (k x o)) → IsInnerDid (over_object Q c g k)
    over c g k e h = method (method_at Q c) _ (λ x. slot _ _ (λ v. a_ref v _ (λ o. some o g _ e (h x o))))

    loads_in : (t : Sort) (i : ℕ) (g : Frame) → g.method ≡ m → IsInnerDid (loads t i g)
    loads_in sort.Int i g e = slot (slice_get g.locals i) _ (λ v. an_int v _ (λ x. (e, tt)))
    loads_in sort.Reference i g e = slot (slice_get g.locals i) _ (λ v. an_object v _ (e, tt))
    loads_in sort.Long i g e = slot (slice_get g.locals i) _ (λ v. a_long v _ (λ x. slot (slice_get g.locals (i + 1)) _ (λ u. a_second u _ (e, tt))))

    stores_in : (t : Sort) (i : ℕ) (g : Frame) → g.method ≡ m → IsInnerDid (stores t i g)
    stores_in sort.Int i g e = int g.stack _ (λ x s. one_set _ i _ (with_stack g s) e)
    stores_in sort.Reference i g e = top g.stack _ (λ v s. an_object v _ (one_set _ i _ (with_stack g s) e))
    stores_in sort.Long i g e = long g.stack _ (λ x s. long_set _ i x (with_stack g s) e)

    called : (c : ContextCall) → IsInnerCall c → (g : Frame) → g.method ≡ m → IsInnerDid (context_calls c g)
    called call.BeforeRead a g e = long g.stack _ (λ i s. ref s _ (λ o s. context s _ (λ s. some o (with_stack g s) _ e (place o _ _ (λ p. (e, tt))))))
    called (call.OnRead t) a g e = long g.stack _ (λ i s. loaded s _ (λ s. ref s _ (λ o s. context s _ (λ s. place o _ _ (λ p. (e, tt))))))
    called (call.OnWrite t) a g e = long g.stack _ (λ i s. a_word t s _ (λ v s. ref s _ (λ o s. context s _ (λ s. some o (with_stack g s) _ e (place o (cast_unsigned w64 i) (λ p. Does (Ask (request.Write p (word_of v))) (with_stack g s)) (λ p. (e, tt)))))))
    called call.BeforeReadElement a g e = int g.stack _ (λ i s. ref s _ (λ o s. context s _ (λ s. some o (with_stack g s) _ e (e, tt))))
    called (call.OnReadElement t) a g e = int g.stack _ (λ i s. loaded s _ (λ s. ref s _ (λ o s. context s _ (λ s. an_element o i _ (λ p. (e, tt))))))
    called (call.OnWriteElement t) a g e = int g.stack _ (λ i s. a_word t s _ (λ v s. ref s _ (λ o s. context s _ (λ s. some o (with_stack g s) (Does (Head o (Indexes i (element.Write v))) (with_stack g s)) e (e, tt)))))
    called c a g e = absurd a

    pub does_inner : (o : Op) → IsInnerOp o → (g : Frame) → g.method ≡ m → IsInnerDid (does Q o g)
    does_inner (op.Constant v) a g e = (e, tt)
    does_inner (op.Text n) a g e = numbered_in (slice_get Q.texts n) _ (λ o. (e, tt))
    does_inner (op.Load t i) a g e = loads_in t i g e
    does_inner (op.Store t i) a g e = stores_in t i g e
    does_inner (op.Stack Nop) a g e = (e, tt)
    does_inner (op.Stack Pop) a g e = top g.stack _ (λ v s. (e, tt))
    does_inner (op.Stack Pop2) a g e = top g.stack _ (λ v s. top s _ (λ v s. (e, tt)))
    does_inner (op.Stack Dup) a g e = top g.stack _ (λ v s. (e, tt))
    does_inner (op.Stack DupX1) a g e = top g.stack _ (λ v s. top s _ (λ v s. (e, tt)))
    does_inner (op.Stack DupX2) a g e = top g.stack _ (λ v s. top s _ (λ v s. top s _ (λ v s. (e, tt))))
    does_inner (op.Stack Dup2) a g e = top g.stack _ (λ v s. top s _ (λ v s. (e, tt)))
    does_inner (op.Stack Dup2X1) a g e = top g.stack _ (λ v s. top s _ (λ v s. top s _ (λ v s. (e, tt))))
    does_inner (op.Stack Dup2X2) a g e = top g.stack _ (λ v s. top s _ (λ v s. top s _ (λ v s. top s _ (λ v s. (e, tt)))))
    does_inner (op.Stack Swap) a g e = top g.stack _ (λ v s. top s _ (λ v s. (e, tt)))
    does_inner (op.Binary w b) a g e = number w g.stack _ (λ x s. number w s _ (λ x s. (e, tt)))
    does_inner (op.Shift w b) a g e = int g.stack _ (λ x s. number w s _ (λ x s. (e, tt)))
    does_inner (op.Divide w b) a g e = number w g.stack _ (λ y s. number w s _ (λ x s. divided (int_eq y (pos 0)) w b x y s g e))
    does_inner (op.Unary w u) a g e = number w g.stack _ (λ x s. (e, tt))
    does_inner (op.Convert IntToByte) a g e = int g.stack _ (λ x s. (e, tt))
    does_inner (op.Convert IntToChar) a g e = int g.stack _ (λ x s. (e, tt))
    does_inner (op.Convert IntToShort) a g e = int g.stack _ (λ x s. (e, tt))
    does_inner (op.Convert IntToLong) a g e = int g.stack _ (λ x s. (e, tt))
    does_inner (op.Convert LongToInt) a g e = long g.stack _ (λ x s. (e, tt))
    does_inner op.CompareLongs a g e = long g.stack _ (λ x s. long s _ (λ x s. (e, tt)))
    does_inner (op.Increment i n) a g e = slot (slice_get g.locals i) _ (λ v. an_int v _ (λ x. (e, tt)))
    does_inner (op.Branch t to) a g e = int g.stack _ (λ x s. branched _ to (with_stack g s) e)
    does_inner (op.BranchInts t to) a g e = int g.stack _ (λ x s. int s _ (λ x s. branched _ to (with_stack g s) e))
    does_inner (op.BranchNull b to) a g e = ref g.stack _ (λ x s. branched _ to (with_stack g s) e)
    does_inner (op.BranchReferences b to) a g e = ref g.stack _ (λ x s. ref s _ (λ x s. branched _ to (with_stack g s) e))
    does_inner (op.Goto to) a g e = (e, tt)
    does_inner (op.Switch other cases) a g e = int g.stack _ (λ x s. (e, tt))
    does_inner (op.GetStatic n) a g e = static (field_at Q n) (λ x p. Does (Ask (request.Get p)) g) (λ x p. (e, tt))
    does_inner (op.PutStatic n) a g e = static (field_at Q n) _ (λ x p. a_word x.declared.word g.stack (λ v s. Does (Ask (request.Put p v)) (with_stack g s)) (λ v s. (e, tt)))
    does_inner (op.GetField n c) a g e = field (field_at Q n) _ (λ x. ref g.stack _ (λ o s. some o (with_stack g s) _ e (e, tt)))
    does_inner (op.PutField n c) a g e = field (field_at Q n) _ (λ x. a_word x.declared.word g.stack _ (λ v s. ref s (λ o s. not_null o (with_stack g s) (Does (Ask (request.Put (inner o x) v)) (with_stack g s))) (λ o s. some o (with_stack g s) (Does (Ask (request.Put (inner o x) v)) (with_stack g s)) e (e, tt))))
    does_inner (op.InvokeStatic c) a g e = method (method_at Q c) _ (λ k. ran (has_code (Some k)) c g e a)
    does_inner (op.InvokeSpecial c) a g e = over c g _ e (λ k o. ran (has_code (Some k)) c g e a)
    does_inner (op.InvokeVirtual c n) a g e = over c g _ e (λ k o. (e, a))
    does_inner (op.InvokeInterface c n) a g e = over c g _ e (λ k o. (e, a))
    does_inner (op.InitLibrary c n) a g e = dropped n g.stack _ (λ s. ref s _ (λ o s. (e, tt)))
    does_inner (op.New t) a g e = (e, tt)
    does_inner (op.NewArray t) a g e = int g.stack _ (λ n s. sized_in n t (with_stack g s) e)
    does_inner op.ArrayLength a g e = ref g.stack _ (λ o s. some o (with_stack g s) _ e (e, tt))
    does_inner (op.LoadElement t) a g e = int g.stack _ (λ i s. ref s _ (λ o s. some o (with_stack g s) _ e (e, tt)))
    does_inner (op.StoreElement t) a g e = value (sort_of t) g.stack _ (λ v s. int s _ (λ i s. ref s _ (λ o s. some o (with_stack g s) (Does (Head o (Indexes i (element.Store v))) (with_stack g s)) e (e, tt))))
    does_inner (op.CheckCast c) a g e = ref g.stack _ (λ o s. chosen o _ _ (e, tt) (e, tt))
    does_inner (op.InstanceOf c) a g e = ref g.stack _ (λ o s. chosen o _ _ (e, tt) (e, tt))
    does_inner op.Return a g e = (e, tt)
    does_inner (op.ReturnValue t) a g e = value t g.stack _ (λ v s. (e, tt))
    does_inner op.Throw a g e = ref g.stack _ (λ o s. some o (with_stack g s) _ e (thrown (is_counted Q g.method) o (with_stack g s) e))
    does_inner op.GetContext a g e = (e, tt)
    does_inner (op.Context c) a g e = called c a g e
