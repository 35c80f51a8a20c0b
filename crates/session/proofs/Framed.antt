-- The frames of a wrapper's call: those of added methods above that of the wrapper, which asks for attempts with its own number alone.
use Rattle.std.proofs.Common.{◌≡◌, ℕ, ℤ, zero, suc, ◌≤◌, List, [], ◌∷◌, Option, Some, None, Bool, true, false, refl, sym, ap, subst, ◌∙◌, arith, nat_lt}
use Rattle.std.specs.Prelude.{pos, slice_get, nat_le, ◌&&◌, if◌then◌else◌, option_and_then}
use Rattle.std.specs.List.{AllByRecursion}
use Rattle.jmodel.specs.declared.value.Value.{Value}
use Rattle.jmodel.specs.declared.value.Value.TheVariants as value
use Rattle.objects.specs.declared.op.Slot.{Slot}
use Rattle.objects.specs.declared.op.Slot.TheVariants.{Int, Long, Second, Ref, Context, Loaded, Empty}
use Rattle.objects.specs.declared.op.Sort.TheVariants as sort
use Rattle.objects.specs.declared.op.Op.{Op}
use Rattle.objects.specs.declared.op.Op.TheVariants as op
use Rattle.objects.specs.declared.op.ContextCall.TheVariants as call
use Rattle.objects.specs.declared.op.Catch.{Catch}
use Rattle.objects.specs.declared.op.Trap.{Trap as Trapping}
use Rattle.objects.specs.declared.op.Trap.TheVariants.{IncompatibleClassChange, ClassCast, ArrayIndex, ArrayStore}
use Rattle.objects.specs.declared.op.Doing.{Doing}
use Rattle.objects.specs.declared.op.Doing.TheVariants as doing
use Rattle.objects.specs.declared.op.Element.{Element}
use Rattle.objects.specs.declared.op.Element.TheVariants as element
use Rattle.objects.specs.declared.op.Use.{Use}
use Rattle.objects.specs.declared.op.Use.TheVariants.{Selects, Implements, Casts, Tests, Measures, Indexes, Fits}
use Rattle.objects.specs.declared.op.Place.{Place}
use Rattle.objects.specs.declared.op.Request.{Request}
use Rattle.objects.specs.declared.op.Request.TheVariants as request
use Rattle.objects.specs.declared.op.Asking.TheVariants.{Go, Turn, Enter, Return, Throw, Raise, Make, Head, Ask}
use Rattle.objects.specs.semantics.Program.{Method, Program, method_at, op_at, row_at, is_counted, is_instance, selected}
use Rattle.objects.specs.semantics.Step.{Frame, Frames, Did, Does, Wrong, Asked, Asks, Fails, Taken, Took, TooFew, with_stack, on_int, int_in, on_context, context_in, context_calls, goes, enters, take_args, with_args, invokes, found, gives, find_catch, catch_at, caught, unwinds, on_doing, on_did, acts, step, advanced, resumed, truth, or_trap, enters_found, in_bounds, accesses, fitted, stored, kept_in, element_place, if_addressed, has_address, told, takes, does}
use Rattle.objects.proofs.Inner.{IsAdded, IsInnerUse, IsInnerRequest, IsInnerDoing, IsInnerDid, IsInnerOp, does_inner}
use Rattle.session.proofs.Outer.{IsOuterOp, IsOuterDoing, BeginsNone, IsNext, IsOuterDid, does_quiet, does_outer, outer_at}

-- the entries of a wrapper go behind its attempt's beginning
abbrev pub GoBehind : List Catch → Type 0
GoBehind cs = AllByRecursion (λ (c : Catch). 6 ≤ c.at) cs

caught_behind : (Q : Program) (cs : List Catch) (pc t to : ℕ) → GoBehind cs → find_catch Q cs pc t ≡ Some to → 6 ≤ to
caught_behind Q [] pc t to h e = cc
caught_behind Q (c ∷ cs) pc t to h e = by (nat_le c.from pc && nat_lt pc c.to && takes Q c.catches t) (caught_behind Q cs pc t to h.1) e
  where
    by : (b : Bool) → (find_catch Q cs pc t ≡ Some to → 6 ≤ to) → (if b then Some c.at else find_catch Q cs pc t) ≡ Some to → 6 ≤ to
    by true rest f = let s : c.at ≡ to = cc in subst (λ (n : ℕ). 6 ≤ n) s h.0
    by false rest f = rest f

op_found : (o : Option Method) (pc : ℕ) (x : Op) → option_and_then (λ (k : Method). slice_get k.ops pc) o ≡ Some x → (k : Method) × (o ≡ Some k) × (slice_get k.ops pc ≡ Some x)
op_found None pc x e = cc
op_found (Some k) pc x e = (k, refl, e)

catch_found : (Q : Program) (o : Option Method) (wm : Method) (pc t to : ℕ) → o ≡ Some wm → GoBehind wm.catches → option_and_then (λ (k : Method). find_catch Q k.catches pc t) o ≡ Some to → 6 ≤ to
catch_found Q None wm pc t to is h e = cc
catch_found Q (Some k) wm pc t to is h e = let s : k ≡ wm = cc in caught_behind Q wm.catches pc t to h (subst (λ (x : Method). find_catch Q x.catches pc t ≡ Some to) s e)

module _ (Q : Program) (first mn : ℕ) (retries : ℤ) where
  -- A frame of the wrapper that waits stands at its attempt's beginning or behind it; all frames above it are of added methods.
  abbrev pub Waits : Frames → Type 0
  Waits [] = ⊥
  Waits (f ∷ []) = (f.method ≡ mn) × (5 ≤ f.pc)
  Waits (f ∷ g ∷ fs) = IsAdded Q first f.method × Waits (g ∷ fs)

  -- one that runs has its number of attempts on its stack where it begins one
  abbrev pub IsSet : Frame → Type 0
  IsSet f = (f.method ≡ mn) × (f.pc ≡ 5 → (s : List Slot) × (f.stack ≡ Int retries ∷ s))

  abbrev pub Fine : Frames → Type 0
  Fine [] = Unit {0}
  Fine (f ∷ []) = IsSet f
  Fine (f ∷ g ∷ fs) = IsAdded Q first f.method × Waits (g ∷ fs)

  -- a request that begins an attempt has the wrapper's number
  abbrev pub IsFair : Request → Type 0
  IsFair (request.Begin n) = n ≡ retries
  IsFair q = Unit {0}

  abbrev pub IsWell : Asked → Type 0
  IsWell (Asks Go fs) = Fine fs
  IsWell (Asks Turn fs) = Fine fs
  IsWell (Asks (Enter deep) fs) = Fine fs
  IsWell (Asks (Return v) fs) = Unit {0}
  IsWell (Asks (Throw o) fs) = Unit {0}
  IsWell (Asks (Raise o) fs) = Waits fs
  IsWell (Asks (Make t n d) fs) = Waits fs
  IsWell (Asks (Head o u) fs) = IsInnerUse Q first u × Waits fs
  IsWell (Asks (Ask q) fs) = IsFair q × Waits fs
  IsWell Fails = Unit {0}

  -- frames go on behind where they waited
  pub next_fine : (fs : Frames) → Waits fs → Fine (advanced fs)
  next_fine [] h = tt
  next_fine (f ∷ []) h = (h.0, λ five. let le = h.1 in absurd (omega (arith, five, le)))
  next_fine (f ∷ g ∷ fs) h = h

  pub resumed_fine : (vs : List Slot) (fs : Frames) → Waits fs → Fine (resumed vs fs)
  resumed_fine vs [] h = tt
  resumed_fine vs (f ∷ []) h = (h.0, λ five. let le = h.1 in absurd (omega (arith, five, le)))
  resumed_fine vs (f ∷ g ∷ fs) h = h

  gives_fine : (v : Option Value) (fs : Frames) → Waits fs → IsWell (gives v fs)
  gives_fine v [] h = tt
  gives_fine None (f ∷ []) h = (h.0, λ five. let le = h.1 in absurd (omega (arith, five, le)))
  gives_fine (Some v) (f ∷ []) h = (h.0, λ five. let le = h.1 in absurd (omega (arith, five, le)))
  gives_fine None (f ∷ g ∷ fs) h = h
  gives_fine (Some v) (f ∷ g ∷ fs) h = h

  goes_well : (b : Bool) (fs : Frames) → Fine fs → IsWell (goes b fs)
  goes_well true fs h = h
  goes_well false fs h = h

  enters_well : (b : Bool) (fs : Frames) → Fine fs → IsWell (enters Q b fs)
  enters_well true fs h = h
  enters_well false fs h = h

  -- an added method is entered from frames that wait
  args_well : (t : Taken) (m : ℕ) (k : Method) (f : Frame) (fs : Frames) → IsAdded Q first m → ((s : List Slot) → Waits (with_stack f s ∷ fs)) → IsWell (with_args Q t m k f fs)
  args_well TooFew m k f fs added waits = tt
  args_well (Took args s) m k f fs added waits = enters_well k.counted _ (added, waits s)

  invokes_well : (o : Option Method) (m : ℕ) (f : Frame) (fs : Frames) → IsAdded Q first m → ((s : List Slot) → Waits (with_stack f s ∷ fs)) → IsWell (invokes Q o m f fs)
  invokes_well None m f fs added waits = tt
  invokes_well (Some k) m f fs added waits = args_well (take_args k.places [] f.stack) m k f fs added waits

  with_waits : (f : Frame) (fs : Frames) → Waits (f ∷ fs) → (s : List Slot) → Waits (with_stack f s ∷ fs)
  with_waits f [] h s = h
  with_waits f (g ∷ fs) h s = h

  found_well : (o : Option ℕ) (f : Frame) (fs : Frames) → ((m : ℕ) → o ≡ Some m → IsAdded Q first m) → Waits (f ∷ fs) → IsWell (found Q o f fs)
  found_well None f fs added waits = waits
  found_well (Some m) f fs added waits = invokes_well (method_at Q m) m f fs (added m refl) (with_waits f fs waits)

  enters_found_well : (o : Option ℕ) (fs : Frames) → ((m : ℕ) → o ≡ Some m → IsAdded Q first m) → Waits fs → IsWell (enters_found Q o fs)
  enters_found_well o [] added waits = tt
  enters_found_well o (f ∷ fs) added waits = found_well o f fs added waits

  or_trap_well : (b : Bool) (t : Trapping) (fs : Frames) (a : Asked) → Waits fs → IsWell a → IsWell (or_trap b t fs a)
  or_trap_well true t fs a waits h = h
  or_trap_well false t fs a waits h = waits

  accesses_well : (p : Place) (e : Element) (fs : Frames) → Waits fs → IsWell (accesses p e fs)
  accesses_well p element.Load fs h = (tt, h)
  accesses_well p (element.Store v) fs h = (tt, h)
  accesses_well p element.Look fs h = (tt, h)
  accesses_well p (element.Write v) fs h = (tt, h)

  fitted_well : (a : ℕ) (p : Place) (e : Element) (v : Value) (fs : Frames) → Waits fs → IsWell (fitted a p e v fs)
  fitted_well a p e (value.Ref (suc o)) fs h = (tt, h)
  fitted_well a p e (value.Ref zero) fs h = accesses_well p e fs h
  fitted_well a p e (value.Int x) fs h = accesses_well p e fs h
  fitted_well a p e (value.Long x) fs h = accesses_well p e fs h

  stored_well : (a : ℕ) (p : Place) (e : Element) (fs : Frames) → Waits fs → IsWell (stored a p e fs)
  stored_well a p (element.Store v) fs h = fitted_well a p (element.Store v) v fs h
  stored_well a p (element.Write v) fs h = fitted_well a p (element.Write v) v fs h
  stored_well a p element.Load fs h = (tt, h)
  stored_well a p element.Look fs h = (tt, h)

  addressed_well : (b : Bool) (a : Asked) → IsWell a → IsWell (if_addressed b a)
  addressed_well true a h = h
  addressed_well false a h = tt

  -- what goes on by a header
  pub told_well : (u : Use) (o t n : ℕ) (fs : Frames) → IsInnerUse Q first u → Waits fs → IsWell (told Q u o t n fs)
  told_well (Selects m) o t n fs a h = enters_found_well (selected Q t m) fs (a t) h
  told_well (Implements m c) o t n fs a h = or_trap_well (is_instance Q t c) IncompatibleClassChange fs _ h (enters_found_well (selected Q t m) fs (a t) h)
  told_well (Casts c) o t n fs a h = or_trap_well (is_instance Q t c) ClassCast fs _ h (next_fine fs h)
  told_well (Tests c) o t n fs a h = resumed_fine (truth (is_instance Q t c) ∷ []) fs h
  told_well Measures o t n fs a h = resumed_fine (Int (pos n) ∷ []) fs h
  told_well (Indexes i e) o t n fs a h = or_trap_well (in_bounds i n) ArrayIndex fs _ h (addressed_well (has_address (element_place o i)) _ (stored_well t (element_place o i) (kept_in (row_at Q t) e) fs h))
  told_well (Fits b p e) o t n fs a h = or_trap_well _ ArrayStore fs _ h (accesses_well p e fs h)

  -- an exception goes to an entry of an added method, or behind the wrapper's call
  module _ (wm : Method) (is : slice_get Q.methods mn ≡ Some wm) (entries : GoBehind wm.catches) where
    caught_last : (f : Frame) (e t : ℕ) (o : Option ℕ) → f.method ≡ mn → ((to : ℕ) → o ≡ Some to → 6 ≤ to) → IsWell (caught Q o e f [] (unwinds Q e t []))
    caught_last f e t None m le = tt
    caught_last f e t (Some to) m le = goes_well (is_counted Q f.method && nat_le to f.pc) _ (m, λ five. let low = le to refl in absurd (omega (arith, five, low)))

    caught_above : (f g : Frame) (fs : Frames) (e : ℕ) (o : Option ℕ) (others : Asked) → IsAdded Q first f.method → Waits (g ∷ fs) → IsWell others → IsWell (caught Q o e f (g ∷ fs) others)
    caught_above f g fs e None others added waits h = h
    caught_above f g fs e (Some to) others added waits h = goes_well (is_counted Q f.method && nat_le to f.pc) _ (added, waits)

    entry_behind : (m pc t : ℕ) → m ≡ mn → (to : ℕ) → catch_at Q m pc t ≡ Some to → 6 ≤ to
    entry_behind m pc t same to e = catch_found Q (method_at Q mn) wm pc t to is entries (subst (λ (i : ℕ). catch_at Q i pc t ≡ Some to) same e)

    pub unwinds_well : (e t : ℕ) (fs : Frames) → Waits fs → IsWell (unwinds Q e t fs)
    unwinds_well e t [] h = tt
    unwinds_well e t (f ∷ []) h = caught_last f e t (catch_at Q f.method f.pc t) h.0 (entry_behind f.method f.pc t h.0)
    unwinds_well e t (f ∷ g ∷ fs) h = caught_above f g fs e (catch_at Q f.method f.pc t) (unwinds Q e t (g ∷ fs)) h.0 h.1 (unwinds_well e t (g ∷ fs) h.1)

    -- ---- one step

    inner_fair : (q : Request) → IsInnerRequest Q first q → IsFair q
    inner_fair (request.Begin n) a = absurd a
    inner_fair (request.Get p) a = tt
    inner_fair (request.Put p v) a = tt
    inner_fair (request.Look p) a = tt
    inner_fair (request.Read p t) a = tt
    inner_fair (request.Write p x) a = tt
    inner_fair request.Commit a = tt
    inner_fair request.Rollback a = tt

    inner_well : (m : ℕ) (d : Did) (g : Frame) (fs : Frames) → IsAdded Q first m → Waits (g ∷ fs) → IsInnerDid Q first m d → IsWell (on_did Q d (g ∷ fs))
    inner_well m Wrong g fs added waits h = tt
    inner_well m (Does d f) g fs added waits h = by d h.1
      where
        own : IsAdded Q first f.method
        own = subst (IsAdded Q first) (sym h.0) added

        by : (d : Doing) → IsInnerDoing Q first d → IsWell (on_doing Q d f (g ∷ fs))
        by doing.Next a = (own, waits)
        by (doing.Jump to) a = goes_well (is_counted Q f.method && nat_le to f.pc) _ (own, waits)
        by (doing.Invoke c) a = invokes_well (method_at Q c) c f (g ∷ fs) a (λ s. (own, waits))
        by (doing.Give v) a = gives_fine v (g ∷ fs) waits
        by (doing.Throw o) a = unwinds_well o 0 (f ∷ g ∷ fs) (own, waits)
        by (doing.Raise o) a = (own, waits)
        by (doing.Trap t) a = (own, waits)
        by (doing.Make t n) a = (own, waits)
        by (doing.Head o u) a = (a, (own, waits))
        by (doing.Ask q) a = (inner_fair q a, (own, waits))

    outer_fair : (q : Request) → BeginsNone q → IsFair q
    outer_fair (request.Begin n) a = absurd a
    outer_fair (request.Get p) a = tt
    outer_fair (request.Put p v) a = tt
    outer_fair (request.Look p) a = tt
    outer_fair (request.Read p t) a = tt
    outer_fair (request.Write p x) a = tt
    outer_fair request.Commit a = tt
    outer_fair request.Rollback a = tt

    -- behind the attempt's beginning
    outer_well : (pc : ℕ) (d : Did) → 6 ≤ pc → IsOuterDid (IsOuterDoing first) tt mn pc d → IsWell (on_did Q d [])
    outer_well pc Wrong low h = tt
    outer_well pc (Does d f) low h = by d h.2
      where
        p : f.pc ≡ pc
        p = h.1

        waits : Waits (f ∷ [])
        waits = (h.0, omega (arith, low, p))

        by : (d : Doing) → IsOuterDoing first d → IsWell (on_doing Q d f [])
        by doing.Next a = (h.0, λ five. absurd (omega (arith, five, p, low)))
        by (doing.Jump to) a = goes_well (is_counted Q f.method && nat_le to f.pc) _ (h.0, λ five. absurd (omega (arith, five, a)))
        by (doing.Invoke c) a = invokes_well (method_at Q c) c f [] a (λ s. waits)
        by (doing.Give v) a = tt
        by (doing.Throw o) a = unwinds_well o 0 (f ∷ []) waits
        by (doing.Raise o) a = waits
        by (doing.Trap t) a = waits
        by (doing.Ask q) a = (outer_fair q a, waits)
        by d a = absurd a

    -- before it
    quiet_well : (pc : ℕ) (d : Did) → pc ≤ 3 → IsOuterDid IsNext tt mn pc d → IsWell (on_did Q d [])
    quiet_well pc Wrong low h = tt
    quiet_well pc (Does d f) low h = by d h.2
      where
        p : f.pc ≡ pc
        p = h.1

        by : (d : Doing) → IsNext d → IsWell (on_doing Q d f [])
        by doing.Next a = (h.0, λ five. absurd (omega (arith, five, p, low)))
        by d a = absurd a

    -- where it asks for an attempt
    begins_well : (f : Frame) → f.method ≡ mn → f.pc ≡ 5 → (s : List Slot) → f.stack ≡ Int retries ∷ s → IsWell (on_did Q (context_calls call.Init f) [])
    begins_well f m p s e = rw e (after s)
      where
        on_ctx : (v : Slot) (t : List Slot) → IsWell (on_did Q (context_in v (Does (doing.Ask (request.Begin retries)) (with_stack f t))) [])
        on_ctx Context t = (refl, (m, omega (arith, p)))
        on_ctx (Int x) t = tt
        on_ctx (Long x) t = tt
        on_ctx Second t = tt
        on_ctx (Ref o) t = tt
        on_ctx Loaded t = tt
        on_ctx Empty t = tt

        on_next : (t : List Slot) → IsWell (on_did Q (on_context t (λ u. Does (doing.Ask (request.Begin retries)) (with_stack f u))) [])
        on_next [] = tt
        on_next (v ∷ t) = on_ctx v t

        on_id : (v : Slot) (t : List Slot) → IsWell (on_did Q (int_in v (λ x. on_context t (λ u. Does (doing.Ask (request.Begin retries)) (with_stack f u)))) [])
        on_id (Int x) t = on_next t
        on_id (Long x) t = tt
        on_id Second t = tt
        on_id (Ref o) t = tt
        on_id Context t = tt
        on_id Loaded t = tt
        on_id Empty t = tt

        after : (t : List Slot) → IsWell (on_did Q (on_int t (λ x u. on_context u (λ u. Does (doing.Ask (request.Begin retries)) (with_stack f u)))) [])
        after [] = tt
        after (v ∷ t) = on_id v t

    module _ (ops_inner : (m : ℕ) (k : Method) → IsAdded Q first m → slice_get Q.methods m ≡ Some k → AllByRecursion (IsInnerOp Q first) k.ops)
        (c : ℕ) (id : ℤ) (tail : List Op)
        (code : wm.ops ≡ op.GetContext ∷ op.Store sort.Reference c ∷ op.Load sort.Reference c ∷ op.Constant (value.Int id) ∷ op.Constant (value.Int retries) ∷ op.Context call.Init ∷ tail)
        (outer : AllByRecursion (IsOuterOp first) tail) where
      abbrev whole : List Op
      whole = op.GetContext ∷ op.Store sort.Reference c ∷ op.Load sort.Reference c ∷ op.Constant (value.Int id) ∷ op.Constant (value.Int retries) ∷ op.Context call.Init ∷ tail

      abbrev Does_well : Frame → Op → Type 0
      Does_well f o = IsWell (on_did Q (does Q o f) [])

      -- an instruction of the wrapper
      own_well : (f : Frame) (pc : ℕ) (o : Op) → f.pc ≡ pc → IsSet f → slice_get whole pc ≡ Some o → Does_well f o
      own_well f zero o p set e =
          let s : op.GetContext ≡ o = cc in
          subst (Does_well f) s (quiet_well 0 (does Q op.GetContext f) (omega arith) (does_quiet IsNext tt mn 0 Q op.GetContext tt f set.0 p))
      own_well f (suc zero) o p set e =
          let s : op.Store sort.Reference c ≡ o = cc in
          subst (Does_well f) s (quiet_well 1 (does Q (op.Store sort.Reference c) f) (omega arith) (does_quiet IsNext tt mn 1 Q (op.Store sort.Reference c) tt f set.0 p))
      own_well f (suc (suc zero)) o p set e =
          let s : op.Load sort.Reference c ≡ o = cc in
          subst (Does_well f) s (quiet_well 2 (does Q (op.Load sort.Reference c) f) (omega arith) (does_quiet IsNext tt mn 2 Q (op.Load sort.Reference c) tt f set.0 p))
      own_well f (suc (suc (suc zero))) o p set e =
          let s : op.Constant (value.Int id) ≡ o = cc in
          subst (Does_well f) s (quiet_well 3 (does Q (op.Constant (value.Int id)) f) (omega arith) (does_quiet IsNext tt mn 3 Q (op.Constant (value.Int id)) tt f set.0 p))
      own_well f (suc (suc (suc (suc zero)))) o p set e =
          let s : op.Constant (value.Int retries) ≡ o = cc in
          subst (Does_well f) s (set.0, λ five. (f.stack, refl))
      own_well f (suc (suc (suc (suc (suc zero))))) o p set e =
          let s : op.Context call.Init ≡ o = cc in
          let top = set.1 p in
          subst (Does_well f) s (begins_well f set.0 p top.0 top.1)
      own_well f (suc (suc (suc (suc (suc (suc i)))))) o p set e =
          outer_well (suc (suc (suc (suc (suc (suc i)))))) (does Q o f) (omega arith)
          (does_outer first mn (suc (suc (suc (suc (suc (suc i)))))) Q o (outer_at first tail i o outer e) f set.0 p)

      acts_well : (o : Option Op) (f : Frame) → op_at Q f.method f.pc ≡ o → IsSet f → IsWell (acts Q o f [])
      acts_well None f e set = tt
      acts_well (Some o) f e set =
          let at_mn : op_at Q mn f.pc ≡ Some o = ap (λ (m : ℕ). op_at Q m f.pc) (sym set.0) ∙ e in
          let found = op_found (method_at Q mn) f.pc o at_mn in
          let known : method_at Q mn ≡ Some found.0 = found.1 in
          let same : found.0 ≡ wm = cc (known, is) in
          let here : slice_get whole f.pc ≡ Some o = ap (λ (os : List Op). slice_get os f.pc) (sym code) ∙ ap (λ (k : Method). slice_get k.ops f.pc) (sym same) ∙ found.2 in
          own_well f f.pc o refl set here

      inner_at : (os : List Op) (i : ℕ) (o : Op) → AllByRecursion (IsInnerOp Q first) os → slice_get os i ≡ Some o → IsInnerOp Q first o
      inner_at [] i o all e = cc
      inner_at (x ∷ os) zero o all e = let s : x ≡ o = cc in subst (IsInnerOp Q first) s all.0
      inner_at (x ∷ os) (suc i) o all e = inner_at os i o all.1 e

      acts_inner : (o : Option Op) (f g : Frame) (fs : Frames) → op_at Q f.method f.pc ≡ o → IsAdded Q first f.method → Waits (g ∷ fs) → IsWell (acts Q o f (g ∷ fs))
      acts_inner None f g fs e added waits = tt
      acts_inner (Some o) f g fs e added waits =
          let found = op_found (method_at Q f.method) f.pc o e in
          inner_well f.method (does Q o f) g fs added waits
          (does_inner Q first f.method o (inner_at found.0.ops f.pc o (ops_inner f.method found.0 added found.1) found.2) f refl)

      pub step_well : (fs : Frames) → Fine fs → IsWell (step Q fs)
      step_well [] h = tt
      step_well (f ∷ []) h = acts_well (op_at Q f.method f.pc) f refl h
      step_well (f ∷ g ∷ fs) h = acts_inner (op_at Q f.method f.pc) f g fs refl h.0 h.1
