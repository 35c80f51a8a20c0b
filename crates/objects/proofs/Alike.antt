-- What an instruction does to a frame of original code, and what the one that stands for it does to the duplicate's frame.
use Rattle.std.proofs.Common.{◌≡◌, ℕ, ℤ, zero, suc, ◌+◌, ◌<◌, ◌≤◌, List, [], ◌∷◌, ◌++◌, length, Option, Some, None, Bool, true, false, refl, sym, subst, arith}
use Rattle.std.specs.Prelude.{pos, negsuc, slice_get, slice_set, nat_lt, if◌then◌else◌, ◌||◌, ◌&&◌, not, is_some, bytes_eq, replicate, reverse}
use Rattle.std.specs.Ordering.{int_eq}
use Rattle.std.specs.List.{AllByRecursion, list_any}
use Rattle.std.proofs.lemmas.Bool.Decides.{nat_tests}
use Rattle.std.proofs.lemmas.Option.{slice_get_within}
use Rattle.jmodel.specs.declared.value.Value.{Value}
use Rattle.jmodel.specs.declared.value.Value.TheVariants as value
use Rattle.jmodel.specs.declared.typing.VType.{VType}
use Rattle.jmodel.specs.declared.typing.VType.TheVariants as type
use Rattle.objects.specs.declared.op.Slot.{Slot}
use Rattle.objects.specs.declared.op.Slot.TheVariants.{Int, Long, Second, Ref, Context, Loaded, Empty}
use Rattle.objects.specs.declared.op.Sort.{Sort}
use Rattle.objects.specs.declared.op.Sort.TheVariants as sort
use Rattle.objects.specs.declared.op.Width.{Width}
use Rattle.objects.specs.declared.op.Width.TheVariants as width
use Rattle.objects.specs.declared.op.Division.{Division}
use Rattle.objects.specs.declared.op.Trap.{Trap as Trapping}
use Rattle.objects.specs.declared.op.Conversion.TheVariants.{IntToByte, IntToChar, IntToShort, IntToLong, LongToInt}
use Rattle.objects.specs.declared.op.StackOp.TheVariants.{Nop, Pop, Pop2, Dup, DupX1, DupX2, Dup2, Dup2X1, Dup2X2, Swap}
use Rattle.objects.specs.declared.op.Op.{Op}
use Rattle.objects.specs.declared.op.Op.TheVariants as op
use Rattle.objects.specs.declared.op.Use.{Use}
use Rattle.objects.specs.declared.op.Use.TheVariants.{Casts, Tests, Measures}
use Rattle.objects.specs.declared.op.Doing.TheVariants.{Next, Jump, Give, Raise, Trap, Make, Head}
use Rattle.objects.specs.semantics.Program.{Row, Method, Program, is_counted, method_at, row_at}
use Rattle.objects.specs.semantics.Step.{Frame, Did, Does, Wrong, leaves, on_top, int_in, on_int, ref_in, on_ref, second_in, long_in, on_long, on_number, object_in, on_value, slot_in, number_in, not_null, if_object, throws, divides, branches, set_local, loads, stores, switched, sized, without, does}
use Rattle.objects.specs.typing.Typing.{Types, Table, types_at, freed, Flow, Leads, if_so, on_each, is_reference, is_uninit, become, constructs, is_named, new_class, direct_superclass, is_constructor, returns, flow, KeepsFlow, KeepsAt, IsTyping, AreWithin}
use Rattle.objects.specs.typing.Typing as typing
use Rattle.objects.specs.typing.Source.{IsSourceOp}
use Rattle.objects.specs.rewriting.Rewriting.{result_sort, moved, moved_long, moved_to, is_stray, moved_cases}
use Rattle.objects.proofs.Frames.{frame}
use Rattle.objects.proofs.Wrapper.{value_sort}
use Rattle.objects.proofs.Agreeing.{Agree, IsOneKind, agree_within, agree_store, agree_store_long, agree_set, agree_become, one_room, long_room}
use Rattle.objects.proofs.Exits.{Reaches, KeepsLocals, exits_of, exits_reached}
use Rattle.objects.proofs.Switched.{switched_moved, exit_has}

-- an instruction for which one stands in the duplicate
abbrev pub IsSimple : Op → Type 0
IsSimple (op.GetStatic f) = ⊥
IsSimple (op.PutStatic f) = ⊥
IsSimple (op.GetField f c) = ⊥
IsSimple (op.PutField f c) = ⊥
IsSimple (op.LoadElement t) = ⊥
IsSimple (op.StoreElement t) = ⊥
IsSimple (op.InvokeStatic m) = ⊥
IsSimple (op.InvokeSpecial m) = ⊥
IsSimple (op.InvokeVirtual m c) = ⊥
IsSimple (op.InvokeInterface m c) = ⊥
IsSimple op.GetContext = ⊥
IsSimple (op.Context c) = ⊥
IsSimple o = Unit {0}

-- an instruction that calls a method
abbrev pub IsCallOp : Op → Type 0
IsCallOp (op.InvokeStatic m) = Unit {0}
IsCallOp (op.InvokeSpecial m) = Unit {0}
IsCallOp (op.InvokeVirtual m c) = Unit {0}
IsCallOp (op.InvokeInterface m c) = Unit {0}
IsCallOp o = ⊥

-- a place of a method's code, with types, over which locals agree
pub record Stands (k : Method) (T : Table) (to : ℕ) (l l' : List Slot) : Type 0 where
  pub inside : to < length k.ops
  pub types : Types
  pub there : types_at T to ≡ Some types
  pub agree : Agree k types.locals l l'

-- what goes on by a header, and has no block of its own
abbrev pub IsSimpleUse : Use → Type 0
IsSimpleUse (Casts c) = Unit {0}
IsSimpleUse (Tests c) = Unit {0}
IsSimpleUse Measures = Unit {0}
IsSimpleUse u = ⊥

-- a value of a method's result, or none
abbrev pub IsGivenAs : Option VType → Option Value → Type 0
IsGivenAs None None = Unit {0}
IsGivenAs (Some t) (Some v) = result_sort t ≡ value_sort v
IsGivenAs t v = ⊥

-- Neither does anything; or both do the same, and leave frames that are alike. A jump goes to the block of its target.
pub data Alike (k : Method) (T : Table) (m pc dn a : ℕ) (at : ℕ → ℕ) (l l' : List Slot) : Did → Did → Type 0 where
  neither : Alike k T m pc dn a at l l' Wrong Wrong
  goes : (l2 l2' s : List Slot) → Stands k T (pc + 1) l2 l2' → Alike k T m pc dn a at l l' (Does Next (frame m pc l2 s)) (Does Next (frame dn a l2' s))
  jumps : (to : ℕ) (s : List Slot) → Stands k T to l l' → Alike k T m pc dn a at l l' (Does (Jump to) (frame m pc l s)) (Does (Jump (at to)) (frame dn a l' s))
  gives : (v : Option Value) (s : List Slot) → IsGivenAs k.result v → Alike k T m pc dn a at l l' (Does (Give v) (frame m pc l s)) (Does (Give v) (frame dn a l' s))
  traps : (t : Trapping) (s : List Slot) → Alike k T m pc dn a at l l' (Does (Trap t) (frame m pc l s)) (Does (Trap t) (frame dn a l' s))
  makes : (t n : ℕ) (s : List Slot) → Stands k T (pc + 1) l l' → Alike k T m pc dn a at l l' (Does (Make t n) (frame m pc l s)) (Does (Make t n) (frame dn a l' s))
  raises : (o : ℕ) (s : List Slot) → Alike k T m pc dn a at l l' (Does (Raise o) (frame m pc l s)) (Does (Raise o) (frame dn a l' s))
  heads : (o : ℕ) (u : Use) (s : List Slot) → IsSimpleUse u → Stands k T (pc + 1) l l' → Alike k T m pc dn a at l l' (Does (Head o u) (frame m pc l s)) (Does (Head o u) (frame dn a l' s))

module _ (P Q : Program) (texts : Q.texts ≡ P.texts) (k : Method) (T : Table) (typed : IsTyping P k T) (room : k.places ≤ k.locals) (m pc dn a : ℕ) (at : ℕ → ℕ) (counted : is_counted P m ≡ true) (counted' : is_counted Q dn ≡ true)
    (l l' : List Slot) (h : Types) (there : types_at T pc ≡ Some h) (fits : Agree k h.locals l l') where
  abbrev Are : Did → Did → Type 0
  Are = Alike k T m pc dn a at l l'

  abbrev up : List Slot → Frame
  up s = frame m pc l s

  abbrev down : List Slot → Frame
  down s = frame dn a l' s

  top : (s : List Slot) (f g : Slot → List Slot → Did) → ((v : Slot) (t : List Slot) → Are (f v t) (g v t)) → Are (on_top s f) (on_top s g)
  top [] f g h = neither
  top (v ∷ s) f g h = h v s

  an_int : (v : Slot) (f g : ℤ → Did) → ((x : ℤ) → Are (f x) (g x)) → Are (int_in v f) (int_in v g)
  an_int (Int x) f g h = h x
  an_int (Long x) f g h = neither
  an_int Second f g h = neither
  an_int (Ref o) f g h = neither
  an_int Context f g h = neither
  an_int Loaded f g h = neither
  an_int Empty f g h = neither

  a_ref : (v : Slot) (f g : ℕ → Did) → ((x : ℕ) → Are (f x) (g x)) → Are (ref_in v f) (ref_in v g)
  a_ref (Ref x) f g h = h x
  a_ref (Int x) f g h = neither
  a_ref (Long x) f g h = neither
  a_ref Second f g h = neither
  a_ref Context f g h = neither
  a_ref Loaded f g h = neither
  a_ref Empty f g h = neither

  a_second : (v : Slot) (f g : Did) → Are f g → Are (second_in v f) (second_in v g)
  a_second Second f g h = h
  a_second (Int x) f g h = neither
  a_second (Long x) f g h = neither
  a_second (Ref o) f g h = neither
  a_second Context f g h = neither
  a_second Loaded f g h = neither
  a_second Empty f g h = neither

  a_long : (v : Slot) (f g : ℤ → Did) → ((x : ℤ) → Are (f x) (g x)) → Are (long_in v f) (long_in v g)
  a_long (Long x) f g h = h x
  a_long (Int x) f g h = neither
  a_long Second f g h = neither
  a_long (Ref o) f g h = neither
  a_long Context f g h = neither
  a_long Loaded f g h = neither
  a_long Empty f g h = neither

  an_object : (v : Slot) (f g : Did) → Are f g → Are (object_in v f) (object_in v g)
  an_object (Ref o) f g h = h
  an_object Context f g h = h
  an_object (Int x) f g h = neither
  an_object (Long x) f g h = neither
  an_object Second f g h = neither
  an_object Loaded f g h = neither
  an_object Empty f g h = neither

  int : (s : List Slot) (f g : ℤ → List Slot → Did) → ((x : ℤ) (t : List Slot) → Are (f x t) (g x t)) → Are (on_int s f) (on_int s g)
  int s f g h = top s _ _ (λ v t. an_int v _ _ (λ x. h x t))

  ref : (s : List Slot) (f g : ℕ → List Slot → Did) → ((x : ℕ) (t : List Slot) → Are (f x t) (g x t)) → Are (on_ref s f) (on_ref s g)
  ref s f g h = top s _ _ (λ v t. a_ref v _ _ (λ x. h x t))

  long : (s : List Slot) (f g : ℤ → List Slot → Did) → ((x : ℤ) (t : List Slot) → Are (f x t) (g x t)) → Are (on_long s f) (on_long s g)
  long s f g h = top s _ _ (λ v t. a_second v _ _ (top t _ _ (λ u t. a_long u _ _ (λ x. h x t))))

  number : (w : Width) (s : List Slot) (f g : ℤ → List Slot → Did) → ((x : ℤ) (t : List Slot) → Are (f x t) (g x t)) → Are (on_number w s f) (on_number w s g)
  number width.Int s f g h = int s f g h
  number width.Long s f g h = long s f g h

  a_value : (t : Sort) (s : List Slot) (f g : Value → List Slot → Did) → ((v : Value) (t : List Slot) → Are (f v t) (g v t)) → Are (on_value t s f) (on_value t s g)
  a_value sort.Int s f g h = int s _ _ (λ x t. h _ t)
  a_value sort.Long s f g h = long s _ _ (λ x t. h _ t)
  a_value sort.Reference s f g h = ref s _ _ (λ x t. h _ t)

  some_slot : (o : Option Slot) (f g : Slot → Did) → ((v : Slot) → Are (f v) (g v)) → Are (slot_in o f) (slot_in o g)
  some_slot None f g h = neither
  some_slot (Some v) f g h = h v

  some_number : (o : Option ℕ) (f g : ℕ → Did) → ((v : ℕ) → Are (f v) (g v)) → Are (number_in o f) (number_in o g)
  some_number None f g h = neither
  some_number (Some v) f g h = h v

  dropped : (n : ℕ) (s : List Slot) (f g : List Slot → Did) → ((t : List Slot) → Are (f t) (g t)) → Are (without n s f) (without n s g)
  dropped zero s f g h = h s
  dropped (suc n) [] f g h = neither
  dropped (suc n) (v ∷ s) f g h = dropped n s f g h

  not_none : (o : ℕ) (s : List Slot) (f g : Did) → Are f g → Are (not_null o (up s) f) (not_null o (down s) g)
  not_none zero s f g h = traps _ s
  not_none (suc o) s f g h = h

  chosen : (o : ℕ) (f g f' g' : Did) → Are f f' → Are g g' → Are (if_object o f g) (if_object o f' g')
  chosen zero f g f' g' h i = h
  chosen (suc o) f g f' g' h i = i

  -- the same locals, at a place that is reached
  stands : (to : ℕ) → Reaches P k T h.locals to → Stands k T to l l'
  stands to r = record { inside = r.inside; types = r.types; there = r.there; agree = agree_within P k h.locals r.types.locals l l' r.wider fits }

  left : Reaches P k T h.locals (pc + 1) → (s : List Slot) → Are (Does Next (up s)) (Does Next (down s))
  left r s = goes l l' s (stands (pc + 1) r)

  leaps : (to : ℕ) → Reaches P k T h.locals to → (s : List Slot) → Are (Does (Jump to) (up s)) (Does (Jump (at to)) (down s))
  leaps to r s = jumps to s (stands to r)

  chooses : Reaches P k T h.locals (pc + 1) → (to : ℕ) → Reaches P k T h.locals to → (s : List Slot) (b : Bool) → Are (branches b to (up s)) (branches b (at to) (down s))
  chooses r to q s true = leaps to q s
  chooses r to q s false = left r s

  divided : Reaches P k T h.locals (pc + 1) → (w : Width) (d : Division) (x y : ℤ) (t s : List Slot) (b : Bool) → Are (divides b w d x y s (up t)) (divides b w d x y s (down t))
  divided r w d x y t s true = traps _ s
  divided r w d x y t s false = left r _

  sizes : Reaches P k T h.locals (pc + 1) → (n : ℤ) (t : ℕ) (s : List Slot) → Are (sized n t (up s)) (sized n t (down s))
  sizes r (pos n) t s = makes t n s (stands (pc + 1) r)
  sizes r (negsuc n) t s = traps _ s

  switches : (other : ℕ) (cases : List (ℤ × ℕ)) → AllByRecursion (Reaches P k T h.locals) (typing.exits other cases) → (s : List Slot) (y : ℤ)
      → Are (Does (Jump (switched other cases y)) (up s)) (Does (Jump (switched (at other) (moved_cases at cases) y)) (down s))
  switches other cases all s y = rw (switched_moved at other cases y) (leaps (switched other cases y) (exit_has (λ (to : ℕ). Reaches P k T h.locals to) other cases y all) s)

  thrown : (o : ℕ) (s : List Slot) → Are (throws (is_counted P m) o (up s)) (throws (is_counted Q dn) o (down s))
  thrown o s = rw (counted, counted') (raises o s)

  -- ---- locals

  kept : (o : Op) → slice_get k.ops pc ≡ Some o → KeepsFlow P k T pc h (flow P k pc o h)
  kept o e = subst (KeepsAt P k T pc h) e (typed.each pc h there).keeps

  int_there : (i : ℕ) (f : Flow) (o : Option VType) → slice_get h.locals i ≡ o → KeepsFlow P k T pc h (typing.int_in o f) → slice_get h.locals i ≡ Some type.Int
  int_there i f (Some type.Int) e keeps = e
  int_there i f (Some t) e keeps = absurd keeps
  int_there i f None e keeps = absurd keeps

  one_kind : (t : VType) → is_reference t ≡ true → IsOneKind t
  one_kind type.Null e = tt
  one_kind (type.Ref n) e = tt
  one_kind (type.Uninit p) e = tt
  one_kind type.UninitThis e = tt
  one_kind type.Int e = cc
  one_kind type.Long e = cc
  one_kind type.Second e = cc
  one_kind type.Top e = cc

  so_kept : (b : Bool) (f : Flow) → KeepsFlow P k T pc h (if_so b f) → (b ≡ true) × KeepsFlow P k T pc h f
  so_kept true f keeps = (refl, keeps)
  so_kept false f keeps = absurd keeps

  ref_there : (i : ℕ) (f : VType → Flow) (o : Option VType) → slice_get h.locals i ≡ o → KeepsFlow P k T pc h (typing.local_in o (λ t. if_so (is_reference t) (f t))) → (t : VType) × (slice_get h.locals i ≡ Some t) × IsOneKind t
  ref_there i f None e keeps = absurd keeps
  ref_there i f (Some t) e keeps = (t, e, one_kind t (so_kept (is_reference t) (f t) keeps).0)

  long_there : (i : ℕ) (f : Flow) (o p : Option VType) → slice_get h.locals i ≡ o → slice_get h.locals (i + 1) ≡ p → KeepsFlow P k T pc h (typing.long_at o p f) → (slice_get h.locals i ≡ Some type.Long) × (slice_get h.locals (i + 1) ≡ Some type.Second)
  long_there i f (Some type.Long) (Some type.Second) e d keeps = (e, d)
  long_there i f (Some type.Long) (Some t) e d keeps = absurd keeps
  long_there i f (Some type.Long) None e d keeps = absurd keeps
  long_there i f (Some t) p e d keeps = absurd keeps
  long_there i f None p e d keeps = absurd keeps

  loaded_long : Reaches P k T h.locals (pc + 1) → (s : List Slot) (v w : Option Slot)
      → Are (slot_in v (λ v. long_in v (λ y. slot_in w (λ w. second_in w (leaves (up s) (Second ∷ Long y ∷ s)))))) (slot_in v (λ v. long_in v (λ y. slot_in w (λ w. second_in w (leaves (down s) (Second ∷ Long y ∷ s))))))
  loaded_long r s v w = some_slot v _ _ (λ u. a_long u _ _ (λ y. some_slot w _ _ (λ z. a_second z _ _ (left r (Second ∷ Long y ∷ s)))))

  loads_alike : (t : Sort) (i : ℕ) → slice_get k.ops pc ≡ Some (op.Load t i) → (s : List Slot) → Are (loads t i (up s)) (loads t (moved_to t k.places k.locals i) (down s))
  loads_alike sort.Int i e s =
      let r = (exits_reached P k T typed pc h there _ e tt).0 in
      let is = int_there i (typing.leaves pc h (type.Int ∷ h.stack)) (slice_get h.locals i) refl (kept _ e) in
      rw (fits.one i type.Int is tt) (some_slot (slice_get l i) _ _ (λ v. an_int v _ _ (λ x. left r (Int x ∷ s))))
  loads_alike sort.Reference i e s =
      let r = (exits_reached P k T typed pc h there _ e tt).0 in
      let is = ref_there i (λ t. typing.leaves pc h (t ∷ h.stack)) (slice_get h.locals i) refl (kept _ e) in
      rw (fits.one i is.0 is.1 is.2) (some_slot (slice_get l i) _ _ (λ v. an_object v _ _ (left r (v ∷ s))))
  loads_alike sort.Long i e s =
      let r = (exits_reached P k T typed pc h there _ e tt).0 in
      let is = long_there i (typing.leaves pc h (type.Second ∷ type.Long ∷ h.stack)) (slice_get h.locals i) (slice_get h.locals (i + 1)) refl refl (kept _ e) in
      rw (fits.first i is.0 is.1, fits.second i is.0 is.1) (loaded_long r s (slice_get l i) (slice_get l (i + 1)))

  -- what is left at the next place by a flow to it
  next_of : (g : Types) → KeepsFlow P k T pc h (Leads ((pc + 1) ∷ []) g) → (l2 l2' : List Slot) → Agree k g.locals l2 l2' → Stands k T (pc + 1) l2 l2'
  next_of g keeps l2 l2' a = let c = keeps.goes.0 in record { inside = c.inside; types = c.types; there = c.there; agree = agree_within P k g.locals c.types.locals l2 l2' c.fits.locals a }

  set_kept : (b : Bool) (i : ℕ) (t : VType) (s : List VType) → KeepsFlow P k T pc h (typing.set_local b i t pc h s) → KeepsFlow P k T pc h (Leads ((pc + 1) ∷ []) (record h { locals = slice_set (freed i h.locals) i t; stack = s }))
  set_kept true i t s keeps = keeps
  set_kept false i t s keeps = absurd keeps

  int_set : (i : ℕ) (s : List VType) → KeepsFlow P k T pc h (typing.on_int s (λ s. typing.set_local (nat_lt i (length h.locals)) i type.Int pc h s)) → (u : List VType) × KeepsFlow P k T pc h (Leads ((pc + 1) ∷ []) (record h { locals = slice_set (freed i h.locals) i type.Int; stack = u }))
  int_set i [] keeps = absurd keeps
  int_set i (type.Int ∷ s) keeps = (s, set_kept _ i type.Int s keeps)
  int_set i (t ∷ s) keeps = absurd keeps

  ref_set : (i : ℕ) (s : List VType) → KeepsFlow P k T pc h (typing.on_top s (λ t s. if_so (is_reference t) (typing.set_local (nat_lt i (length h.locals)) i t pc h s)))
      → (t : VType) × IsOneKind t × (u : List VType) × KeepsFlow P k T pc h (Leads ((pc + 1) ∷ []) (record h { locals = slice_set (freed i h.locals) i t; stack = u }))
  ref_set i [] keeps = absurd keeps
  ref_set i (t ∷ s) keeps = let b = so_kept (is_reference t) _ keeps in (t, one_kind t b.0, s, set_kept _ i t s b.1)

  each_kept : (ts s : List VType) (f : List VType → Flow) → KeepsFlow P k T pc h (on_each P ts s f) → (u : List VType) × KeepsFlow P k T pc h (f u)
  each_kept [] s f keeps = (s, keeps)
  each_kept (t ∷ ts) [] f keeps = absurd keeps
  each_kept (t ∷ ts) (u ∷ s) f keeps = by (typing.is_within P u t) keeps (λ g. each_kept ts s f g)
    where
      by : (b : Bool) → KeepsFlow P k T pc h (if b then on_each P ts s f else typing.Wrong) → (KeepsFlow P k T pc h (on_each P ts s f) → (u : List VType) × KeepsFlow P k T pc h (f u)) → (u : List VType) × KeepsFlow P k T pc h (f u)
      by true keeps go = go keeps
      by false keeps go = absurd keeps

  long_set : (b : Bool) (i : ℕ) (s : List VType) → KeepsFlow P k T pc h (typing.set_long b i pc h s)
      → KeepsFlow P k T pc h (Leads ((pc + 1) ∷ []) (record h { locals = slice_set (slice_set (freed (i + 1) (freed i h.locals)) i type.Long) (i + 1) type.Second; stack = s }))
  long_set true i s keeps = keeps
  long_set false i s keeps = absurd keeps

  -- a local in which typed code stores is there
  inside_locals : (i : ℕ) → nat_lt i (length h.locals) ≡ true → i < k.locals
  inside_locals i e =
      let many = (typed.each pc h there).locals in
      let low : i < length h.locals = grind (arith, nat_tests) in
      omega (arith, low, many)

  set_inside : (b : Bool) (i : ℕ) (t : VType) (s : List VType) → KeepsFlow P k T pc h (typing.set_local b i t pc h s) → b ≡ true
  set_inside true i t s keeps = refl
  set_inside false i t s keeps = absurd keeps

  int_inside : (i : ℕ) (s : List VType) → KeepsFlow P k T pc h (typing.on_int s (λ s. typing.set_local (nat_lt i (length h.locals)) i type.Int pc h s)) → i < k.locals
  int_inside i [] keeps = absurd keeps
  int_inside i (type.Int ∷ s) keeps = inside_locals i (set_inside _ i type.Int s keeps)
  int_inside i (t ∷ s) keeps = absurd keeps

  ref_inside : (i : ℕ) (s : List VType) → KeepsFlow P k T pc h (typing.on_top s (λ t s. if_so (is_reference t) (typing.set_local (nat_lt i (length h.locals)) i t pc h s))) → i < k.locals
  ref_inside i [] keeps = absurd keeps
  ref_inside i (t ∷ s) keeps = let b = so_kept (is_reference t) _ keeps in inside_locals i (set_inside _ i t s b.1)

  long_inside : (b : Bool) (i : ℕ) (s : List VType) → KeepsFlow P k T pc h (typing.set_long b i pc h s) → b ≡ true
  long_inside true i s keeps = refl
  long_inside false i s keeps = absurd keeps

  one_stored : (i : ℕ) → i < k.locals → (t : VType) → IsOneKind t → (u : List VType) → KeepsFlow P k T pc h (Leads ((pc + 1) ∷ []) (record h { locals = slice_set (freed i h.locals) i t; stack = u })) → (v : Slot) (s : List Slot)
      → Are (set_local true i v (up s)) (set_local true (moved k.places i) v (down s))
  one_stored i lt t one u keeps v s = goes _ _ s (next_of _ keeps _ _ (agree_store k room h.locals l l' fits i lt t one v))

  stray_long : (i : ℕ) → i + 1 ≡ k.places → is_stray k.places (op.Store sort.Long i) ≡ true
  stray_long i d = grind (arith, nat_tests)

  stores_alike : (t : Sort) (i : ℕ) → slice_get k.ops pc ≡ Some (op.Store t i) → (s : List Slot) → Are (stores t i (up s)) (stores t (moved_to t k.places k.locals i) (down s))
  stores_alike sort.Int i e s =
      let src = int_inside i h.stack (kept _ e) in
      let g = int_set i h.stack (kept _ e) in
      let b = one_room k room h.locals l l' fits i src in
      rw (b.0, b.1) (int s _ _ (λ x t. one_stored i src type.Int tt g.0 g.1 (Int x) t))
  stores_alike sort.Reference i e s =
      let src = ref_inside i h.stack (kept _ e) in
      let g = ref_set i h.stack (kept _ e) in
      let b = one_room k room h.locals l l' fits i src in
      rw (b.0, b.1) (top s _ _ (λ v t. an_object v _ _ (one_stored i src g.0 g.1 g.2 g.3 v t)))
  stores_alike sort.Long i e s =
      let c = each_kept (type.Second ∷ type.Long ∷ []) h.stack (λ s. typing.set_long (nat_lt (i + 1) (length h.locals)) i pc h s) (kept _ e) in
      let g = long_set _ i c.0 c.1 in
      let src : i + 1 < k.locals = inside_locals (i + 1) (long_inside _ i c.0 c.1) in
      let b = long_room k room h.locals l l' fits (op.Store sort.Long i) pc e i src (λ d. stray_long i d) in
      let low : nat_lt (moved_long k.places k.locals i + 1) (length l') ≡ true = let w = b.1 in grind (arith, nat_tests) in
      rw (b.0, low) (long s _ _ (λ x t. goes _ _ t (next_of _ g _ _ (agree_store_long k room h.locals l l' fits i src (Long x) Second b.1))))

  increments : (i : ℕ) (n : ℤ) → slice_get k.ops pc ≡ Some (op.Increment i n) → (s : List Slot) → Are (does P (op.Increment i n) (up s)) (does Q (op.Increment (moved k.places i) n) (down s))
  increments i n e s =
      let r = (exits_reached P k T typed pc h there _ e tt).0 in
      let is = int_there i (typing.leaves pc h h.stack) (slice_get h.locals i) refl (kept _ e) in
      let many = (typed.each pc h there).locals in
      let lt : i < k.locals = omega (arith, slice_get_within h.locals i type.Int is, many) in
      rw (fits.one i type.Int is tt) (some_slot (slice_get l i) _ _ (λ v. an_int v _ _ (λ x.
      goes _ _ s (record { inside = r.inside; types = r.types; there = r.there; agree = agree_within P k h.locals r.types.locals _ _ r.wider (agree_set k room h.locals l l' fits i lt is (Int _)) }))))

  -- ---- objects that are made and built

  new_kept : (b : Bool) → KeepsFlow P k T pc h (typing.makes_new b pc h) → Stands k T (pc + 1) l l'
  new_kept true keeps = absurd keeps
  new_kept false keeps = next_of _ keeps l l' (agree_become k (type.Uninit pc) type.Top (λ d. cc) (λ d. cc) h.locals l l' fits)

  row_kept : (o : Option Row) (f : Row → Flow) → KeepsFlow P k T pc h (typing.row_in o f) → (r : Row) × KeepsFlow P k T pc h (f r)
  row_kept None f keeps = absurd keeps
  row_kept (Some r) f keeps = (r, keeps)

  top_kept : (s : List VType) (f : VType → List VType → Flow) → KeepsFlow P k T pc h (typing.on_top s f) → (t : VType) × (u : List VType) × KeepsFlow P k T pc h (f t u)
  top_kept [] f keeps = absurd keeps
  top_kept (t ∷ s) f keeps = (t, s, keeps)

  -- the locals agree behind a constructor too
  pub constructs_kept : (c : List ℕ) (t : VType) (s : List VType) → KeepsFlow P k T pc h (constructs P k pc c h t s) → Stands k T (pc + 1) l l'
  constructs_kept c (type.Uninit p) s keeps = let b = so_kept (is_named c (new_class P (slice_get k.ops p))) (Leads ((pc + 1) ∷ []) (typing.built_as (type.Uninit p) (type.Ref c) h s)) keeps in next_of (typing.built_as (type.Uninit p) (type.Ref c) h s) b.1 l l' (agree_become k (type.Uninit p) (type.Ref c) (λ d. cc) (λ d. cc) h.locals l l' fits)
  constructs_kept c type.UninitThis s keeps = let b = so_kept (bytes_eq c k.name.class || is_named c (direct_superclass P k.name.class)) (Leads ((pc + 1) ∷ []) (typing.this_built k h s)) keeps in next_of (typing.this_built k h s) b.1 l l' (agree_become k type.UninitThis (type.Ref k.name.class) (λ d. cc) (λ d. cc) h.locals l l' fits)
  constructs_kept c type.Int s keeps = absurd keeps
  constructs_kept c type.Long s keeps = absurd keeps
  constructs_kept c type.Second s keeps = absurd keeps
  constructs_kept c type.Null s keeps = absurd keeps
  constructs_kept c (type.Ref n) s keeps = absurd keeps
  constructs_kept c type.Top s keeps = absurd keeps

  -- ---- what a method gives

  ended_none : (r : Option VType) (b : Bool) → KeepsFlow P k T pc h (typing.ends (not (is_some r) && b) h) → IsGivenAs r None
  ended_none None b keeps = tt
  ended_none (Some t) b keeps = absurd keeps

  given_sort : (t : Sort) (r : Option VType) → returns t r ≡ true → (v : Value) → value_sort v ≡ t → IsGivenAs r (Some v)
  given_sort t None e v d = cc
  given_sort sort.Int (Some type.Int) e v d = sym d
  given_sort sort.Long (Some type.Long) e v d = sym d
  given_sort sort.Reference (Some (type.Ref n)) e v d = sym d
  given_sort t (Some u) e v d = cc

  given_value : (t : Sort) → returns t k.result ≡ true → (s : List Slot) → Are (on_value t s (λ v u. Does (Give (Some v)) (up u))) (on_value t s (λ v u. Does (Give (Some v)) (down u)))
  given_value sort.Int r s = int s _ _ (λ x u. gives (Some (value.Int x)) u (given_sort sort.Int k.result r _ refl))
  given_value sort.Long r s = long s _ _ (λ x u. gives (Some (value.Long x)) u (given_sort sort.Long k.result r _ refl))
  given_value sort.Reference r s = ref s _ _ (λ x u. gives (Some (value.Ref x)) u (given_sort sort.Reference k.result r _ refl))

  -- ---- all of them

  -- the instruction that stands in the duplicate
  abbrev pub image : Op → Op
  image (op.Load t i) = op.Load t (moved_to t k.places k.locals i)
  image (op.Store t i) = op.Store t (moved_to t k.places k.locals i)
  image (op.Increment i n) = op.Increment (moved k.places i) n
  image (op.Branch t to) = op.Branch t (at to)
  image (op.BranchInts t to) = op.BranchInts t (at to)
  image (op.BranchNull b to) = op.BranchNull b (at to)
  image (op.BranchReferences b to) = op.BranchReferences b (at to)
  image (op.Goto to) = op.Goto (at to)
  image (op.Switch other cases) = op.Switch (at other) (moved_cases at cases)
  image o = o

  exits : (o : Op) → slice_get k.ops pc ≡ Some o → KeepsLocals o → AllByRecursion (Reaches P k T h.locals) (exits_of pc o)
  exits o e a = exits_reached P k T typed pc h there o e a

  pub simple_alike : (o : Op) → slice_get k.ops pc ≡ Some o → IsSimple o → IsSourceOp P k o → (s : List Slot) → Are (does P o (up s)) (does Q (image o) (down s))
  simple_alike (op.Constant v) e a src s = left (exits _ e tt).0 _
  simple_alike (op.Text n) e a src s = rw texts (some_number (slice_get P.texts n) _ _ (λ o. left (exits _ e tt).0 _))
  simple_alike (op.Load t i) e a src s = loads_alike t i e s
  simple_alike (op.Store t i) e a src s = stores_alike t i e s
  simple_alike (op.Stack Nop) e a src s = left (exits _ e tt).0 _
  simple_alike (op.Stack Pop) e a src s = top s _ _ (λ v t. left (exits _ e tt).0 _)
  simple_alike (op.Stack Pop2) e a src s = top s _ _ (λ v t. top t _ _ (λ u t. left (exits _ e tt).0 _))
  simple_alike (op.Stack Dup) e a src s = top s _ _ (λ v t. left (exits _ e tt).0 _)
  simple_alike (op.Stack DupX1) e a src s = top s _ _ (λ v t. top t _ _ (λ u t. left (exits _ e tt).0 _))
  simple_alike (op.Stack DupX2) e a src s = top s _ _ (λ v t. top t _ _ (λ u t. top t _ _ (λ w t. left (exits _ e tt).0 _)))
  simple_alike (op.Stack Dup2) e a src s = top s _ _ (λ v t. top t _ _ (λ u t. left (exits _ e tt).0 _))
  simple_alike (op.Stack Dup2X1) e a src s = top s _ _ (λ v t. top t _ _ (λ u t. top t _ _ (λ w t. left (exits _ e tt).0 _)))
  simple_alike (op.Stack Dup2X2) e a src s = top s _ _ (λ v t. top t _ _ (λ u t. top t _ _ (λ w t. top t _ _ (λ x t. left (exits _ e tt).0 _))))
  simple_alike (op.Stack Swap) e a src s = top s _ _ (λ v t. top t _ _ (λ u t. left (exits _ e tt).0 _))
  simple_alike (op.Binary w b) e a src s = number w s _ _ (λ x t. number w t _ _ (λ y t. left (exits _ e tt).0 _))
  simple_alike (op.Shift w b) e a src s = int s _ _ (λ x t. number w t _ _ (λ y t. left (exits _ e tt).0 _))
  simple_alike (op.Divide w d) e a src s = number w s _ _ (λ y t. number w t _ _ (λ x t. divided (exits _ e tt).0 w d x y s t (int_eq y (pos 0))))
  simple_alike (op.Unary w u) e a src s = number w s _ _ (λ x t. left (exits _ e tt).0 _)
  simple_alike (op.Convert IntToByte) e a src s = int s _ _ (λ x t. left (exits _ e tt).0 _)
  simple_alike (op.Convert IntToChar) e a src s = int s _ _ (λ x t. left (exits _ e tt).0 _)
  simple_alike (op.Convert IntToShort) e a src s = int s _ _ (λ x t. left (exits _ e tt).0 _)
  simple_alike (op.Convert IntToLong) e a src s = int s _ _ (λ x t. left (exits _ e tt).0 _)
  simple_alike (op.Convert LongToInt) e a src s = long s _ _ (λ x t. left (exits _ e tt).0 _)
  simple_alike op.CompareLongs e a src s = long s _ _ (λ x t. long t _ _ (λ y t. left (exits _ e tt).0 _))
  simple_alike (op.Increment i n) e a src s = increments i n e s
  simple_alike (op.Branch t to) e a src s = let r = exits _ e tt in int s _ _ (λ x t. chooses r.0 to r.1.0 t _)
  simple_alike (op.BranchInts t to) e a src s = let r = exits _ e tt in int s _ _ (λ x t. int t _ _ (λ y t. chooses r.0 to r.1.0 t _))
  simple_alike (op.BranchNull b to) e a src s = let r = exits _ e tt in ref s _ _ (λ x t. chooses r.0 to r.1.0 t _)
  simple_alike (op.BranchReferences b to) e a src s = let r = exits _ e tt in ref s _ _ (λ x t. ref t _ _ (λ y t. chooses r.0 to r.1.0 t _))
  simple_alike (op.Goto to) e a src s = leaps to (exits _ e tt).0 s
  simple_alike (op.Switch other cases) e a src s = int s _ _ (λ x t. switches other cases (exits _ e tt) t x)
  simple_alike (op.InitLibrary c n) e a src s =
      let g = each_kept (replicate n (type.Ref typing.string_class)) h.stack (λ s. typing.on_top s (λ t s. constructs P k pc c h t s)) (kept _ e) in
      let b = top_kept g.0 (λ t s. constructs P k pc c h t s) g.1 in
      dropped n s _ _ (λ t. ref t _ _ (λ o t. goes l l' t (constructs_kept c b.0 b.1 b.2)))
  simple_alike (op.New t) e a src s = let g = row_kept (row_at P t) (λ r. typing.makes_new (list_any (is_uninit (type.Uninit pc)) h.stack) pc h) (kept _ e) in makes t 0 s (new_kept _ g.1)
  simple_alike (op.NewArray t) e a src s = int s _ _ (λ n u. sizes (exits _ e tt).0 n t u)
  simple_alike op.ArrayLength e a src s = ref s _ _ (λ o t. not_none o t _ _ (heads o Measures t tt (stands (pc + 1) (exits _ e tt).0)))
  simple_alike (op.CheckCast c) e a src s = ref s _ _ (λ o t. chosen o _ _ _ _ (left (exits _ e tt).0 s) (heads o (Casts c) s tt (stands (pc + 1) (exits _ e tt).0)))
  simple_alike (op.InstanceOf c) e a src s = ref s _ _ (λ o t. chosen o _ _ _ _ (left (exits _ e tt).0 _) (heads o (Tests c) t tt (stands (pc + 1) (exits _ e tt).0)))
  simple_alike op.Return e a src s = gives None s (ended_none k.result (not (is_constructor k) || h.built) (kept _ e))
  simple_alike (op.ReturnValue t) e a src s = given_value t (so_kept (returns t k.result) _ (kept _ e)).0 s
  simple_alike op.Throw e a src s = ref s _ _ (λ o t. not_none o t _ _ (thrown o t))
  simple_alike o e a src s = absurd a

  -- ---- behind a call

  method_kept : (o : Option Method) (f : Method → Flow) → KeepsFlow P k T pc h (typing.method_in o f) → (c : Method) × KeepsFlow P k T pc h (f c)
  method_kept None f keeps = absurd keeps
  method_kept (Some c) f keeps = (c, keeps)

  special_stands : (b : Bool) (c : Method) → KeepsFlow P k T pc h (typing.special b P k pc c h) → Stands k T (pc + 1) l l'
  special_stands true c keeps =
      let g = each_kept _ h.stack (λ s. typing.on_top s (λ t s. constructs P k pc c.name.class h t s)) (so_kept (not (is_some c.result)) _ keeps).1 in
      let b = top_kept g.0 (λ t s. constructs P k pc c.name.class h t s) g.1 in
      constructs_kept c.name.class b.0 b.1 b.2
  special_stands false c keeps =
      let after : List VType → Flow = λ s. typing.leaves pc h (typing.results c ++ s) in
      let ends : VType → List VType → Flow = λ t u. if_so (typing.is_within P t (type.Ref (typing.name_read P k.name.class))) (on_each P (reverse c.parameters) h.stack after) in
      let g = each_kept _ h.stack (λ s. typing.on_top s ends) keeps in
      let b = top_kept g.0 ends g.1 in
      let d = each_kept _ h.stack after (so_kept (typing.is_within P b.0 (type.Ref (typing.name_read P k.name.class))) _ b.2).1 in
      next_of _ d.1 l l' fits

  -- the locals agree behind a call
  pub call_stands : (o : Op) → slice_get k.ops pc ≡ Some o → IsCallOp o → Stands k T (pc + 1) l l'
  call_stands (op.InvokeStatic m) e a = stands (pc + 1) (exits _ e tt).0
  call_stands (op.InvokeVirtual m c) e a = stands (pc + 1) (exits _ e tt).0
  call_stands (op.InvokeInterface m c) e a = stands (pc + 1) (exits _ e tt).0
  call_stands (op.InvokeSpecial m) e a = let g = method_kept (method_at P m) (λ c. typing.special (is_constructor c) P k pc c h) (kept _ e) in special_stands (is_constructor g.0) g.0 g.1
  call_stands o e a = absurd a
