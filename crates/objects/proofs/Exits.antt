-- Where typed instructions go on, and the types of the locals that they leave.
use Rattle.std.proofs.Common.{◌≡◌, ℕ, ◌+◌, ◌<◌, List, [], ◌∷◌, ◌++◌, length, Option, Some, None, Bool, true, false, refl, subst}
use Rattle.std.specs.Prelude.{slice_get, is_some, reverse, if◌then◌else◌}
use Rattle.std.specs.List.{AllByRecursion}
use Rattle.jmodel.specs.declared.typing.VType.{VType}
use Rattle.jmodel.specs.declared.typing.VType.TheVariants.{Int, Long, Second, Ref}
use Rattle.objects.specs.declared.op.Sort.{Sort}
use Rattle.objects.specs.declared.op.Sort.TheVariants as sort
use Rattle.objects.specs.declared.op.Width.{Width}
use Rattle.objects.specs.declared.op.Width.TheVariants as width
use Rattle.objects.specs.declared.op.Conversion.{Conversion}
use Rattle.objects.specs.declared.op.Conversion.TheVariants.{IntToByte, IntToChar, IntToShort, IntToLong, LongToInt}
use Rattle.objects.specs.declared.op.StackOp.{StackOp}
use Rattle.objects.specs.declared.op.StackOp.TheVariants.{Nop, Pop, Pop2, Dup, DupX1, DupX2, Dup2, Dup2X1, Dup2X2, Swap}
use Rattle.objects.specs.declared.op.Op.{Op}
use Rattle.objects.specs.declared.op.Op.TheVariants as op
use Rattle.objects.specs.semantics.Program.{Row, Field, Method, Program, method_at, field_at, row_at}
use Rattle.objects.specs.typing.Typing.{is_received, value_places, argument_places, Types, Table, types_at, Flow, Leads, Wrong, with_stack, leaves, ends, if_so, on, on_each, on_int, on_number, on_reference, on_top, on_one, on_two, is_one, is_reference, local_in, int_in, long_at, field_in, method_in, row_in, loads, rearranged, converted, on_array, fits_elements, element_types, is_within, puts, exits, returns, result_types, flow, Covers, KeepsFlow, KeepsAt, IsTyping, AreWithin, stack_types, object_class, throwable_class, name_read, results, stored_types}

-- where an instruction goes on
abbrev pub exits_of : ℕ → Op → List ℕ
exits_of pc (op.Branch t to) = (pc + 1) ∷ to ∷ []
exits_of pc (op.BranchInts t to) = (pc + 1) ∷ to ∷ []
exits_of pc (op.BranchNull b to) = (pc + 1) ∷ to ∷ []
exits_of pc (op.BranchReferences b to) = (pc + 1) ∷ to ∷ []
exits_of pc (op.Goto to) = to ∷ []
exits_of pc (op.Switch other cases) = exits other cases
exits_of pc op.Return = []
exits_of pc (op.ReturnValue t) = []
exits_of pc op.Throw = []
exits_of pc o = (pc + 1) ∷ []

-- instructions that may leave other types of locals
abbrev pub KeepsLocals : Op → Type 0
KeepsLocals (op.Store t i) = ⊥
KeepsLocals (op.InvokeSpecial m) = ⊥
KeepsLocals (op.InitLibrary c n) = ⊥
KeepsLocals (op.New t) = ⊥
KeepsLocals (op.Context c) = ⊥
KeepsLocals o = Unit {0}

module _ (ls : List VType) (to : List ℕ) where
  -- a flow goes on there, with these locals
  abbrev pub Goes : Flow → Type 0
  Goes Wrong = Unit {0}
  Goes (Leads es h) = (h.locals ≡ ls) × (es ≡ to)

  so : (b : Bool) (k : Flow) → Goes k → Goes (if_so b k)
  so true k h = h
  so false k h = tt

  one : (P : Program) (t : VType) (s : List VType) (k : List VType → Flow) → ((s : List VType) → Goes (k s)) → Goes (on P t s k)
  one P t [] k h = tt
  one P t (u ∷ s) k h = by (is_within P u t)
    where
      by : (b : Bool) → Goes (if b then k s else Wrong)
      by true = h s
      by false = tt

  each : (P : Program) (ts s : List VType) (k : List VType → Flow) → ((s : List VType) → Goes (k s)) → Goes (on_each P ts s k)
  each P [] s k h = h s
  each P (t ∷ ts) s k h = one P t s _ (λ s. each P ts s k h)

  object : (P : Program) (s : List VType) (k : List VType → Flow) → ((s : List VType) → Goes (k s)) → Goes (on_reference P s k)
  object P s k h = one P (Ref object_class) s k h

  int : (s : List VType) (k : List VType → Flow) → ((s : List VType) → Goes (k s)) → Goes (on_int s k)
  int [] k h = tt
  int (Int ∷ s) k h = h s
  int (t ∷ s) k h = tt

  number : (P : Program) (w : Width) (s : List VType) (k : List VType → Flow) → ((s : List VType) → Goes (k s)) → Goes (on_number P w s k)
  number P width.Int s k h = int s k h
  number P width.Long s k h = each P (Second ∷ Long ∷ []) s k h

  top : (s : List VType) (k : VType → List VType → Flow) → ((t : VType) (s : List VType) → Goes (k t s)) → Goes (on_top s k)
  top [] k h = tt
  top (t ∷ s) k h = h t s

  single : (s : List VType) (k : VType → List VType → Flow) → ((t : VType) (s : List VType) → Goes (k t s)) → Goes (on_one s k)
  single s k h = top s _ (λ t s. so (is_one t) (k t s) (h t s))

  pair : (s : List VType) (k : VType → VType → List VType → Flow) → ((t u : VType) (s : List VType) → Goes (k t u s)) → Goes (on_two s k)
  pair (Second ∷ Long ∷ s) k h = h Second Long s
  pair s k h = single s _ (λ t s. single s _ (λ u s. h t u s))

  local : (o : Option VType) (k : VType → Flow) → ((t : VType) → Goes (k t)) → Goes (local_in o k)
  local None k h = tt
  local (Some t) k h = h t

  an_int : (o : Option VType) (k : Flow) → Goes k → Goes (int_in o k)
  an_int (Some Int) k h = h
  an_int t k h = tt

  a_long : (o p : Option VType) (k : Flow) → Goes k → Goes (long_at o p k)
  a_long (Some Long) (Some Second) k h = h
  a_long t u k h = tt

  a_field : (o : Option Field) (k : Field → Flow) → ((f : Field) → Goes (k f)) → Goes (field_in o k)
  a_field None k h = tt
  a_field (Some f) k h = h f

  a_method : (o : Option Method) (k : Method → Flow) → ((c : Method) → Goes (k c)) → Goes (method_in o k)
  a_method None k h = tt
  a_method (Some f) k h = h f

  a_row : (o : Option Row) (k : Row → Flow) → ((c : Row) → Goes (k c)) → Goes (row_in o k)
  a_row None k h = tt
  a_row (Some f) k h = h f

  array : (s : List VType) (k : VType → List VType → Flow) → ((t : VType) (s : List VType) → Goes (k t s)) → Goes (on_array s k)
  array s k h = top s _ (λ t s. so _ (k t s) (h t s))

module _ (P : Program) (k : Method) (pc : ℕ) (h : Types) where
  abbrev Next : Flow → Type 0
  Next = Goes h.locals ((pc + 1) ∷ [])

  loads_go : (t : Sort) (i : ℕ) → Next (loads t i pc h)
  loads_go sort.Int i = an_int _ _ (slice_get h.locals i) _ (refl, refl)
  loads_go sort.Reference i = local _ _ (slice_get h.locals i) _ (λ t. so _ _ (is_reference t) _ (refl, refl))
  loads_go sort.Long i = a_long _ _ (slice_get h.locals i) (slice_get h.locals (i + 1)) _ (refl, refl)

  stack_goes : (r : StackOp) → Next (rearranged r pc h)
  stack_goes Nop = (refl, refl)
  stack_goes Pop = single _ _ h.stack _ (λ t s. (refl, refl))
  stack_goes Pop2 = pair _ _ h.stack _ (λ t u s. (refl, refl))
  stack_goes Dup = single _ _ h.stack _ (λ t s. (refl, refl))
  stack_goes DupX1 = single _ _ h.stack _ (λ t s. single _ _ s _ (λ u s. (refl, refl)))
  stack_goes DupX2 = single _ _ h.stack _ (λ t s. pair _ _ s _ (λ u v s. (refl, refl)))
  stack_goes Dup2 = pair _ _ h.stack _ (λ t u s. (refl, refl))
  stack_goes Dup2X1 = pair _ _ h.stack _ (λ t u s. single _ _ s _ (λ v s. (refl, refl)))
  stack_goes Dup2X2 = pair _ _ h.stack _ (λ t u s. pair _ _ s _ (λ v w s. (refl, refl)))
  stack_goes Swap = single _ _ h.stack _ (λ t s. single _ _ s _ (λ u s. (refl, refl)))

  converts : (c : Conversion) → Next (converted P c pc h)
  converts IntToByte = int _ _ h.stack _ (λ s. (refl, refl))
  converts IntToChar = int _ _ h.stack _ (λ s. (refl, refl))
  converts IntToShort = int _ _ h.stack _ (λ s. (refl, refl))
  converts IntToLong = int _ _ h.stack _ (λ s. (refl, refl))
  converts LongToInt = each _ _ P (Second ∷ Long ∷ []) h.stack _ (λ s. (refl, refl))

  ended : (b : Bool) (g : Types) → g.locals ≡ h.locals → Goes h.locals [] (ends b g)
  ended true g e = (e, refl)
  ended false g e = tt

  pub flow_goes : (o : Op) → KeepsLocals o → Goes h.locals (exits_of pc o) (flow P k pc o h)
  flow_goes (op.Constant v) a = (refl, refl)
  flow_goes (op.Text n) a = so _ _ (is_some (slice_get P.texts n)) _ (refl, refl)
  flow_goes (op.Load t i) a = loads_go t i
  flow_goes (op.Stack r) a = stack_goes r
  flow_goes (op.Binary w b) a = number _ _ P w h.stack _ (λ s. number _ _ P w s _ (λ s. (refl, refl)))
  flow_goes (op.Shift w b) a = int _ _ h.stack _ (λ s. number _ _ P w s _ (λ s. (refl, refl)))
  flow_goes (op.Divide w b) a = number _ _ P w h.stack _ (λ s. number _ _ P w s _ (λ s. (refl, refl)))
  flow_goes (op.Unary w b) a = number _ _ P w h.stack _ (λ s. (refl, refl))
  flow_goes (op.Convert c) a = converts c
  flow_goes op.CompareLongs a = each _ _ P (Second ∷ Long ∷ []) h.stack _ (λ s. each _ _ P (Second ∷ Long ∷ []) s _ (λ s. (refl, refl)))
  flow_goes (op.Increment i n) a = an_int _ _ (slice_get h.locals i) _ (refl, refl)
  flow_goes (op.Branch t to) a = int _ _ h.stack _ (λ s. (refl, refl))
  flow_goes (op.BranchInts t to) a = int _ _ h.stack _ (λ s. int _ _ s _ (λ s. (refl, refl)))
  flow_goes (op.BranchNull b to) a = object _ _ P h.stack (λ s. Leads ((pc + 1) ∷ to ∷ []) (with_stack h s)) (λ s. (refl, refl))
  flow_goes (op.BranchReferences b to) a = object _ _ P h.stack (λ s. on_reference P s (λ s. Leads ((pc + 1) ∷ to ∷ []) (with_stack h s))) (λ s. object _ _ P s (λ s. Leads ((pc + 1) ∷ to ∷ []) (with_stack h s)) (λ s. (refl, refl)))
  flow_goes (op.Goto to) a = (refl, refl)
  flow_goes (op.Switch other cases) a = int _ _ h.stack _ (λ s. (refl, refl))
  flow_goes (op.GetStatic n) a = a_field _ _ (field_at P n) _ (λ f. so _ _ (is_some f.base) (leaves pc h (stack_types f.declared ++ h.stack)) (refl, refl))
  flow_goes (op.PutStatic n) a = a_field _ _ (field_at P n) _ (λ f. so _ _ (is_some f.base) _ (each _ _ P (stack_types f.declared) h.stack (λ s. leaves pc h s) (λ s. (refl, refl))))
  flow_goes (op.GetField n c) a = so _ _ (is_received P c (slice_get h.stack 0)) _ (a_field _ _ (field_at P n) _ (λ f. one _ _ P (Ref f.class) h.stack (λ s. leaves pc h (stack_types f.declared ++ s)) (λ s. (refl, refl))))
  flow_goes (op.PutField n c) a = so _ _ (is_received P c (slice_get h.stack (value_places (field_at P n)))) _ (a_field _ _ (field_at P n) _ (λ f. each _ _ P (stack_types f.declared) h.stack (λ s. puts P k pc f h s) (λ s. top _ _ s _ (λ t s. so _ _ _ (leaves pc h s) (refl, refl)))))
  flow_goes (op.InvokeStatic m) a = a_method _ _ (method_at P m) _ (λ c. each _ _ P (reverse c.parameters) h.stack (λ s. leaves pc h (results c ++ s)) (λ s. (refl, refl)))
  flow_goes (op.InvokeVirtual m n) a = so _ _ (is_received P n (slice_get h.stack (argument_places (method_at P m)))) _ (a_method _ _ (method_at P m) _ (λ c. each _ _ P (reverse c.parameters) h.stack (λ s. leaves pc h (results c ++ s)) (λ s. (refl, refl))))
  flow_goes (op.InvokeInterface m n) a = a_method _ _ (method_at P m) _ (λ c. each _ _ P (reverse c.parameters) h.stack (λ s. leaves pc h (results c ++ s)) (λ s. (refl, refl)))
  flow_goes (op.NewArray t) a = a_row _ _ (row_at P t) _ (λ r. int _ _ h.stack (λ s. leaves pc h (Ref r.read ∷ s)) (λ s. (refl, refl)))
  flow_goes op.ArrayLength a = array _ _ h.stack _ (λ t s. (refl, refl))
  flow_goes (op.LoadElement t) a = int _ _ h.stack _ (λ s. array _ _ s _ (λ u s. so _ _ (fits_elements t u) (leaves pc h (element_types t u ++ s)) (refl, refl)))
  flow_goes (op.StoreElement t) a = each _ _ P (stored_types t) h.stack _ (λ s. int _ _ s _ (λ s. array _ _ s _ (λ u s. so _ _ (fits_elements t u) (leaves pc h s) (refl, refl))))
  flow_goes (op.CheckCast c) a = object _ _ P h.stack (λ s. leaves pc h (Ref (name_read P c) ∷ s)) (λ s. (refl, refl))
  flow_goes (op.InstanceOf c) a = object _ _ P h.stack (λ s. leaves pc h (Int ∷ s)) (λ s. (refl, refl))
  flow_goes op.Return a = ended _ h refl
  flow_goes (op.ReturnValue t) a = so _ _ (returns t k.result) _ (each _ _ P (result_types k.result) h.stack _ (λ s. ended true (with_stack h s) refl))
  flow_goes op.Throw a = one _ _ P (Ref throwable_class) h.stack (λ s. ends true (with_stack h s)) (λ s. ended true (with_stack h s) refl)
  flow_goes op.GetContext a = (refl, refl)
  flow_goes o a = absurd a

-- a place of typed code where an instruction goes on
pub record Reaches (P : Program) (k : Method) (T : Table) (ls : List VType) (to : ℕ) : Type 0 where
  pub inside : to < length k.ops
  pub types : Types
  pub there : types_at T to ≡ Some types
  pub wider : AreWithin P ls types.locals

module _ (P : Program) (k : Method) (T : Table) (typing : IsTyping P k T) (pc : ℕ) (h : Types) (there : types_at T pc ≡ Some h) where
  covered : (g : Types) (es : List ℕ) → AllByRecursion (Covers P k T g) es → (ls : List VType) → g.locals ≡ ls → AllByRecursion (Reaches P k T ls) es
  covered g [] all ls e = tt
  covered g (to ∷ es) all ls e = (record { inside = all.0.inside; types = all.0.types; there = all.0.there; wider = subst (λ (l : List VType). AreWithin P l all.0.types.locals) e all.0.fits.locals }, covered g es all.1 ls e)

  reached : (f : Flow) (ls : List VType) (es : List ℕ) → Goes ls es f → KeepsFlow P k T pc h f → AllByRecursion (Reaches P k T ls) es
  reached Wrong ls es g keeps = absurd keeps
  reached (Leads to g) ls es e keeps = subst (AllByRecursion (Reaches P k T ls)) e.1 (covered g to keeps.goes ls e.0)

  flow_kept : (o : Op) → slice_get k.ops pc ≡ Some o → KeepsFlow P k T pc h (flow P k pc o h)
  flow_kept o e = subst (KeepsAt P k T pc h) e (typing.each pc h there).keeps

  -- the places where an instruction goes on that keeps the types of its locals
  pub exits_reached : (o : Op) → slice_get k.ops pc ≡ Some o → KeepsLocals o → AllByRecursion (Reaches P k T h.locals) (exits_of pc o)
  exits_reached o e a = reached (flow P k pc o h) h.locals (exits_of pc o) (flow_goes P k pc h o a) (flow_kept o e)

  -- or another flow that is the instruction's
  pub next_reached : (o : Op) → slice_get k.ops pc ≡ Some o → (ls : List VType) (es : List ℕ) → Goes ls es (flow P k pc o h) → AllByRecursion (Reaches P k T ls) es
  next_reached o e ls es g = reached (flow P k pc o h) ls es g (flow_kept o e)
