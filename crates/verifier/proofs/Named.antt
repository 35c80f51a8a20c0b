-- What an instruction leaves: types that were there, or that its program names.
use Rattle.std.proofs.Common.{◌≡◌, ℕ, zero, suc, ◌+◌, ◌-◌, List, [], ◌∷◌, ◌++◌, length, map, replicate, reverse, Option, Some, None, Bool, true, false, refl}
use Rattle.std.specs.Prelude.{not, ◌&&◌, ◌||◌, slice_get, slice_set, nat_lt, bytes_eq, is_some}
use Rattle.std.specs.List.{list_any}
use Rattle.jmodel.specs.declared.value.Value.{Value}
use Rattle.jmodel.specs.declared.value.Value.TheVariants as value
use Rattle.jmodel.specs.declared.typing.VType.{VType}
use Rattle.jmodel.specs.declared.typing.VType.TheVariants.{Int, Long, Second, Null, Ref, Uninit, UninitThis, Top}
use Rattle.objects.specs.declared.op.Sort.{Sort}
use Rattle.objects.specs.declared.op.Sort.TheVariants as sort
use Rattle.objects.specs.declared.op.Width.{Width}
use Rattle.objects.specs.declared.op.Width.TheVariants as width
use Rattle.objects.specs.declared.op.WordType.{WordType}
use Rattle.objects.specs.declared.op.WordType.TheVariants as word
use Rattle.objects.specs.declared.op.Conversion.{Conversion}
use Rattle.objects.specs.declared.op.Conversion.TheVariants.{IntToLong, LongToInt}
use Rattle.objects.specs.declared.op.StackOp.{StackOp}
use Rattle.objects.specs.declared.op.StackOp.TheVariants.{Nop, Pop, Pop2, Dup, DupX1, DupX2, Dup2, Dup2X1, Dup2X2, Swap}
use Rattle.objects.specs.declared.op.ContextCall.{ContextCall}
use Rattle.objects.specs.declared.op.ContextCall.TheVariants as call
use Rattle.objects.specs.declared.op.Op.{Op}
use Rattle.objects.specs.declared.op.Op.TheVariants as op
use Rattle.objects.specs.semantics.Program.{Field, Method, Row, Program, method_at, field_at, row_at}
use Rattle.objects.specs.typing.TypeOrder.{object_class, throwable_class, string_class, context_class, is_array, name_read, stack_types, is_within}
use Rattle.objects.specs.typing.Typing as typed
use Rattle.objects.specs.typing.Typing.{Types, Flow, Leads, Wrong, if_so, on, on_each, on_int, on_number, on_top, on_one, on_two, on_array, flow, freed, stored_types, is_one, become, is_uninit, constructs, number_types, constant_types, results}
use Rattle.verifier.proofs.Closed.{IsClosed, Brings, AllOf, IsFine, Goes, GoesBy, all_append, all_set, all_at, all_become, so_fine, int_fine, top_fine, one_fine, two_fine, array_fine, on_fine, each_fine, number_fine}

-- `F` holds of what an instruction does. It is asked of a flow that goes nowhere, and of those with such types in locals, and on the stack with a list that is brought on top.
module _ (P : Program) (k : Method) (pc : ℕ) (Q : VType → Type 0) (B : List VType → Type 0) (z : Brings P k pc Q B) (F : Flow → Type 0) (wrong : F Wrong)
    (leads : (tos : List ℕ) (l ls s : List VType) (b : Bool) → AllOf Q l → B ls → AllOf Q s → F (Leads tos (record { locals = l; stack = ls ++ s; built = b })))
    (h : Types) (hl : AllOf Q h.locals) (hs : AllOf Q h.stack) where
  -- the places of an int
  int : B (Int ∷ [])
  int = z.there (Int ∷ []) (z.plain Int tt, tt)

  -- and of a long
  long : B (Second ∷ Long ∷ [])
  long = z.there (Second ∷ Long ∷ []) (z.plain Second tt, (z.plain Long tt, tt))

  -- to places, with types on top of what is left of a stack
  goes : (tos : List ℕ) (ls : List VType) → B ls → Goes Q F wrong (λ s. Leads tos (typed.with_stack h (ls ++ s)))
  goes tos ls a s b = leads tos h.locals ls s h.built hl a b

  -- with what is left alone
  down : (tos : List ℕ) → Goes Q F wrong (λ s. Leads tos (typed.with_stack h s))
  down tos = goes tos [] (z.there [] tt)

  -- on to the next instruction
  onward : (ls : List VType) → B ls → Goes Q F wrong (λ s. typed.leaves pc h (ls ++ s))
  onward ls a = goes ((pc + 1) ∷ []) ls a

  -- with types that were there
  again : (ls : List VType) → AllOf Q ls → Goes Q F wrong (λ s. typed.leaves pc h (ls ++ s))
  again ls a = onward ls (z.there ls a)

  -- with what is left alone
  bare : Goes Q F wrong (λ s. typed.leaves pc h s)
  bare = down ((pc + 1) ∷ [])

  -- the places of a number
  numbers : (w : Width) → B (number_types w)
  numbers width.Int = int
  numbers width.Long = long

  -- of null
  null : B (Null ∷ [])
  null = z.there (Null ∷ []) (z.plain Null tt, tt)

  -- of a constant
  constants : (v : Value) → B (constant_types v)
  constants (value.Int n) = int
  constants (value.Long n) = long
  constants (value.Ref zero) = null
  constants (value.Ref (suc o)) = z.object

  -- of what an array takes
  stored : (w : WordType) → B (stored_types w)
  stored word.Long = long
  stored word.Reference = z.object
  stored w = int

  -- of an element
  elements : (w : WordType) (n : List ℕ) → is_array n ≡ true → Q (Ref n) → B (typed.element_types w (Ref n))
  elements word.Long n e q = long
  elements word.Reference n e q = z.element n e q
  elements w n e q = int

  -- of one of null
  null_elements : (w : WordType) → B (typed.element_types w Null)
  null_elements word.Long = long
  null_elements word.Reference = null
  null_elements w = int

  -- ---- locals

  -- where a local has an int
  int_in_fine : (o : Option VType) (f : Flow) → F f → F (typed.int_in o f)
  int_in_fine (Some Int) f g = g
  int_in_fine None f g = wrong
  int_in_fine (Some t) f g = wrong

  -- where two have a long
  long_at_fine : (o q : Option VType) (f : Flow) → F f → F (typed.long_at o q f)
  long_at_fine (Some Long) (Some Second) f g = g
  long_at_fine o q f g = wrong

  -- what a local has
  local_in_fine : (o : Option VType) (f : VType → Flow) → ((t : VType) → o ≡ Some t → F (f t)) → F (typed.local_in o f)
  local_in_fine None f g = wrong
  local_in_fine (Some t) f g = g t refl

  -- loads
  loads_fine : (t : Sort) (i : ℕ) → F (typed.loads t i pc h)
  loads_fine sort.Int i = int_in_fine (slice_get h.locals i) _ (onward (Int ∷ []) int h.stack hs)
  loads_fine sort.Reference i = local_in_fine (slice_get h.locals i) _ (λ t e. so_fine Q F wrong (typed.is_reference t) _ (again (t ∷ []) (all_at Q h.locals i t hl e, tt) h.stack hs))
  loads_fine sort.Long i = long_at_fine (slice_get h.locals i) (slice_get h.locals (i + 1)) _ (onward (Second ∷ Long ∷ []) long h.stack hs)

  -- what is left of a long that is written over
  freed_fine : (i : ℕ) (l : List VType) → AllOf Q l → AllOf Q (freed i l)
  freed_fine i l a = by (slice_get l i)
    where
      by : (o : Option VType) → AllOf Q (typed.freed_by o i l)
      by (Some Second) = all_set Q l (i - 1) Top a (z.plain Top tt)
      by (Some Long) = all_set Q l (i + 1) Top a (z.plain Top tt)
      by None = a
      by (Some t) = a

  -- with other locals, over what is left of a stack
  written : (l : List VType) → AllOf Q l → Goes Q F wrong (λ s. Leads ((pc + 1) ∷ []) (record h { locals = l; stack = s }))
  written l a s b = leads ((pc + 1) ∷ []) l [] s h.built a (z.there [] tt) b

  -- a local that is written
  set_fine : (b : Bool) (i : ℕ) (t : VType) → Q t → Goes Q F wrong (λ s. typed.set_local b i t pc h s)
  set_fine true i t q s a = written (slice_set (freed i h.locals) i t) (all_set Q (freed i h.locals) i t (freed_fine i h.locals hl) q) s a
  set_fine false i t q s a = wrong

  -- two that are
  wide_fine : (b : Bool) (i : ℕ) → Goes Q F wrong (λ s. typed.set_long b i pc h s)
  wide_fine true i s a =
      let first = freed (i + 1) (freed i h.locals) in
      let all = all_set Q first i Long (freed_fine (i + 1) (freed i h.locals) (freed_fine i h.locals hl)) (z.plain Long tt) in
      written (slice_set (slice_set first i Long) (i + 1) Second) (all_set Q (slice_set first i Long) (i + 1) Second all (z.plain Second tt)) s a
  wide_fine false i s a = wrong

  -- stores
  stores_fine : (t : Sort) (i : ℕ) → F (typed.stores P t i pc h)
  stores_fine sort.Int i = int_fine Q F wrong _ (set_fine (nat_lt i (length h.locals)) i Int (z.plain Int tt)) h.stack hs
  stores_fine sort.Reference i = top_fine Q F wrong _ (λ t s q a. so_fine Q F wrong (typed.is_reference t) _ (set_fine (nat_lt i (length h.locals)) i t q s a)) h.stack hs
  stores_fine sort.Long i = each_fine P Q F wrong (Second ∷ Long ∷ []) _ (wide_fine (nat_lt (i + 1) (length h.locals)) i) h.stack hs

  -- ---- the stack

  -- each rearrangement
  rearranged_fine : (r : StackOp) → F (typed.rearranged r pc h)
  rearranged_fine Nop = bare h.stack hs
  rearranged_fine Pop = one_fine Q F wrong _ (λ t s q a. bare s a) h.stack hs
  rearranged_fine Pop2 = two_fine Q F wrong _ (λ t u s q r a. bare s a) h.stack hs
  rearranged_fine Dup = one_fine Q F wrong _ (λ t s q a. again (t ∷ t ∷ []) (q, (q, tt)) s a) h.stack hs
  rearranged_fine DupX1 = one_fine Q F wrong _ (λ t s q a. one_fine Q F wrong _ (λ u s r b. again (t ∷ u ∷ t ∷ []) (q, (r, (q, tt))) s b) s a) h.stack hs
  rearranged_fine DupX2 = one_fine Q F wrong _ (λ t s q a. two_fine Q F wrong _ (λ u v s r x b. again (t ∷ u ∷ v ∷ t ∷ []) (q, (r, (x, (q, tt)))) s b) s a) h.stack hs
  rearranged_fine Dup2 = two_fine Q F wrong _ (λ t u s q r a. again (t ∷ u ∷ t ∷ u ∷ []) (q, (r, (q, (r, tt)))) s a) h.stack hs
  rearranged_fine Dup2X1 = two_fine Q F wrong _ (λ t u s q r a. one_fine Q F wrong _ (λ v s x b. again (t ∷ u ∷ v ∷ t ∷ u ∷ []) (q, (r, (x, (q, (r, tt))))) s b) s a) h.stack hs
  rearranged_fine Dup2X2 = two_fine Q F wrong _ (λ t u s q r a. two_fine Q F wrong _ (λ v w s x y b. again (t ∷ u ∷ v ∷ w ∷ t ∷ u ∷ []) (q, (r, (x, (y, (q, (r, tt)))))) s b) s a) h.stack hs
  rearranged_fine Swap = one_fine Q F wrong _ (λ t s q a. one_fine Q F wrong _ (λ u s r b. again (u ∷ t ∷ []) (r, (q, tt)) s b) s a) h.stack hs

  -- each conversion
  converted_fine : (c : Conversion) → F (typed.converted P c pc h)
  converted_fine IntToLong = int_fine Q F wrong _ (onward (Second ∷ Long ∷ []) long) h.stack hs
  converted_fine LongToInt = each_fine P Q F wrong (Second ∷ Long ∷ []) _ (onward (Int ∷ []) int) h.stack hs
  converted_fine c = int_fine Q F wrong _ (onward (Int ∷ []) int) h.stack hs

  -- ---- objects that aren't built

  -- each copy of an object is built
  built : (u t : VType) (b : Bool) (s : List VType) → Q t → AllOf Q s → F (Leads ((pc + 1) ∷ []) (record { locals = map (become u t) h.locals; stack = map (become u t) s; built = b }))
  built u t b s q a = leads ((pc + 1) ∷ []) (map (become u t) h.locals) [] (map (become u t) s) b (all_become Q u t h.locals q hl) (z.there [] tt) (all_become Q u t s q a)

  -- a constructor has run
  constructs_fine : (c : List ℕ) → Q (Ref k.name.class) × Q (Ref c) → GoesBy Q F wrong (λ t s. constructs P k pc c h t s)
  constructs_fine c r (Uninit p) s q a = so_fine Q F wrong _ (Leads ((pc + 1) ∷ []) (typed.built_as (Uninit p) (Ref c) h s)) (built (Uninit p) (Ref c) h.built s r.1 a)
  constructs_fine c r UninitThis s q a = so_fine Q F wrong _ (Leads ((pc + 1) ∷ []) (typed.this_built k h s)) (built UninitThis (Ref k.name.class) true s r.0 a)
  constructs_fine c r t s q a = wrong

  -- an object is made
  new_fine : (b : Bool) → F (typed.makes_new b pc h)
  new_fine true = wrong
  new_fine false = leads ((pc + 1) ∷ []) (map (become (Uninit pc) Top) h.locals) (Uninit pc ∷ []) h.stack h.built (all_become Q (Uninit pc) Top h.locals (z.plain Top tt) hl) (z.there (Uninit pc ∷ []) (z.plain (Uninit pc) tt, tt)) hs

  -- ---- calls, fields and returns

  -- a call
  calls_fine : (c : Method) → B (results c) → F (typed.calls P pc c h)
  calls_fine c r = each_fine P Q F wrong (reverse c.parameters) _ (onward (results c) r) h.stack hs

  -- a call by name
  special_fine : (b : Bool) (c : Method) → B (results c) → Q (Ref k.name.class) × Q (Ref c.name.class) → F (typed.special b P k pc c h)
  special_fine true c r q = so_fine Q F wrong (not (is_some c.result)) _ (each_fine P Q F wrong (reverse (typed.arguments c)) _ (top_fine Q F wrong _ (constructs_fine c.name.class q)) h.stack hs)
  special_fine false c r q = each_fine P Q F wrong (reverse (typed.arguments c)) _ (top_fine Q F wrong _ (λ t s x a. so_fine Q F wrong (is_within P t (Ref (name_read P k.name.class))) _ (calls_fine c r))) h.stack hs

  -- where there is a field
  field_fine : (o : Option Field) (f : Field → Flow) → ((d : Field) → o ≡ Some d → F (f d)) → F (typed.field_in o f)
  field_fine None f g = wrong
  field_fine (Some d) f g = g d refl

  -- where there is a method
  method_fine : (o : Option Method) (f : Method → Flow) → ((d : Method) → o ≡ Some d → F (f d)) → F (typed.method_in o f)
  method_fine None f g = wrong
  method_fine (Some d) f g = g d refl

  -- where there is a type
  row_fine : (o : Option Row) (f : Row → Flow) → ((d : Row) → o ≡ Some d → F (f d)) → F (typed.row_in o f)
  row_fine None f g = wrong
  row_fine (Some d) f g = g d refl

  -- a store to a field
  puts_fine : (d : Field) → Goes Q F wrong (λ s. typed.puts P k pc d h s)
  puts_fine d = top_fine Q F wrong _ (λ t s q a. so_fine Q F wrong ((is_uninit UninitThis t && bytes_eq d.class k.name.class) || is_within P t (Ref d.class)) (typed.leaves pc h s) (bare s a))

  -- the end of a method
  ends_fine : (b : Bool) (s : List VType) → AllOf Q s → F (typed.ends b (typed.with_stack h s))
  ends_fine true s a = down [] s a
  ends_fine false s a = wrong

  -- a return
  return_fine : (b : Bool) → F (typed.ends b h)
  return_fine true = down [] h.stack hs
  return_fine false = wrong

  -- calls of the context
  called_fine : (c : ContextCall) → F (typed.called P c pc h)
  called_fine call.Init = int_fine Q F wrong _ (int_fine Q F wrong _ (on_fine P Q F wrong (Ref context_class) _ bare)) h.stack hs
  called_fine call.BeforeRead = each_fine P Q F wrong (Second ∷ Long ∷ []) _ (on_fine P Q F wrong (Ref object_class) _ (on_fine P Q F wrong (Ref context_class) _ bare)) h.stack hs
  called_fine (call.OnRead t) = each_fine P Q F wrong (Second ∷ Long ∷ []) _ (each_fine P Q F wrong (stored_types t) _ (on_fine P Q F wrong (Ref object_class) _ (on_fine P Q F wrong (Ref context_class) _ (onward (stored_types t) (stored t))))) h.stack hs
  called_fine (call.OnWrite t) = each_fine P Q F wrong (Second ∷ Long ∷ []) _ (each_fine P Q F wrong (stored_types t) _ (on_fine P Q F wrong (Ref object_class) _ (on_fine P Q F wrong (Ref context_class) _ bare))) h.stack hs
  called_fine call.BeforeReadElement = int_fine Q F wrong _ (on_fine P Q F wrong (Ref object_class) _ (on_fine P Q F wrong (Ref context_class) _ bare)) h.stack hs
  called_fine (call.OnReadElement t) = int_fine Q F wrong _ (each_fine P Q F wrong (stored_types t) _ (on_fine P Q F wrong (Ref object_class) _ (on_fine P Q F wrong (Ref context_class) _ (onward (stored_types t) (stored t))))) h.stack hs
  called_fine (call.OnWriteElement t) = int_fine Q F wrong _ (each_fine P Q F wrong (stored_types t) _ (on_fine P Q F wrong (Ref object_class) _ (on_fine P Q F wrong (Ref context_class) _ bare))) h.stack hs
  called_fine call.Commit = on_fine P Q F wrong (Ref context_class) _ (onward (Int ∷ []) int) h.stack hs
  called_fine call.Rollback = on_fine P Q F wrong (Ref context_class) _ bare h.stack hs

  -- each instruction
  pub flow_brings : (o : Op) → slice_get k.ops pc ≡ Some o → F (flow P k pc o h)
  flow_brings (op.Constant v) e = onward (constant_types v) (constants v) h.stack hs
  flow_brings (op.Text n) e = so_fine Q F wrong (is_some (slice_get P.texts n)) _ (onward (Ref string_class ∷ []) z.string h.stack hs)
  flow_brings (op.Load t i) e = loads_fine t i
  flow_brings (op.Store t i) e = stores_fine t i
  flow_brings (op.Stack r) e = rearranged_fine r
  flow_brings (op.Binary w b) e = number_fine P Q F wrong w _ (number_fine P Q F wrong w _ (onward (number_types w) (numbers w))) h.stack hs
  flow_brings (op.Shift w b) e = int_fine Q F wrong _ (number_fine P Q F wrong w _ (onward (number_types w) (numbers w))) h.stack hs
  flow_brings (op.Divide w d) e = number_fine P Q F wrong w _ (number_fine P Q F wrong w _ (onward (number_types w) (numbers w))) h.stack hs
  flow_brings (op.Unary w u) e = number_fine P Q F wrong w _ (onward (number_types w) (numbers w)) h.stack hs
  flow_brings (op.Convert c) e = converted_fine c
  flow_brings op.CompareLongs e = each_fine P Q F wrong (Second ∷ Long ∷ []) _ (each_fine P Q F wrong (Second ∷ Long ∷ []) _ (onward (Int ∷ []) int)) h.stack hs
  flow_brings (op.Increment i n) e = int_in_fine (slice_get h.locals i) _ (bare h.stack hs)
  flow_brings (op.Branch t to) e = int_fine Q F wrong _ (down ((pc + 1) ∷ to ∷ [])) h.stack hs
  flow_brings (op.BranchInts t to) e = int_fine Q F wrong _ (int_fine Q F wrong _ (down ((pc + 1) ∷ to ∷ []))) h.stack hs
  flow_brings (op.BranchNull b to) e = on_fine P Q F wrong (Ref object_class) _ (down ((pc + 1) ∷ to ∷ [])) h.stack hs
  flow_brings (op.BranchReferences b to) e = on_fine P Q F wrong (Ref object_class) _ (on_fine P Q F wrong (Ref object_class) _ (down ((pc + 1) ∷ to ∷ []))) h.stack hs
  flow_brings (op.Goto to) e = down (to ∷ []) h.stack hs
  flow_brings (op.Switch other cases) e = int_fine Q F wrong _ (down (typed.exits other cases)) h.stack hs
  flow_brings (op.GetStatic n) e = field_fine (field_at P n) _ (λ d i. so_fine Q F wrong (is_some d.base) _ (onward (stack_types d.declared) (z.fields n d i) h.stack hs))
  flow_brings (op.PutStatic n) e = field_fine (field_at P n) _ (λ d i. so_fine Q F wrong (is_some d.base) _ (each_fine P Q F wrong (stack_types d.declared) _ bare h.stack hs))
  flow_brings (op.GetField n c) e = so_fine Q F wrong (typed.is_received P c (slice_get h.stack 0)) _ (field_fine (field_at P n) _ (λ d i. on_fine P Q F wrong (Ref d.class) _ (onward (stack_types d.declared) (z.fields n d i)) h.stack hs))
  flow_brings (op.PutField n c) e = so_fine Q F wrong (typed.is_received P c (slice_get h.stack (typed.value_places (field_at P n)))) _ (field_fine (field_at P n) _ (λ d i. each_fine P Q F wrong (stack_types d.declared) _ (puts_fine d) h.stack hs))
  flow_brings (op.InvokeStatic m) e = method_fine (method_at P m) _ (λ c i. calls_fine c (z.gives m c i))
  flow_brings (op.InvokeSpecial m) e = method_fine (method_at P m) _ (λ c i. special_fine (typed.is_constructor c) c (z.gives m c i) (z.called m c e i))
  flow_brings (op.InvokeVirtual m n) e = so_fine Q F wrong (typed.is_received P n (slice_get h.stack (typed.argument_places (method_at P m)))) _ (method_fine (method_at P m) _ (λ c i. calls_fine c (z.gives m c i)))
  flow_brings (op.InvokeInterface m n) e = method_fine (method_at P m) _ (λ c i. calls_fine c (z.gives m c i))
  flow_brings (op.InitLibrary c n) e = each_fine P Q F wrong (replicate n (Ref string_class)) _ (top_fine Q F wrong _ (constructs_fine c (z.library c n e))) h.stack hs
  flow_brings (op.New t) e = row_fine (row_at P t) _ (λ r i. new_fine (list_any (is_uninit (Uninit pc)) h.stack))
  flow_brings (op.NewArray t) e = row_fine (row_at P t) _ (λ r i. int_fine Q F wrong _ (onward (Ref r.read ∷ []) (z.arrays t r i)) h.stack hs)
  flow_brings op.ArrayLength e = array_fine Q F wrong _ (λ s a. onward (Int ∷ []) int s a) (λ n s i q a. onward (Int ∷ []) int s a) h.stack hs
  flow_brings (op.LoadElement t) e = int_fine Q F wrong _ (array_fine Q F wrong _ (λ s a. onward (typed.element_types t Null) (null_elements t) s a) (λ n s i q a. so_fine Q F wrong (typed.has_elements t n) _ (onward (typed.element_types t (Ref n)) (elements t n i q) s a))) h.stack hs
  flow_brings (op.StoreElement t) e = each_fine P Q F wrong (stored_types t) _ (int_fine Q F wrong _ (array_fine Q F wrong _ (λ s a. bare s a) (λ n s i q a. so_fine Q F wrong (typed.has_elements t n) _ (bare s a)))) h.stack hs
  flow_brings (op.CheckCast c) e = on_fine P Q F wrong (Ref object_class) _ (onward (Ref (name_read P c) ∷ []) (z.casts c e)) h.stack hs
  flow_brings (op.InstanceOf c) e = on_fine P Q F wrong (Ref object_class) _ (onward (Int ∷ []) int) h.stack hs
  flow_brings op.Return e = return_fine (not (is_some k.result) && (not (typed.is_constructor k) || h.built))
  flow_brings (op.ReturnValue t) e = so_fine Q F wrong (typed.returns t k.result) _ (each_fine P Q F wrong (results k) _ (ends_fine true) h.stack hs)
  flow_brings op.Throw e = on_fine P Q F wrong (Ref throwable_class) _ (ends_fine true) h.stack hs
  flow_brings op.GetContext e = onward (Ref context_class ∷ []) z.context h.stack hs
  flow_brings (op.Context c) e = called_fine c

-- types that a program's instructions don't lead out of
module _ (P : Program) (k : Method) (Q : VType → Type 0) (z : IsClosed P k Q) (pc : ℕ) (h : Types) (hl : AllOf Q h.locals) (hs : AllOf Q h.stack) where
  brings : Brings P k pc Q (AllOf Q)
  brings = record {
    plain = z.plain;
    there = λ ls a. a;
    element = λ n e q. (z.element n e q, tt);
    object = (z.object, tt);
    string = (z.string, tt);
    context = (z.context, tt);
    fields = z.fields;
    gives = z.gives;
    arrays = λ t r e. (z.arrays t r e, tt);
    casts = λ c e. (z.casts pc c e, tt);
    called = λ m c e i. (z.own, z.made m c i);
    library = λ c n e. (z.own, z.library pc c n e);
  }

  pub flow_fine : (o : Op) → slice_get k.ops pc ≡ Some o → IsFine Q (flow P k pc o h)
  flow_fine o e = flow_brings P k pc Q (AllOf Q) brings (IsFine Q) tt (λ tos l ls s b al a d. (al, all_append Q ls s a d)) h hl hs o e
