-- What an instruction does by its rule.
use Rattle.std.proofs.Common.{◌≡◌, ℕ, ◌+◌, List, [], ◌∷◌, ◌++◌, length, reverse, drop, Option, Some, None, Bool, true, false, refl, sym, ap, ◌∙◌}
use Rattle.std.specs.Prelude.{◌&&◌, slice_get, is_some, if◌then◌else◌}
use Rattle.jmodel.specs.declared.typing.VType.{VType}
use Rattle.jmodel.specs.declared.typing.VType.TheVariants.{Int, Long, Second, Ref}
use Rattle.objects.specs.declared.op.Width.{Width}
use Rattle.objects.specs.declared.op.Width.TheVariants as width
use Rattle.objects.specs.declared.op.Conversion.{Conversion}
use Rattle.objects.specs.declared.op.Conversion.TheVariants.{IntToLong, LongToInt}
use Rattle.objects.specs.declared.op.ContextCall.{ContextCall}
use Rattle.objects.specs.declared.op.ContextCall.TheVariants as call
use Rattle.objects.specs.declared.op.Op.{Op}
use Rattle.objects.specs.declared.op.Op.TheVariants as op
use Rattle.objects.specs.semantics.Program.{Field, Method, Row, Program, method_at, field_at, row_at}
use Rattle.objects.specs.typing.TypeOrder.{object_class, throwable_class, string_class, context_class, name_read, stack_types, is_within}
use Rattle.objects.specs.typing.Typing as typed
use Rattle.objects.specs.typing.Typing.{Types, Flow, Leads, Wrong, on, on_each, on_int, on_number, number_types, stored_types, results, returns, if_so, is_received}
use Rattle.verifier.specs.Rules.{Rule, field_rule, row_rule, rule, next, are_taken, ruled, only, convert_rule, call_rule, context_rule, rule_of}

abbrev Rest : Type 0
Rest = List VType → Flow

module _ (P : Program) where
  -- values that are taken one by one
  pub each_is : (ts s : List VType) (k : Rest) → on_each P ts s k ≡ (if are_taken P ts s then k (drop (length ts) s) else Wrong)
  each_is [] s k = refl
  each_is (t ∷ ts) [] k = refl
  each_is (t ∷ ts) (u ∷ s) k = go (is_within P u t) (each_is ts s k)
    where
      go : (b : Bool) → on_each P ts s k ≡ (if are_taken P ts s then k (drop (length ts) s) else Wrong) → (if b then on_each P ts s k else Wrong) ≡ (if b && are_taken P ts s then k (drop (length ts) s) else Wrong)
      go true e = e
      go false e = refl

  on_same : (t : VType) (s : List VType) (j k : Rest) → ((r : List VType) → j r ≡ k r) → on P t s j ≡ on P t s k
  on_same t [] j k h = refl
  on_same t (u ∷ s) j k h = go (is_within P u t)
    where
      go : (b : Bool) → (if b then j s else Wrong) ≡ (if b then k s else Wrong)
      go true = h s
      go false = refl

  each_same : (ts s : List VType) (j k : Rest) → ((r : List VType) → j r ≡ k r) → on_each P ts s j ≡ on_each P ts s k
  each_same [] s j k h = h s
  each_same (t ∷ ts) s j k h = on_same t s (λ s. on_each P ts s j) (λ s. on_each P ts s k) (λ r. each_same ts r j k h)

  int_is : (s : List VType) (k : Rest) → on_int s k ≡ on_each P (Int ∷ []) s k
  int_is [] k = refl
  int_is (Int ∷ s) k = refl
  int_is (t ∷ s) k = refl

  number_is : (w : Width) (s : List VType) (k : Rest) → on_number P w s k ≡ on_each P (number_types w) s k
  number_is width.Int s k = int_is s k
  number_is width.Long s k = refl

  -- two lists of them
  each_append : (a b s : List VType) (k : Rest) → on_each P a s (λ s. on_each P b s k) ≡ on_each P (a ++ b) s k
  each_append [] b s k = refl
  each_append (t ∷ a) b s k = on_same t s (λ s. on_each P a s (λ s. on_each P b s k)) (λ s. on_each P (a ++ b) s k) (λ r. each_append a b r k)

  int_then : (ts s : List VType) (j k : Rest) → ((r : List VType) → j r ≡ on_each P ts r k) → on_int s j ≡ on_each P (Int ∷ ts) s k
  int_then ts s j k h = int_is s j ∙ on_same Int s j (λ s. on_each P ts s k) h

  and_then : (a ts s : List VType) (j k : Rest) → ((r : List VType) → j r ≡ on_each P ts r k) → on_each P a s j ≡ on_each P (a ++ ts) s k
  and_then a ts s j k h = each_same a s j (λ s. on_each P ts s k) h ∙ each_append a ts s k

  numbers_are : (v w : Width) (s : List VType) (k : Rest) → on_number P v s (λ s. on_number P w s k) ≡ on_each P (number_types v ++ number_types w) s k
  numbers_are v w s k = number_is v s (λ s. on_number P w s k) ∙ and_then (number_types v) (number_types w) s (λ s. on_number P w s k) k (λ r. number_is w r k)

  module _ (k : Method) (pc : ℕ) (h : Types) where
    abbrev goes : List ℕ → List VType → Rest
    goes to ls s = Leads to (typed.with_stack h (ls ++ s))

    by_rule : (ts ls : List VType) (to : List ℕ) → on_each P ts h.stack (goes to ls) ≡ ruled P h (rule ts ls to)
    by_rule ts ls to = each_is ts h.stack (goes to ls)

    only_is : (b : Bool) (f : Flow) (r : Option Rule) → f ≡ ruled P h r → if_so b f ≡ ruled P h (only b r)
    only_is true f r e = e
    only_is false f r e = refl

    converted_is : (c : Conversion) → typed.converted P c pc h ≡ ruled P h (convert_rule c pc)
    converted_is IntToLong = int_is h.stack (goes (next pc) (Second ∷ Long ∷ [])) ∙ by_rule (Int ∷ []) (Second ∷ Long ∷ []) (next pc)
    converted_is LongToInt = by_rule (Second ∷ Long ∷ []) (Int ∷ []) (next pc)
    converted_is c = int_is h.stack (goes (next pc) (Int ∷ [])) ∙ by_rule (Int ∷ []) (Int ∷ []) (next pc)

    field_is : (o : Option Field) (f : Field → Flow) (r : Field → Option Rule) → ((d : Field) → f d ≡ ruled P h (r d)) → typed.field_in o f ≡ ruled P h (field_rule o r)
    field_is None f r e = refl
    field_is (Some d) f r e = e d

    call_is : (o : Option Method) → typed.method_in o (λ c. typed.calls P pc c h) ≡ ruled P h (call_rule o pc)
    call_is None = refl
    call_is (Some c) = by_rule (reverse c.parameters) (results c) (next pc)

    array_is : (o : Option Row) → typed.row_in o (λ r. on_int h.stack (λ s. typed.leaves pc h (Ref r.read ∷ s))) ≡ ruled P h (row_rule o (λ r. rule (Int ∷ []) (Ref r.read ∷ []) (next pc)))
    array_is None = refl
    array_is (Some r) = int_is h.stack (goes (next pc) (Ref r.read ∷ [])) ∙ by_rule (Int ∷ []) (Ref r.read ∷ []) (next pc)

    abbrev held : List VType
    held = Ref object_class ∷ Ref context_class ∷ []

    called_is : (c : ContextCall) → typed.called P c pc h ≡ ruled P h (context_rule c pc)
    called_is call.Init = int_then (Int ∷ Ref context_class ∷ []) h.stack _ (goes (next pc) []) (λ r. int_then (Ref context_class ∷ []) r _ (goes (next pc) []) (λ q. refl)) ∙ by_rule (Int ∷ Int ∷ Ref context_class ∷ []) [] (next pc)
    called_is call.BeforeRead = by_rule (Second ∷ Long ∷ held) [] (next pc)
    called_is (call.OnRead t) = each_same (Second ∷ Long ∷ []) h.stack _ _ (λ r. each_append (stored_types t) held r (goes (next pc) (stored_types t))) ∙ by_rule (Second ∷ Long ∷ stored_types t ++ held) (stored_types t) (next pc)
    called_is (call.OnWrite t) = each_same (Second ∷ Long ∷ []) h.stack _ _ (λ r. each_append (stored_types t) held r (goes (next pc) [])) ∙ by_rule (Second ∷ Long ∷ stored_types t ++ held) [] (next pc)
    called_is call.BeforeReadElement = int_then held h.stack _ (goes (next pc) []) (λ r. refl) ∙ by_rule (Int ∷ held) [] (next pc)
    called_is (call.OnReadElement t) = int_then (stored_types t ++ held) h.stack _ (goes (next pc) (stored_types t)) (λ r. each_append (stored_types t) held r (goes (next pc) (stored_types t))) ∙ by_rule (Int ∷ stored_types t ++ held) (stored_types t) (next pc)
    called_is (call.OnWriteElement t) = int_then (stored_types t ++ held) h.stack _ (goes (next pc) []) (λ r. each_append (stored_types t) held r (goes (next pc) [])) ∙ by_rule (Int ∷ stored_types t ++ held) [] (next pc)
    called_is call.Commit = by_rule (Ref context_class ∷ []) (Int ∷ []) (next pc)
    called_is call.Rollback = by_rule (Ref context_class ∷ []) [] (next pc)

    int_rule : (ls : List VType) (to : List ℕ) → on_int h.stack (goes to ls) ≡ ruled P h (rule (Int ∷ []) ls to)
    int_rule ls to = int_is h.stack (goes to ls) ∙ by_rule (Int ∷ []) ls to

    number_rule : (w : Width) → on_number P w h.stack (goes (next pc) (number_types w)) ≡ ruled P h (rule (number_types w) (number_types w) (next pc))
    number_rule w = number_is w h.stack (goes (next pc) (number_types w)) ∙ by_rule (number_types w) (number_types w) (next pc)

    numbers_rule : (w : Width) → on_number P w h.stack (λ s. on_number P w s (goes (next pc) (number_types w))) ≡ ruled P h (rule (number_types w ++ number_types w) (number_types w) (next pc))
    numbers_rule w = numbers_are w w h.stack (goes (next pc) (number_types w)) ∙ by_rule (number_types w ++ number_types w) (number_types w) (next pc)

  -- the instructions that have a rule, whatever the locals and objects are
  abbrev pub has_rule : Op → Bool
  has_rule (op.Load s i) = false
  has_rule (op.Store s i) = false
  has_rule (op.Stack r) = false
  has_rule (op.Increment i n) = false
  has_rule (op.GetField i c) = false
  has_rule (op.PutField i c) = false
  has_rule (op.InvokeSpecial m) = false
  has_rule (op.InvokeVirtual m c) = false
  has_rule (op.InitLibrary c n) = false
  has_rule (op.New t) = false
  has_rule op.ArrayLength = false
  has_rule (op.LoadElement t) = false
  has_rule (op.StoreElement t) = false
  has_rule op.Return = false
  has_rule o = true

  module _ (k : Method) (pc : ℕ) (h : Types) where
    -- the flow of an instruction is that of its rule
    pub rule_is : (o : Op) → has_rule o ≡ true → typed.flow P k pc o h ≡ ruled P h (rule_of P k pc o)
    rule_is (op.Constant v) e = by_rule k pc h [] (typed.constant_types v) (next pc)
    rule_is (op.Text i) e = only_is k pc h (is_some (slice_get P.texts i)) _ (rule [] (Ref string_class ∷ []) (next pc)) (by_rule k pc h [] (Ref string_class ∷ []) (next pc))
    rule_is (op.Binary w b) e = numbers_rule k pc h w
    rule_is (op.Shift w b) e = int_then (number_types w) h.stack _ (goes k pc h (next pc) (number_types w)) (λ r. number_is w r (goes k pc h (next pc) (number_types w))) ∙ by_rule k pc h (Int ∷ number_types w) (number_types w) (next pc)
    rule_is (op.Divide w d) e = numbers_rule k pc h w
    rule_is (op.Unary w u) e = number_rule k pc h w
    rule_is (op.Convert c) e = converted_is k pc h c
    rule_is op.CompareLongs e = by_rule k pc h (Second ∷ Long ∷ Second ∷ Long ∷ []) (Int ∷ []) (next pc)
    rule_is (op.Branch t to) e = int_rule k pc h [] ((pc + 1) ∷ to ∷ [])
    rule_is (op.BranchInts t to) e = int_then (Int ∷ []) h.stack _ (goes k pc h ((pc + 1) ∷ to ∷ []) []) (λ r. int_is r (goes k pc h ((pc + 1) ∷ to ∷ []) [])) ∙ by_rule k pc h (Int ∷ Int ∷ []) [] ((pc + 1) ∷ to ∷ [])
    rule_is (op.BranchNull b to) e = by_rule k pc h (Ref object_class ∷ []) [] ((pc + 1) ∷ to ∷ [])
    rule_is (op.BranchReferences b to) e = by_rule k pc h (Ref object_class ∷ Ref object_class ∷ []) [] ((pc + 1) ∷ to ∷ [])
    rule_is (op.Goto to) e = by_rule k pc h [] [] (to ∷ [])
    rule_is (op.Switch other cases) e = int_rule k pc h [] (typed.exits other cases)
    rule_is (op.GetStatic i) e = field_is k pc h (field_at P i) _ (λ d. only (is_some d.base) (rule [] (stack_types d.declared) (next pc))) (λ d. only_is k pc h (is_some d.base) _ (rule [] (stack_types d.declared) (next pc)) (by_rule k pc h [] (stack_types d.declared) (next pc)))
    rule_is (op.PutStatic i) e = field_is k pc h (field_at P i) _ (λ d. only (is_some d.base) (rule (stack_types d.declared) [] (next pc))) (λ d. only_is k pc h (is_some d.base) _ (rule (stack_types d.declared) [] (next pc)) (by_rule k pc h (stack_types d.declared) [] (next pc)))
    rule_is (op.InvokeStatic m) e = call_is k pc h (method_at P m)
    rule_is (op.InvokeInterface m c) e = call_is k pc h (method_at P m)
    rule_is (op.NewArray t) e = array_is k pc h (row_at P t)
    rule_is (op.CheckCast c) e = by_rule k pc h (Ref object_class ∷ []) (Ref (name_read P c) ∷ []) (next pc)
    rule_is (op.InstanceOf c) e = by_rule k pc h (Ref object_class ∷ []) (Int ∷ []) (next pc)
    rule_is (op.ReturnValue t) e = only_is k pc h (returns t k.result) _ (rule (results k) [] []) (by_rule k pc h (results k) [] [])
    rule_is op.Throw e = by_rule k pc h (Ref throwable_class ∷ []) [] []
    rule_is op.GetContext e = by_rule k pc h [] (Ref context_class ∷ []) (next pc)
    rule_is (op.Context c) e = called_is k pc h c
    rule_is (op.Load s i) e = absurd (let no : ⊥ = cc (e) in no)
    rule_is (op.Store s i) e = absurd (let no : ⊥ = cc (e) in no)
    rule_is (op.Stack r) e = absurd (let no : ⊥ = cc (e) in no)
    rule_is (op.Increment i n) e = absurd (let no : ⊥ = cc (e) in no)
    rule_is (op.GetField i c) e = absurd (let no : ⊥ = cc (e) in no)
    rule_is (op.PutField i c) e = absurd (let no : ⊥ = cc (e) in no)
    rule_is (op.InvokeSpecial m) e = absurd (let no : ⊥ = cc (e) in no)
    rule_is (op.InvokeVirtual m c) e = absurd (let no : ⊥ = cc (e) in no)
    rule_is (op.InitLibrary c n) e = absurd (let no : ⊥ = cc (e) in no)
    rule_is (op.New t) e = absurd (let no : ⊥ = cc (e) in no)
    rule_is op.ArrayLength e = absurd (let no : ⊥ = cc (e) in no)
    rule_is (op.LoadElement t) e = absurd (let no : ⊥ = cc (e) in no)
    rule_is (op.StoreElement t) e = absurd (let no : ⊥ = cc (e) in no)
    rule_is op.Return e = absurd (let no : ⊥ = cc (e) in no)

    -- where the object is at most of the named class
    pub get_is : (i : ℕ) (c : List ℕ) → typed.flow P k pc (op.GetField i c) h ≡ if_so (is_received P c (slice_get h.stack 0)) (ruled P h (rule_of P k pc (op.GetField i c)))
    get_is i c = ap (if_so (is_received P c (slice_get h.stack 0))) (field_is k pc h (field_at P i) _ (λ d. rule (Ref d.class ∷ []) (stack_types d.declared) (next pc)) (λ d. by_rule k pc h (Ref d.class ∷ []) (stack_types d.declared) (next pc)))

    pub virtual_is : (m : ℕ) (c : List ℕ) → typed.flow P k pc (op.InvokeVirtual m c) h ≡ if_so (is_received P c (slice_get h.stack (typed.argument_places (method_at P m)))) (ruled P h (rule_of P k pc (op.InvokeVirtual m c)))
    virtual_is m c = ap (if_so (is_received P c (slice_get h.stack (typed.argument_places (method_at P m))))) (call_is k pc h (method_at P m))

    -- a read of a field where its object is received, by its rule
    pub get_some : (i : ℕ) (c : List ℕ) (r : Option Rule) → r ≡ rule_of P k pc (op.GetField i c) → is_received P c (slice_get h.stack 0) ≡ true → ruled P h r ≡ typed.flow P k pc (op.GetField i c) h
    get_some i c r e x = sym (get_is i c ∙ ap (λ (b : Bool). if_so b (ruled P h (rule_of P k pc (op.GetField i c)))) x ∙ ap (ruled P h) (sym e))
