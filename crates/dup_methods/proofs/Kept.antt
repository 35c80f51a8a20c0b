-- Instructions that a duplicate keeps: they mean there what they meant.
use Rattle.std.proofs.Common.{◌≡◌, ℕ, ℤ, Bool, true, false, List, Option, Some, None, refl, sym, ap, ◌∙◌}
use Rattle.std.specs.Prelude.{if◌then◌else◌, bytes_eq, ◌==◌, option_map, option_and_then, position}
use Rattle.std.specs.Option.{option_or}
use Rattle.jmodel.specs.declared.class_file.Constant.{Constant}
use Rattle.jmodel.specs.declared.class_file.Constant.TheVariants as constants
use Rattle.jmodel.specs.declared.instruction.Operands.{Operands}
use Rattle.jmodel.specs.declared.instruction.Operands.TheVariants as operands
use Rattle.jmodel.specs.declared.instruction.Instr.{Instr}
use Rattle.jmodel.specs.declared.value.Value.{Value}
use Rattle.jmodel.specs.declared.value.Value.TheVariants as value
use Rattle.jmodel.specs.format.ClassFile.{Pool}
use Rattle.jmodel.specs.format.Pool.{MemberName, entry, string_in, utf8, class_name, field_in, field_name, member_in, member_name}
use Rattle.objects.specs.linking.Taken.{index_of}
use Rattle.objects.specs.linking.Code.{table_cases}
use Rattle.jmodel.specs.format.Relocation.{retarget}
use Rattle.objects.specs.declared.op.Op.{Op}
use Rattle.objects.specs.declared.op.Op.TheVariants as op
use Rattle.objects.specs.semantics.Program.{Program, Row}
use Rattle.objects.specs.typing.TypeOrder.{context_class}
use Rattle.objects.specs.linking.LibraryMethods.{is_library_constructor, is_library_function}
use Rattle.objects.specs.linking.Layout.{class_read, type_number, array_over}
use Rattle.objects.specs.linking.Resolution.{special_method}
use Rattle.objects.specs.linking.Constructs.{accessed}
use Rattle.objects.specs.linking.Decoding.{Symbols, is_among, field_number, number_of, method_number, primitive_array, new_array, number_op, pushed_op, text_op, ldc_op, added_address, is_base, get_static_op, field_op, function_op, is_get_context, static_call_op, special_call_op, virtual_call_op, call_op, class_op, pool_op, meaning, op_of}
use Rattle.member_code.proofs.Grown.{Grown, entry_grown, utf8_grown, class_grown, field_grown, member_grown}
use Rattle.member_code.proofs.Single.{Means}
use Rattle.dup_methods.specs.DuplicateLaw.{Ties}
use Rattle.dup_methods.proofs.Apart.{NoneOf, nothing, either, mapped, jump_none, switch_none}

-- what stands in the duplicate as it stood, and leads nowhere
abbrev pub is_same : Op → Bool
is_same (op.Load s n) = false
is_same (op.Store s n) = false
is_same (op.Increment n x) = false
is_same (op.Branch t to) = false
is_same (op.BranchInts t to) = false
is_same (op.BranchNull b to) = false
is_same (op.BranchReferences b to) = false
is_same (op.Goto to) = false
is_same (op.Switch other cases) = false
is_same (op.GetStatic f) = false
is_same (op.PutStatic f) = false
is_same (op.GetField f c) = false
is_same (op.PutField f c) = false
is_same (op.InvokeStatic m) = false
is_same (op.InvokeSpecial m) = false
is_same (op.InvokeVirtual m c) = false
is_same (op.InvokeInterface m c) = false
is_same (op.LoadElement t) = false
is_same (op.StoreElement t) = false
is_same o = true

-- such an instruction that was meant is still meant
record Kept (x y : Option Op) : Type 0 where
  kept : (o : Op) → x ≡ Some o → is_same o ≡ true → y ≡ Some o

kept_none : (x y : Option Op) → NoneOf is_same x → Kept x y
kept_none x y h = record { kept = λ o e t. absurd (h.other o e t) }

kept_refl : (x : Option Op) → Kept x x
kept_refl x = record { kept = λ o e t. e }

kept_when : (b : Bool) (x x' y y' : Option Op) → Kept x x' → Kept y y' → Kept (if b then x else y) (if b then x' else y')
kept_when true x x' y y' p q = p
kept_when false x x' y y' p q = q

kept_if : (b : Bool) (x x' y y' : Option Op) → (b ≡ true → Kept x x') → Kept y y' → Kept (if b then x else y) (if b then x' else y')
kept_if true x x' y y' p q = p refl
kept_if false x x' y y' p q = q

kept_map : {A : Type 0} (f : A → Op) (x y : Option A) → ((a : A) → x ≡ Some a → y ≡ Some a) → Kept (option_map f x) (option_map f y)
kept_map f None y h = record { kept = λ o e t. absurd cc }
kept_map f (Some a) y h = let e = h a refl in rw e (kept_refl _)

kept_known : {A : Type 0} (f g : A → Option Op) (x y : Option A) → ((a : A) → x ≡ Some a → y ≡ Some a) → ((a : A) → x ≡ Some a → Kept (f a) (g a)) → Kept (option_and_then f x) (option_and_then g y)
kept_known f g None y h k = record { kept = λ o e t. absurd cc }
kept_known f g (Some a) y h k = let e = h a refl in rw e (k a refl)

kept_then : {A : Type 0} (f g : A → Option Op) (x y : Option A) → ((a : A) → x ≡ Some a → y ≡ Some a) → ((a : A) → Kept (f a) (g a)) → Kept (option_and_then f x) (option_and_then g y)
kept_then f g x y h k = kept_known f g x y h (λ a e. k a)

-- a reference to a field is one to a member
field_member : (pool : Pool) (i : ℕ) (n : MemberName) → field_name pool i ≡ Some n → member_name pool i ≡ Some n
field_member pool i n e = go (entry pool i) e
  where
    go : (c : Option Constant) → option_and_then (field_in pool) c ≡ Some n → option_and_then (member_in pool) c ≡ Some n
    go None e = e
    go (Some (constants.Field class p)) e = e
    go (Some c) e = absurd cc

-- the field that a name of an opcode is accessed by
accessed_by : (pool : Pool) (i : Instr) (j : ℕ) (n : MemberName) → index_of i.operands ≡ Some j → is_among 178 181 i.op ≡ true → field_name pool j ≡ Some n → accessed pool i ≡ Some n
accessed_by pool i j n at a e = rw a (ap (option_and_then (member_name pool)) at ∙ field_member pool j n e)

-- ldc by the entry that it names
abbrev ldc_of : Symbols → Option Constant → Option Op
ldc_of s c = option_or (option_and_then (text_op s) (option_and_then (string_in s.class.pool) c)) (option_and_then (pushed_op s) c)

-- what an opcode of a static field means, where it isn't a constant
static_field : (s : Symbols) (n : MemberName) (o : Op) → get_static_op s n ≡ Some o → is_same o ≡ true → (v : Value) × (o ≡ op.Constant v)
static_field s n o e t = go (field_number s n) (added_address s.class n) (is_base s.class n) e
  where
    go : (a : Option ℕ) (b : Option ℤ) (c : Bool) → option_or (option_map op.GetStatic a) (option_or (option_map (λ x. op.Constant (value.Long x)) b) (if c then Some (op.Constant (value.Ref s.base)) else None)) ≡ Some o → (v : Value) × (o ≡ op.Constant v)
    go (Some f) b c h = let same : op.GetStatic f ≡ o = cc in let u : is_same (op.GetStatic f) ≡ is_same o = ap is_same same in absurd (cc (u, t))
    go None (Some x) c h = let same : op.Constant (value.Long x) ≡ o = cc in (value.Long x, sym same)
    go None None true h = let same : op.Constant (value.Ref s.base) ≡ o = cc in (value.Ref s.base, sym same)
    go None None false h = absurd cc

module _ (P : Program) (Called Accessed : MemberName → Type 0) (s0 s : Symbols) (T : Ties P Called Accessed s0 s) (G : Grown s0.class.pool s.class.pool) where
  type_kept : (n : List ℕ) (t : ℕ) → type_number s0.types n ≡ Some t → type_number s.types n ≡ Some t
  type_kept n t e = ap (λ (ts : List Row). type_number ts n) T.types ∙ e

  new_array_kept : (n : List ℕ) → Kept (new_array s0 n) (new_array s n)
  new_array_kept n = kept_map op.NewArray (type_number s0.types n) (type_number s.types n) (type_kept n)

  number_kept : (c : ℕ) (n : ℤ) → Kept (number_op s0 c n) (number_op s c n)
  number_kept c n = kept_when (is_among 16 17 c) _ _ _ _ (kept_refl (Some (op.Constant (value.Int n))))
      (kept_when (c == 188) _ _ None None (kept_then (new_array s0) (new_array s) (primitive_array n) (primitive_array n) (λ a e. e) new_array_kept) (kept_refl None))

  -- ---- constants

  text_kept : (t : List ℕ) → Kept (text_op s0 t) (text_op s t)
  text_kept t = kept_map op.Text (position (bytes_eq t) s0.texts) (position (bytes_eq t) s.texts) (λ a e. ap (λ (ts : List (List ℕ)). position (bytes_eq t) ts) T.texts ∙ e)

  ldc_same : (c : Constant) → Kept (ldc_of s0 (Some c)) (ldc_of s (Some c))
  ldc_same (constants.Text j) = go (utf8 s0.class.pool j) (utf8 s.class.pool j) (utf8_grown s0.class.pool s.class.pool G j)
    where
      or_nothing : (x y : Option Op) → Kept x y → Kept (option_or x None) (option_or y None)
      or_nothing None y h = record { kept = λ o e t. absurd cc }
      or_nothing (Some q) y h = record { kept = λ o e t. let f = h.kept o e t in rw f refl }

      go : (a b : Option (List ℕ)) → ((t : List ℕ) → a ≡ Some t → b ≡ Some t) → Kept (option_or (option_and_then (text_op s0) a) None) (option_or (option_and_then (text_op s) b) None)
      go a b same = or_nothing _ _ (kept_then (text_op s0) (text_op s) a b same text_kept)
  ldc_same (constants.Integer n) = kept_refl _
  ldc_same (constants.Long n) = kept_refl _
  ldc_same c = kept_refl None

  ldc_kept : (i : ℕ) → Kept (ldc_op s0 i) (ldc_op s i)
  ldc_kept i = go (entry s0.class.pool i) (entry s.class.pool i) (entry_grown s0.class.pool s.class.pool G i)
    where
      go : (a b : Option Constant) → ((c : Constant) → a ≡ Some c → b ≡ Some c) → Kept (ldc_of s0 a) (ldc_of s b)
      go None b same = record { kept = λ o e t. absurd cc }
      go (Some c) b same = let e = same c refl in rw e (ldc_same c)

  get_static_kept : (n : MemberName) → Accessed n → Kept (get_static_op s0 n) (get_static_op s n)
  get_static_kept n a = record { kept = λ o e t. let v = static_field s0 n o e t in T.constants n v.0 a (e ∙ ap (λ (q : Op). Some q) v.1) ∙ ap (λ (q : Op). Some q) (sym v.1) }

  field_kept : (c : ℕ) (n : MemberName) → Accessed n → Kept (field_op s0 c n) (field_op s c n)
  field_kept c n a =
      kept_when (c == 178) _ _ _ _ (get_static_kept n a)
      (kept_none _ _ (either is_same (c == 179) _ _ (mapped is_same op.PutStatic (field_number s0 n) (λ x. refl))
      (either is_same (c == 180) _ _ (mapped is_same (λ f. op.GetField f (class_read s0.classes n.class)) (field_number s0 n) (λ x. refl))
      (either is_same (c == 181) _ None (mapped is_same (λ f. op.PutField f (class_read s0.classes n.class)) (field_number s0 n) (λ x. refl)) (nothing is_same)))))

  -- ---- calls

  static_kept : (n : MemberName) → Kept (static_call_op s0 n) (static_call_op s n)
  static_kept n =
      kept_when (is_get_context n) _ _ _ _ (kept_refl (Some op.GetContext)) (kept_when (is_library_function n) _ _ _ _ (kept_refl (function_op n)) (kept_none _ _ (mapped is_same op.InvokeStatic (method_number s0 n) (λ x. refl))))

  special_kept : (n : MemberName) → Kept (special_call_op s0 n) (special_call_op s n)
  special_kept n = kept_when (is_library_constructor n) _ _ _ _ (kept_refl _) (kept_none _ _ (mapped is_same op.InvokeSpecial (option_and_then (number_of s0) (special_method s0.classes s0.class n)) (λ x. refl)))

  virtual_kept : (n : MemberName) → Kept (virtual_call_op s0 n) (virtual_call_op s n)
  virtual_kept n = kept_when (bytes_eq n.class context_class) _ _ _ _ (kept_refl _) (kept_none _ _ (mapped is_same (λ m. op.InvokeVirtual m (class_read s0.classes n.class)) (method_number s0 n) (λ x. refl)))

  call_kept : (c : ℕ) (n : MemberName) → Kept (call_op s0 c n) (call_op s c n)
  call_kept c n =
      kept_when (c == 182) _ _ _ _ (virtual_kept n) (kept_when (c == 183) _ _ _ _ (special_kept n) (kept_when (c == 184) _ _ _ _ (static_kept n)
      (kept_when (c == 185) _ _ None None (kept_none _ _ (mapped is_same (λ m. op.InvokeInterface m n.class) (method_number s0 n) (λ x. refl))) (kept_refl None))))

  class_kept : (c : ℕ) (n : List ℕ) → Kept (class_op s0 c n) (class_op s c n)
  class_kept c n =
      kept_when (c == 187) _ _ _ _ (kept_map op.New (type_number s0.types n) (type_number s.types n) (type_kept n))
      (kept_when (c == 189) _ _ _ _ (new_array_kept (array_over n)) (kept_refl _))

  pool_kept : (c i : ℕ) → (is_among 178 181 c ≡ true → (n : MemberName) → field_name s0.class.pool i ≡ Some n → Accessed n) → Kept (pool_op s0 c i) (pool_op s c i)
  pool_kept c i reads =
      kept_when (is_among 18 20 c) _ _ _ _ (ldc_kept i)
      (kept_if (is_among 178 181 c) _ _ _ _ (λ a. kept_known (field_op s0 c) (field_op s c) (field_name s0.class.pool i) (field_name s.class.pool i) (field_grown s0.class.pool s.class.pool G i) (λ n e. field_kept c n (reads a n e)))
      (kept_when (is_among 182 185 c) _ _ _ _ (kept_then (call_op s0 c) (call_op s c) (member_name s0.class.pool i) (member_name s.class.pool i) (member_grown s0.class.pool s.class.pool G i) (call_kept c))
      (kept_then (class_op s0 c) (class_op s c) (class_name s0.class.pool i) (class_name s.class.pool i) (class_grown s0.class.pool s.class.pool G i) (class_kept c))))

  -- ---- instructions

  module _ (is0 is : List Instr) (place : ℕ → ℕ) where
    meaning_kept : (c : ℕ) (o : Operands) → ((j : ℕ) → index_of o ≡ Some j → is_among 178 181 c ≡ true → (n : MemberName) → field_name s0.class.pool j ≡ Some n → Accessed n)
        → Kept (meaning s0 is0 c o) (meaning s is c (retarget place o))
    meaning_kept c operands.Nothing reads = kept_refl _
    meaning_kept c (operands.Number n) reads = number_kept c n
    meaning_kept c (operands.Local n) reads = kept_refl _
    meaning_kept c (operands.LocalAdd n a) reads = kept_refl _
    meaning_kept c (operands.Pool i) reads = pool_kept c i (reads i refl)
    meaning_kept c (operands.Interface i n) reads = pool_kept c i (reads i refl)
    meaning_kept c (operands.Dimensions i n) reads = kept_refl None
    meaning_kept c (operands.Target t) reads = kept_none _ _ (jump_none is_same (λ t to. refl) (λ t to. refl) (λ b to. refl) (λ to. refl) (λ b to. refl) is0 c t)
    meaning_kept c (operands.Table other low ts) reads = kept_none _ _ (switch_none is_same (λ o cs. refl) is0 other (table_cases low ts))
    meaning_kept c (operands.Lookup other ps) reads = kept_none _ _ (switch_none is_same (λ o cs. refl) is0 other ps)
    meaning_kept c (operands.Wide w n a) reads = kept_refl _

    -- an instruction that leads nowhere means what it meant
    pub same_means : (i : Instr) (o : Op) → ((n : MemberName) → accessed s0.class.pool i ≡ Some n → Accessed n) → is_same o ≡ true → op_of s0 is0 i ≡ Some o → Means s place is o i
    same_means i o reads h e at = (meaning_kept i.op i.operands (λ j is a n f. reads n (accessed_by s0.class.pool i j n is a f))).kept o e h
