-- Instructions of old code mean with the symbols of a rewritten class what they meant.
use Rattle.std.proofs.Common.{◌≡◌, ℕ, ℤ, Bool, true, false, List, Option, Some, None, refl, ap, ◌∙◌}
use Rattle.std.specs.Prelude.{if◌then◌else◌, bytes_eq, ◌==◌, is_some, option_map, option_and_then, position}
use Rattle.std.specs.Option.{option_or}
use Rattle.jmodel.specs.declared.class_file.Constant.{Constant}
use Rattle.jmodel.specs.declared.class_file.Constant.TheVariants as constants
use Rattle.jmodel.specs.declared.instruction.Operands.{Operands}
use Rattle.jmodel.specs.declared.instruction.Operands.TheVariants as operands
use Rattle.jmodel.specs.declared.instruction.Instr.{Instr}
use Rattle.jmodel.specs.declared.value.Value.TheVariants as value
use Rattle.jmodel.specs.format.Pool.{MemberName, entry, string_in, utf8, class_name, field_name, member_name}
use Rattle.objects.specs.declared.op.Op.{Op}
use Rattle.objects.specs.declared.op.Op.TheVariants as op
use Rattle.objects.specs.semantics.Program.{Row}
use Rattle.objects.specs.typing.TypeOrder.{context_class}
use Rattle.objects.specs.linking.LibraryMethods.{is_library_constructor, is_library_function}
use Rattle.objects.specs.linking.Layout.{class_read, type_number, array_over}
use Rattle.objects.specs.linking.Decoding.{Symbols, is_among, field_number, method_number, primitive_array, new_array, number_op, pushed_op, text_op, ldc_op, added_address, is_base, get_static_op, field_op, function_op, is_get_context, static_call_op, parameter_places, special_call_op, interface_call_op, context_call, virtual_call_op, call_op, class_op, pool_op, meaning}
use Rattle.member_code.proofs.Grown.{Grown, entry_grown, utf8_grown, class_grown, field_grown, member_grown}
use Rattle.objects.proofs.NamedMembers.{of_field}
use Rattle.rewritten_names.specs.LeadsLaw.{IsOther, IsPlain, special_number}
use Rattle.rewritten_code.proofs.Kept.{Kept, kept_none, kept_refl, kept_same, kept_when, kept_map, kept_then}

-- Two symbols, the second of a rewritten class: it has what the first has, a longer pool, and plain names lead to what they led to.
pub record IsAlike (s0 s : Symbols) : Type 0 where
  pub types : s.types ≡ s0.types
  pub texts : s.texts ≡ s0.texts
  pub pool : Grown s0.class.pool s.class.pool
  pub reads : (name : List ℕ) → IsOther name → class_read s.classes name ≡ class_read s0.classes name
  pub fields : (n : MemberName) → IsPlain n → field_number s n ≡ field_number s0 n
  pub methods : (n : MemberName) → IsPlain n → (m : ℕ) → method_number s0 n ≡ Some m → method_number s n ≡ Some m
  pub specials : (n : MemberName) → IsPlain n → (m : ℕ) → special_number s0 n ≡ Some m → special_number s n ≡ Some m

-- ldc by the entry that it names
abbrev ldc_of : Symbols → Option Constant → Option Op
ldc_of s c = option_or (option_and_then (text_op s) (option_and_then (string_in s.class.pool) c)) (option_and_then (pushed_op s) c)

module _ (s0 s : Symbols) (A : IsAlike s0 s) (plain : (j : ℕ) (n : MemberName) → member_name s0.class.pool j ≡ Some n → IsPlain n) where
  -- ---- types and constants

  -- an array type has the same number
  array_same : (n : List ℕ) → new_array s n ≡ new_array s0 n
  array_same n = ap (λ (rs : List Row). option_map op.NewArray (type_number rs n)) A.types

  -- bipush, sipush and newarray
  number_kept : (c : ℕ) (n : ℤ) → Kept (number_op s0 c n) (number_op s c n)
  number_kept c n =
      kept_when (is_among 16 17 c) (Some (op.Constant (value.Int n))) (Some (op.Constant (value.Int n))) _ _ (kept_refl _)
      (kept_when (c == 188) (option_and_then (new_array s0) (primitive_array n)) (option_and_then (new_array s) (primitive_array n)) None None
      (kept_then (new_array s0) (new_array s) (primitive_array n) (primitive_array n) (kept_refl _) (λ a e. kept_same (new_array s0 a) (new_array s a) (array_same a))) (kept_refl None))

  -- a text has the same number
  text_same : (t : List ℕ) → text_op s t ≡ text_op s0 t
  text_same t = ap (λ (ts : List (List ℕ)). option_map op.Text (position (bytes_eq t) ts)) A.texts

  -- the text of a String
  text_kept : (o p : Option (List ℕ)) → Kept o p → Kept (option_or (option_and_then (text_op s0) o) None) (option_or (option_and_then (text_op s) p) None)
  text_kept o p h = left (option_and_then (text_op s0) o) (option_and_then (text_op s) p) (kept_then (text_op s0) (text_op s) o p h (λ t e. kept_same (text_op s0 t) (text_op s t) (text_same t)))
    where
      left : (x y : Option Op) → Kept x y → Kept (option_or x None) (option_or y None)
      left None y h = kept_none (option_or y None)
      left (Some a) y h = let e = h.kept a refl in rw e (kept_refl (Some a))

  -- an entry that ldc names
  constant_kept : (c : Constant) → Kept (ldc_of s0 (Some c)) (ldc_of s (Some c))
  constant_kept (constants.Text t) = text_kept (utf8 s0.class.pool t) (utf8 s.class.pool t) (record { kept = utf8_grown s0.class.pool s.class.pool A.pool t })
  constant_kept (constants.Integer x) = kept_refl _
  constant_kept (constants.Long x) = kept_refl _
  constant_kept (constants.Utf8 x) = kept_refl _
  constant_kept (constants.Float x) = kept_refl _
  constant_kept (constants.Double x) = kept_refl _
  constant_kept (constants.Class x) = kept_refl _
  constant_kept (constants.Field x y) = kept_refl _
  constant_kept (constants.Method x y) = kept_refl _
  constant_kept (constants.InterfaceMethod x y) = kept_refl _
  constant_kept (constants.NameAndType x y) = kept_refl _
  constant_kept constants.Second = kept_refl _

  -- so ldc by an index
  ldc_kept : (i : ℕ) → Kept (ldc_op s0 i) (ldc_op s i)
  ldc_kept i = go (entry s0.class.pool i) refl
    where
      go : (o : Option Constant) → entry s0.class.pool i ≡ o → Kept (ldc_of s0 o) (ldc_of s (entry s.class.pool i))
      go None e = kept_none (ldc_of s (entry s.class.pool i))
      go (Some c) e = let f = entry_grown s0.class.pool s.class.pool A.pool i c e in rw f (constant_kept c)

  -- ---- fields

  -- a field that has a number
  module _ (n : MemberName) (fine : IsPlain n) (there : is_some (field_number s0 n) ≡ true) where
    -- its class is read alike
    read_same : class_read s.classes n.class ≡ class_read s0.classes n.class
    read_same = A.reads n.class fine.class

    -- getstatic
    static_kept : Kept (get_static_op s0 n) (get_static_op s n)
    static_kept = go (field_number s0 n) refl there
      where
        go : (o : Option ℕ) → field_number s0 n ≡ o → is_some o ≡ true
            → Kept (option_or (option_map op.GetStatic o) (option_or (option_map (λ a. op.Constant (value.Long a)) (added_address s0.class n)) (if is_base s0.class n then Some (op.Constant (value.Ref s0.base)) else None))) (get_static_op s n)
        go None e t = cc
        go (Some f) e t = let g = A.fields n fine ∙ e in rw g (kept_refl (Some (op.GetStatic f)))

    -- an instruction with the number of the field
    numbered_kept : (f g : ℕ → Op) → ((x : ℕ) → g x ≡ f x) → Kept (option_map f (field_number s0 n)) (option_map g (field_number s n))
    numbered_kept f g same = record { kept = λ o e. ap (option_map g) (A.fields n fine) ∙ each (field_number s0 n) ∙ e }
      where
        each : (o : Option ℕ) → option_map g o ≡ option_map f o
        each None = refl
        each (Some x) = ap (λ (o : Op). Some o) (same x)

    -- each instruction of a field
    field_kept : (c : ℕ) → Kept (field_op s0 c n) (field_op s c n)
    field_kept c =
        kept_when (c == 178) (get_static_op s0 n) (get_static_op s n) _ _ static_kept
        (kept_when (c == 179) (option_map op.PutStatic (field_number s0 n)) (option_map op.PutStatic (field_number s n)) _ _ (numbered_kept op.PutStatic op.PutStatic (λ x. refl))
        (kept_when (c == 180) (option_map (λ f. op.GetField f (class_read s0.classes n.class)) (field_number s0 n)) (option_map (λ f. op.GetField f (class_read s.classes n.class)) (field_number s n)) _ _
        (numbered_kept (λ f. op.GetField f (class_read s0.classes n.class)) (λ f. op.GetField f (class_read s.classes n.class)) (λ x. ap (op.GetField x) read_same))
        (kept_when (c == 181) (option_map (λ f. op.PutField f (class_read s0.classes n.class)) (field_number s0 n)) (option_map (λ f. op.PutField f (class_read s.classes n.class)) (field_number s n)) None None
        (numbered_kept (λ f. op.PutField f (class_read s0.classes n.class)) (λ f. op.PutField f (class_read s.classes n.class)) (λ x. ap (op.PutField x) read_same)) (kept_refl None))))

  -- ---- calls

  module _ (n : MemberName) (fine : IsPlain n) where
    -- its method keeps its number
    method_kept : Kept (method_number s0 n) (method_number s n)
    method_kept = record { kept = A.methods n fine }

    -- invokestatic
    static_call_kept : Kept (static_call_op s0 n) (static_call_op s n)
    static_call_kept =
        kept_when (is_get_context n) (Some op.GetContext) (Some op.GetContext) _ _ (kept_refl _)
        (kept_when (is_library_function n) (function_op n) (function_op n) _ _ (kept_refl _) (kept_map op.InvokeStatic (method_number s0 n) (method_number s n) method_kept))

    -- invokespecial
    special_call_kept : Kept (special_call_op s0 n) (special_call_op s n)
    special_call_kept =
        kept_when (is_library_constructor n) (option_map (λ places. op.InitLibrary n.class places) (parameter_places n.descriptor)) (option_map (λ places. op.InitLibrary n.class places) (parameter_places n.descriptor)) _ _ (kept_refl _)
        (kept_map op.InvokeSpecial (special_number s0 n) (special_number s n) (record { kept = A.specials n fine }))

    -- invokeinterface
    interface_call_kept : Kept (interface_call_op s0 n) (interface_call_op s n)
    interface_call_kept = kept_map (λ m. op.InvokeInterface m n.class) (method_number s0 n) (method_number s n) method_kept

    -- invokevirtual
    virtual_call_kept : Kept (virtual_call_op s0 n) (virtual_call_op s n)
    virtual_call_kept =
        kept_when (bytes_eq n.class context_class) (option_map op.Context (context_call n)) (option_map op.Context (context_call n)) _ _ (kept_refl _)
        (let e = A.reads n.class fine.class in rw e (kept_map (λ m. op.InvokeVirtual m (class_read s0.classes n.class)) (method_number s0 n) (method_number s n) method_kept))

    -- each call
    call_kept : (c : ℕ) → Kept (call_op s0 c n) (call_op s c n)
    call_kept c =
        kept_when (c == 182) (virtual_call_op s0 n) (virtual_call_op s n) _ _ virtual_call_kept
        (kept_when (c == 183) (special_call_op s0 n) (special_call_op s n) _ _ special_call_kept
        (kept_when (c == 184) (static_call_op s0 n) (static_call_op s n) _ _ static_call_kept
        (kept_when (c == 185) (interface_call_op s0 n) (interface_call_op s n) None None interface_call_kept (kept_refl None))))

  -- ---- classes

  -- new, anewarray, checkcast and instanceof
  class_kept : (c : ℕ) (n : List ℕ) → Kept (class_op s0 c n) (class_op s c n)
  class_kept c n =
      kept_when (c == 187) (option_map op.New (type_number s0.types n)) (option_map op.New (type_number s.types n)) _ _
      (kept_same (option_map op.New (type_number s0.types n)) (option_map op.New (type_number s.types n)) (ap (λ (rs : List Row). option_map op.New (type_number rs n)) A.types))
      (kept_when (c == 189) (new_array s0 (array_over n)) (new_array s (array_over n)) _ _ (kept_same (new_array s0 (array_over n)) (new_array s (array_over n)) (array_same (array_over n))) (kept_refl _))

  -- ---- an instruction

  -- the fields that an instruction names have numbers
  abbrev pub AreNumbered : ℕ → ℕ → Type 0
  AreNumbered c j = (n : MemberName) → is_among 178 181 c ≡ true → field_name s0.class.pool j ≡ Some n → is_some (field_number s0 n) ≡ true

  -- an instruction with an index of the pool
  pool_kept : (c j : ℕ) → AreNumbered c j → Kept (pool_op s0 c j) (pool_op s c j)
  pool_kept c j numbered =
      kept_when (is_among 18 20 c) (ldc_op s0 j) (ldc_op s j) _ _ (ldc_kept j)
      (go (is_among 178 181 c) refl)
    where
      go : (b : Bool) → is_among 178 181 c ≡ b
          → Kept (if b then option_and_then (field_op s0 c) (field_name s0.class.pool j) else if is_among 182 185 c then option_and_then (call_op s0 c) (member_name s0.class.pool j) else option_and_then (class_op s0 c) (class_name s0.class.pool j))
          (if b then option_and_then (field_op s c) (field_name s.class.pool j) else if is_among 182 185 c then option_and_then (call_op s c) (member_name s.class.pool j) else option_and_then (class_op s c) (class_name s.class.pool j))
      go true e =
          kept_then (field_op s0 c) (field_op s c) (field_name s0.class.pool j) (field_name s.class.pool j) (record { kept = field_grown s0.class.pool s.class.pool A.pool j })
          (λ n f. field_kept n (plain j n (of_field s0.class.pool j n f)) (numbered n e f) c)
      go false e =
          kept_when (is_among 182 185 c) (option_and_then (call_op s0 c) (member_name s0.class.pool j)) (option_and_then (call_op s c) (member_name s.class.pool j)) _ _
          (kept_then (call_op s0 c) (call_op s c) (member_name s0.class.pool j) (member_name s.class.pool j) (record { kept = member_grown s0.class.pool s.class.pool A.pool j }) (λ n f. call_kept n (plain j n f) c))
          (kept_then (class_op s0 c) (class_op s c) (class_name s0.class.pool j) (class_name s.class.pool j) (record { kept = class_grown s0.class.pool s.class.pool A.pool j }) (λ n f. class_kept c n))

  -- what it meant it means
  pub meaning_kept : (is : List Instr) (c : ℕ) (o : Operands) → ((j : ℕ) → o ≡ operands.Pool j → AreNumbered c j) → ((j count : ℕ) → o ≡ operands.Interface j count → AreNumbered c j) → Kept (meaning s0 is c o) (meaning s is c o)
  meaning_kept is c operands.Nothing p q = kept_refl _
  meaning_kept is c (operands.Number n) p q = number_kept c n
  meaning_kept is c (operands.Local n) p q = kept_refl _
  meaning_kept is c (operands.LocalAdd n add) p q = kept_refl _
  meaning_kept is c (operands.Pool j) p q = pool_kept c j (p j refl)
  meaning_kept is c (operands.Interface j count) p q = pool_kept c j (q j count refl)
  meaning_kept is c (operands.Dimensions j count) p q = kept_refl _
  meaning_kept is c (operands.Target t) p q = kept_refl _
  meaning_kept is c (operands.Table other low targets) p q = kept_refl _
  meaning_kept is c (operands.Lookup other pairs) p q = kept_refl _
  meaning_kept is c (operands.Wide w n add) p q = kept_refl _
