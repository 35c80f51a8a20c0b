-- What invokes of the original name.
use Rattle.std.proofs.Common.{◌≡◌, ℕ, ℤ, ◌<◌, Bool, true, false, List, Option, Some, None, refl}
use Rattle.std.specs.Prelude.{if◌then◌else◌, codes, bytes_eq, ◌==◌, option_and_then}
use Rattle.std.proofs.lemmas.Bool.Decides.{Decides-eqb}
use Rattle.jmodel.specs.declared.class_file.Constant.{Constant}
use Rattle.jmodel.specs.declared.class_file.Constant.TheVariants as constants
use Rattle.jmodel.specs.declared.instruction.Operands.{Operands}
use Rattle.jmodel.specs.declared.instruction.Operands.TheVariants as operands
use Rattle.jmodel.specs.declared.instruction.Instr.{Instr}
use Rattle.jmodel.specs.declared.value.Value.TheVariants as value
use Rattle.jmodel.specs.format.Pool.{MemberName, entry, string, class_name, field_name, member_name}
use Rattle.objects.specs.linking.Taken.{index_of}
use Rattle.objects.specs.linking.Code.{table_cases}
use Rattle.objects.specs.declared.op.Op.{Op}
use Rattle.objects.specs.declared.op.Op.TheVariants as op
use Rattle.objects.specs.declared.op.Unary.TheVariants.{Absolute}
use Rattle.objects.specs.declared.op.Binary.TheVariants.{Minimum, Maximum}
use Rattle.objects.specs.typing.TypeOrder.{context_class}
use Rattle.objects.specs.linking.LibraryMethods.{is_library_constructor, is_library_function}
use Rattle.objects.specs.linking.Layout.{class_read, type_number, array_over}
use Rattle.objects.specs.linking.Resolution.{special_method}
use Rattle.objects.specs.linking.Decoding.{Symbols, is_among, field_number, number_of, method_number, simple_op, local_op, primitive_array, new_array, number_op, pushed_op, text_op, ldc_op, added_address, is_base, field_op, width_in, is_get_context, static_call_op, parameter_places, special_call_op, interface_call_op, context_call, virtual_call_op, call_op, class_op, pool_op, meaning}
use Rattle.dup_methods.proofs.Apart.{NoneOf, nothing, leaf, either, mapped, chained, or_none, below, jump_none, switch_none}

-- ---- tests of invokes

abbrev pub is_static : Op → Bool
is_static (op.InvokeStatic m) = true
is_static o = false

abbrev pub is_special : Op → Bool
is_special (op.InvokeSpecial m) = true
is_special o = false

abbrev pub is_virtual : Op → Bool
is_virtual (op.InvokeVirtual m c) = true
is_virtual o = false

abbrev pub is_interface : Op → Bool
is_interface (op.InvokeInterface m c) = true
is_interface o = false

abbrev pub is_invoke : Op → Bool
is_invoke (op.InvokeStatic m) = true
is_invoke (op.InvokeSpecial m) = true
is_invoke (op.InvokeVirtual m c) = true
is_invoke (op.InvokeInterface m c) = true
is_invoke o = false

module _ (s : Symbols) where
  -- ---- what means no invoke

  ldc_not : (i : ℕ) → NoneOf is_invoke (ldc_op s i)
  ldc_not i = or_none is_invoke _ _ (chained is_invoke (text_op s) (string s.class.pool i) (λ t. mapped is_invoke op.Text _ (λ x. refl))) (chained is_invoke (pushed_op s) (entry s.class.pool i) pushed)
    where
      pushed : (k : Constant) → NoneOf is_invoke (pushed_op s k)
      pushed (constants.Integer n) = leaf is_invoke _ refl
      pushed (constants.Long n) = leaf is_invoke _ refl
      pushed k = nothing is_invoke

  field_not : (c : ℕ) (n : MemberName) → NoneOf is_invoke (field_op s c n)
  field_not c n =
      either is_invoke (c == 178) _ _
      (or_none is_invoke _ _ (mapped is_invoke op.GetStatic (field_number s n) (λ x. refl))
      (or_none is_invoke _ _ (mapped is_invoke (λ a. op.Constant (value.Long a)) (added_address s.class n) (λ x. refl)) (either is_invoke (is_base s.class n) (Some (op.Constant (value.Ref s.base))) None (leaf is_invoke _ refl) (nothing is_invoke))))
      (either is_invoke (c == 179) _ _ (mapped is_invoke op.PutStatic (field_number s n) (λ x. refl))
      (either is_invoke (c == 180) _ _ (mapped is_invoke (λ f. op.GetField f (class_read s.classes n.class)) (field_number s n) (λ x. refl))
      (either is_invoke (c == 181) _ None (mapped is_invoke (λ f. op.PutField f (class_read s.classes n.class)) (field_number s n) (λ x. refl)) (nothing is_invoke))))

  new_array_not : (n : List ℕ) → NoneOf is_invoke (new_array s n)
  new_array_not n = mapped is_invoke op.NewArray (type_number s.types n) (λ x. refl)

  class_not : (c : ℕ) (n : List ℕ) → NoneOf is_invoke (class_op s c n)
  class_not c n =
      either is_invoke (c == 187) _ _ (mapped is_invoke op.New (type_number s.types n) (λ x. refl))
      (either is_invoke (c == 189) _ _ (new_array_not (array_over n))
      (either is_invoke (c == 192) (Some (op.CheckCast n)) _ (leaf is_invoke _ refl) (either is_invoke (c == 193) (Some (op.InstanceOf n)) None (leaf is_invoke _ refl) (nothing is_invoke))))

  number_not : (c : ℕ) (n : ℤ) → NoneOf is_invoke (number_op s c n)
  number_not c n = either is_invoke (is_among 16 17 c) _ _ (leaf is_invoke (op.Constant (value.Int n)) refl) (either is_invoke (c == 188) _ None (chained is_invoke (new_array s) (primitive_array n) new_array_not) (nothing is_invoke))

  -- ---- the method that an invoke names

  pub record Invokes (c : ℕ) (operand : Operands) (o : Op) : Type 0 where
    pub name : MemberName
    pub there : option_and_then (member_name s.class.pool) (index_of operand) ≡ Some name
    pub means : call_op s c name ≡ Some o
    pub calls : is_among 182 185 c ≡ true

  of_pool : (c i : ℕ) (o : Op) → is_invoke o ≡ true → pool_op s c i ≡ Some o → (n : MemberName) × (member_name s.class.pool i ≡ Some n) × (call_op s c n ≡ Some o) × (is_among 182 185 c ≡ true)
  of_pool c i o t e = first (is_among 18 20 c) e
    where
      named : is_among 182 185 c ≡ true → (m : Option MemberName) → member_name s.class.pool i ≡ m → option_and_then (call_op s c) m ≡ Some o → (n : MemberName) × (member_name s.class.pool i ≡ Some n) × (call_op s c n ≡ Some o) × (is_among 182 185 c ≡ true)
      named a None q h = absurd cc
      named a (Some n) q h = (n, q, h, a)

      third : (b : Bool) → is_among 182 185 c ≡ b → (if b then option_and_then (call_op s c) (member_name s.class.pool i) else option_and_then (class_op s c) (class_name s.class.pool i)) ≡ Some o → (n : MemberName) × (member_name s.class.pool i ≡ Some n) × (call_op s c n ≡ Some o) × (is_among 182 185 c ≡ true)
      third true a h = named a (member_name s.class.pool i) refl h
      third false a h = absurd ((chained is_invoke (class_op s c) (class_name s.class.pool i) (class_not c)).other o h t)

      second : (b : Bool) → (if b then option_and_then (field_op s c) (field_name s.class.pool i) else if is_among 182 185 c then option_and_then (call_op s c) (member_name s.class.pool i) else option_and_then (class_op s c) (class_name s.class.pool i)) ≡ Some o
          → (n : MemberName) × (member_name s.class.pool i ≡ Some n) × (call_op s c n ≡ Some o) × (is_among 182 185 c ≡ true)
      second true h = absurd ((chained is_invoke (field_op s c) (field_name s.class.pool i) (field_not c)).other o h t)
      second false h = third (is_among 182 185 c) refl h

      first : (b : Bool) → (if b then ldc_op s i else if is_among 178 181 c then option_and_then (field_op s c) (field_name s.class.pool i) else if is_among 182 185 c then option_and_then (call_op s c) (member_name s.class.pool i) else option_and_then (class_op s c) (class_name s.class.pool i)) ≡ Some o
          → (n : MemberName) × (member_name s.class.pool i ≡ Some n) × (call_op s c n ≡ Some o) × (is_among 182 185 c ≡ true)
      first true h = absurd ((ldc_not i).other o h t)
      first false h = second (is_among 178 181 c) h

  local_not : (n c : ℕ) → c < 256 → NoneOf is_invoke (local_op c n)
  local_not n = below is_invoke (λ c. local_op c n) refl

  -- the opcode behind wide is one
  pub invokes_is : (is : List Instr) (c : ℕ) (operand : Operands) (o : Op) → c < 256 → is_invoke o ≡ true → meaning s is c operand ≡ Some o → ((w n : ℕ) (a : ℤ) → operand ≡ operands.Wide w n a → w < 256) → Invokes c operand o
  invokes_is is c operands.Nothing o less t e w = absurd ((below is_invoke simple_op refl c less).other o e t)
  invokes_is is c (operands.Number n) o less t e w = absurd ((number_not c n).other o e t)
  invokes_is is c (operands.Local n) o less t e w = absurd ((local_not n c less).other o e t)
  invokes_is is c (operands.LocalAdd n a) o less t e w = absurd ((leaf is_invoke (op.Increment n a) refl).other o e t)
  invokes_is is c (operands.Pool i) o less t e w = let r = of_pool c i o t e in record { name = r.0; there = r.1; means = r.2; calls = r.3 }
  invokes_is is c (operands.Interface i n) o less t e w = let r = of_pool c i o t e in record { name = r.0; there = r.1; means = r.2; calls = r.3 }
  invokes_is is c (operands.Dimensions i n) o less t e w = absurd cc
  invokes_is is c (operands.Target to) o less t e w = absurd ((jump_none is_invoke (λ t to. refl) (λ t to. refl) (λ b to. refl) (λ to. refl) (λ b to. refl) is c to).other o e t)
  invokes_is is c (operands.Table other low ts) o less t e w = absurd ((switch_none is_invoke (λ o cs. refl) is other (table_cases low ts)).other o e t)
  invokes_is is c (operands.Lookup other ps) o less t e w = absurd ((switch_none is_invoke (λ o cs. refl) is other ps).other o e t)
  invokes_is is c (operands.Wide v n a) o less t e w = absurd ((either is_invoke (v == 132) (Some (op.Increment n a)) (local_op v n) (leaf is_invoke _ refl) (local_not n v (w v n a refl))).other o e t)

  -- ---- which opcode it has

  -- a test that passes neither a function nor the lane's context
  static_not : (p : Op → Bool) → p op.GetContext ≡ false → ((n : MemberName) → p (op.Unary (width_in n.descriptor) Absolute) ≡ false) → ((n : MemberName) → p (op.Binary (width_in n.descriptor) Minimum) ≡ false) → ((n : MemberName) → p (op.Binary (width_in n.descriptor) Maximum) ≡ false)
      → ((m : ℕ) → p (op.InvokeStatic m) ≡ false) → (n : MemberName) → NoneOf p (static_call_op s n)
  static_not p a b d e f n =
      either p (is_get_context n) (Some op.GetContext) _ (leaf p _ a)
      (either p (is_library_function n) _ _
      (either p (bytes_eq n.name (codes "abs")) (Some (op.Unary (width_in n.descriptor) Absolute)) _ (leaf p _ (b n))
      (either p (bytes_eq n.name (codes "min")) (Some (op.Binary (width_in n.descriptor) Minimum)) (Some (op.Binary (width_in n.descriptor) Maximum)) (leaf p _ (d n)) (leaf p _ (e n))))
      (mapped p op.InvokeStatic (method_number s n) f))

  special_not : (p : Op → Bool) → ((c : List ℕ) (x : ℕ) → p (op.InitLibrary c x) ≡ false) → ((m : ℕ) → p (op.InvokeSpecial m) ≡ false) → (n : MemberName) → NoneOf p (special_call_op s n)
  special_not p a b n =
      either p (is_library_constructor n) _ _ (mapped p (λ places. op.InitLibrary n.class places) (parameter_places n.descriptor) (λ x. a n.class x))
      (mapped p op.InvokeSpecial (option_and_then (number_of s) (special_method s.classes s.class n)) b)

  virtual_not : (p : Op → Bool) → ((c : _) → p (op.Context c) ≡ false) → ((m : ℕ) (c : List ℕ) → p (op.InvokeVirtual m c) ≡ false) → (n : MemberName) → NoneOf p (virtual_call_op s n)
  virtual_not p a b n =
      either p (bytes_eq n.class context_class) _ _ (mapped p op.Context (context_call n) a)
      (mapped p (λ m. op.InvokeVirtual m (class_read s.classes n.class)) (method_number s n) (λ x. b x _))

  interface_not : (p : Op → Bool) → ((m : ℕ) (c : List ℕ) → p (op.InvokeInterface m c) ≡ false) → (n : MemberName) → NoneOf p (interface_call_op s n)
  interface_not p a n = mapped p (λ m. op.InvokeInterface m n.class) (method_number s n) (λ x. a x _)

  module _ (c : ℕ) (n : MemberName) where
    -- by the four opcodes
    by_opcode : (P : Type 0) (o : Op) → call_op s c n ≡ Some o → (virtual_call_op s n ≡ Some o → P) → (special_call_op s n ≡ Some o → P) → (static_call_op s n ≡ Some o → P) → (interface_call_op s n ≡ Some o → P) → P
    by_opcode P o e v x t i = go (c == 182) (c == 183) (c == 184) (c == 185) e
      where
        go : (a b d f : Bool) → (if a then virtual_call_op s n else if b then special_call_op s n else if d then static_call_op s n else if f then interface_call_op s n else None) ≡ Some o → P
        go true b d f h = v h
        go false true d f h = x h
        go false false true f h = t h
        go false false false true h = i h
        go false false false false h = absurd cc

    pub static_is : (o : Op) → is_static o ≡ true → call_op s c n ≡ Some o → static_call_op s n ≡ Some o
    static_is o t e = by_opcode (static_call_op s n ≡ Some o) o e
        (λ h. absurd ((virtual_not is_static (λ c. refl) (λ m c. refl) n).other o h t)) (λ h. absurd ((special_not is_static (λ c x. refl) (λ m. refl) n).other o h t)) (λ h. h)
        (λ h. absurd ((interface_not is_static (λ m c. refl) n).other o h t))

    pub special_is : (o : Op) → is_special o ≡ true → call_op s c n ≡ Some o → special_call_op s n ≡ Some o
    special_is o t e = by_opcode (special_call_op s n ≡ Some o) o e
        (λ h. absurd ((virtual_not is_special (λ c. refl) (λ m c. refl) n).other o h t)) (λ h. h) (λ h. absurd ((static_not is_special refl (λ n. refl) (λ n. refl) (λ n. refl) (λ m. refl) n).other o h t))
        (λ h. absurd ((interface_not is_special (λ m c. refl) n).other o h t))

    pub virtual_is : (o : Op) → is_virtual o ≡ true → call_op s c n ≡ Some o → virtual_call_op s n ≡ Some o
    virtual_is o t e = by_opcode (virtual_call_op s n ≡ Some o) o e
        (λ h. h) (λ h. absurd ((special_not is_virtual (λ c x. refl) (λ m. refl) n).other o h t)) (λ h. absurd ((static_not is_virtual refl (λ n. refl) (λ n. refl) (λ n. refl) (λ m. refl) n).other o h t))
        (λ h. absurd ((interface_not is_virtual (λ m c. refl) n).other o h t))

    pub interface_is : (o : Op) → is_interface o ≡ true → call_op s c n ≡ Some o → interface_call_op s n ≡ Some o
    interface_is o t e = by_opcode (interface_call_op s n ≡ Some o) o e
        (λ h. absurd ((virtual_not is_interface (λ c. refl) (λ m c. refl) n).other o h t)) (λ h. absurd ((special_not is_interface (λ c x. refl) (λ m. refl) n).other o h t))
        (λ h. absurd ((static_not is_interface refl (λ n. refl) (λ n. refl) (λ n. refl) (λ m. refl) n).other o h t)) (λ h. h)

    pub interface_opcode : (o : Op) → is_interface o ≡ true → call_op s c n ≡ Some o → c ≡ 185
    interface_opcode o t e = go (c == 182) (c == 183) (c == 184) (c == 185) refl e
      where
        go : (a b d f : Bool) → (c == 185) ≡ f → (if a then virtual_call_op s n else if b then special_call_op s n else if d then static_call_op s n else if f then interface_call_op s n else None) ≡ Some o → c ≡ 185
        go true b d f q h = absurd ((virtual_not is_interface (λ c. refl) (λ m c. refl) n).other o h t)
        go false true d f q h = absurd ((special_not is_interface (λ c x. refl) (λ m. refl) n).other o h t)
        go false false true f q h = absurd ((static_not is_interface refl (λ n. refl) (λ n. refl) (λ n. refl) (λ m. refl) n).other o h t)
        go false false false true q h = (Decides-eqb c 185).0 q
        go false false false false q h = absurd cc
