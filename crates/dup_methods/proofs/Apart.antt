-- Which instructions mean jumps, switches and increments: those with the operands of such.
use Rattle.std.proofs.Common.{◌≡◌, ℕ, ℤ, ◌<◌, Bool, true, false, not, ◌||◌, List, Option, Some, None, refl, ap, subst, arith}
use Rattle.std.specs.Prelude.{if◌then◌else◌, codes, bytes_eq, ◌==◌, option_map, option_and_then, ◌-◌, FitsSigned}
use Rattle.std.specs.Option.{option_or}
use Rattle.std.specs.Int.{w8, w16}
use Rattle.std.proofs.lemmas.Int.{ints}
use Rattle.std.proofs.lemmas.Bool.Decides.{Decides-eqb}
use Rattle.jmodel.specs.declared.class_file.Constant.{Constant}
use Rattle.jmodel.specs.declared.class_file.Constant.TheVariants as constants
use Rattle.jmodel.specs.declared.instruction.Form.{Form}
use Rattle.jmodel.specs.declared.instruction.Form.TheVariants as form
use Rattle.jmodel.specs.declared.instruction.Operands.{Operands}
use Rattle.jmodel.specs.declared.instruction.Operands.TheVariants as operands
use Rattle.jmodel.specs.declared.instruction.Instr.{Instr}
use Rattle.jmodel.specs.declared.value.Value.TheVariants as value
use Rattle.jmodel.specs.format.Pool.{MemberName, entry, string, class_name, field_name, member_name}
use Rattle.jmodel.specs.format.Instruction.{form_of, FitsWide, IsSizedAs}
use Rattle.objects.specs.linking.Code.{number_at, table_cases, numbered_case}
use Rattle.objects.specs.linking.Each.{each}
use Rattle.objects.specs.declared.op.Op.{Op}
use Rattle.objects.specs.declared.op.Op.TheVariants as op
use Rattle.objects.specs.declared.op.Test.{Test}
use Rattle.objects.specs.declared.op.Unary.TheVariants.{Absolute}
use Rattle.objects.specs.declared.op.Binary.TheVariants.{Minimum, Maximum}
use Rattle.objects.specs.typing.TypeOrder.{context_class}
use Rattle.objects.specs.linking.LibraryMethods.{is_library_constructor, is_library_function}
use Rattle.objects.specs.linking.Layout.{class_read, type_number, array_over}
use Rattle.objects.specs.linking.Resolution.{special_method}
use Rattle.objects.specs.linking.Decoding.{Symbols, is_among, field_number, number_of, method_number, simple_op, local_op, wide_op, primitive_array, new_array, number_op, test_of, jump_to, jump_op, switch_to, switch_op, pushed_op, text_op, ldc_op, added_address, is_base, get_static_op, field_op, width_in, is_get_context, static_call_op, parameter_places, special_call_op, context_call, virtual_call_op, call_op, class_op, pool_op, meaning}
use Rattle.objects.proofs.Flags.{all_below, passes_below}

-- ---- tests of instructions

abbrev pub is_jump : Op → Bool
is_jump (op.Branch t to) = true
is_jump (op.BranchInts t to) = true
is_jump (op.BranchNull b to) = true
is_jump (op.BranchReferences b to) = true
is_jump (op.Goto to) = true
is_jump o = false

abbrev pub is_switch : Op → Bool
is_switch (op.Switch other cases) = true
is_switch o = false

abbrev pub is_increment : Op → Bool
is_increment (op.Increment n x) = true
is_increment o = false

-- one of the three
abbrev pub is_far : Op → Bool
is_far o = is_jump o || (is_switch o || is_increment o)

jump_far : (o : Op) → is_jump o ≡ true → is_far o ≡ true
jump_far o h = go (is_jump o) (is_switch o || is_increment o) h
  where
    go : (a b : Bool) → a ≡ true → (a || b) ≡ true
    go true b h = refl
    go false b h = cc

-- ---- what passes no test

pub record NoneOf (p : Op → Bool) (x : Option Op) : Type 0 where
  pub other : (o : Op) → x ≡ Some o → p o ≡ true → ⊥

abbrev pub passes : (Op → Bool) → Option Op → Bool
passes p None = false
passes p (Some o) = p o

module _ (p : Op → Bool) where
  pub none_by : (x : Option Op) → passes p x ≡ false → NoneOf p x
  none_by x h = record { other = λ o e t. let u : passes p x ≡ p o = ap (passes p) e in absurd (cc (u, h, t)) }

  pub nothing : NoneOf p None
  nothing = none_by None refl

  pub leaf : (o : Op) → p o ≡ false → NoneOf p (Some o)
  leaf o h = none_by (Some o) h

  pub either : (b : Bool) (x y : Option Op) → NoneOf p x → NoneOf p y → NoneOf p (if b then x else y)
  either true x y h k = h
  either false x y h k = k

  pub mapped : {A : Type 0} (f : A → Op) (o : Option A) → ((x : A) → p (f x) ≡ false) → NoneOf p (option_map f o)
  mapped f None h = nothing
  mapped f (Some x) h = leaf (f x) (h x)

  pub chained : {A : Type 0} (f : A → Option Op) (o : Option A) → ((x : A) → NoneOf p (f x)) → NoneOf p (option_and_then f o)
  chained f None h = nothing
  chained f (Some x) h = h x

  pub or_none : (x y : Option Op) → NoneOf p x → NoneOf p y → NoneOf p (option_or x y)
  or_none None y h k = k
  or_none (Some o) y h k = h

  -- of all opcodes
  pub below : (f : ℕ → Option Op) → all_below (λ c. not (passes p (f c))) 256 ≡ true → (c : ℕ) → c < 256 → NoneOf p (f c)
  below f all c less = none_by (f c) (fails (passes p (f c)) (passes_below (λ c. not (passes p (f c))) 256 all c less))
    where
      fails : (b : Bool) → not b ≡ true → b ≡ false
      fails true h = cc
      fails false h = refl

-- ---- operands that aren't those of jumps, switches and increments

pub simple_near : (c : ℕ) → c < 256 → NoneOf is_far (simple_op c)
simple_near = below is_far simple_op refl

pub local_near : (n c : ℕ) → c < 256 → NoneOf is_far (local_op c n)
local_near n = below is_far (λ c. local_op c n) refl

module _ (s : Symbols) where
  new_array_near : (n : List ℕ) → NoneOf is_far (new_array s n)
  new_array_near n = mapped is_far op.NewArray (type_number s.types n) (λ x. refl)

  pub number_near : (c : ℕ) (n : ℤ) → NoneOf is_far (number_op s c n)
  number_near c n = either is_far (is_among 16 17 c) _ _ (leaf is_far (op.Constant (value.Int n)) refl) (either is_far (c == 188) _ None (chained is_far (new_array s) (primitive_array n) new_array_near) (nothing is_far))

  pushed_near : (k : Constant) → NoneOf is_far (pushed_op s k)
  pushed_near (constants.Integer n) = leaf is_far _ refl
  pushed_near (constants.Long n) = leaf is_far _ refl
  pushed_near k = nothing is_far

  ldc_near : (i : ℕ) → NoneOf is_far (ldc_op s i)
  ldc_near i = or_none is_far _ _ (chained is_far (text_op s) (string s.class.pool i) (λ t. mapped is_far op.Text _ (λ x. refl))) (chained is_far (pushed_op s) (entry s.class.pool i) pushed_near)

  get_static_near : (n : MemberName) → NoneOf is_far (get_static_op s n)
  get_static_near n =
      or_none is_far _ _ (mapped is_far op.GetStatic (field_number s n) (λ x. refl))
      (or_none is_far _ _ (mapped is_far (λ a. op.Constant (value.Long a)) (added_address s.class n) (λ x. refl)) (either is_far (is_base s.class n) (Some (op.Constant (value.Ref s.base))) None (leaf is_far _ refl) (nothing is_far)))

  field_near : (c : ℕ) (n : MemberName) → NoneOf is_far (field_op s c n)
  field_near c n =
      either is_far (c == 178) _ _ (get_static_near n)
      (either is_far (c == 179) _ _ (mapped is_far op.PutStatic (field_number s n) (λ x. refl))
      (either is_far (c == 180) _ _ (mapped is_far (λ f. op.GetField f (class_read s.classes n.class)) (field_number s n) (λ x. refl))
      (either is_far (c == 181) _ None (mapped is_far (λ f. op.PutField f (class_read s.classes n.class)) (field_number s n) (λ x. refl)) (nothing is_far))))

  static_near : (n : MemberName) → NoneOf is_far (static_call_op s n)
  static_near n =
      either is_far (is_get_context n) (Some op.GetContext) _ (leaf is_far _ refl)
      (either is_far (is_library_function n) _ _
      (either is_far (bytes_eq n.name (codes "abs")) (Some (op.Unary (width_in n.descriptor) Absolute)) _ (leaf is_far _ refl)
      (either is_far (bytes_eq n.name (codes "min")) (Some (op.Binary (width_in n.descriptor) Minimum)) (Some (op.Binary (width_in n.descriptor) Maximum)) (leaf is_far _ refl) (leaf is_far _ refl)))
      (mapped is_far op.InvokeStatic (method_number s n) (λ x. refl)))

  special_near : (n : MemberName) → NoneOf is_far (special_call_op s n)
  special_near n =
      either is_far (is_library_constructor n) _ _ (mapped is_far (λ places. op.InitLibrary n.class places) (parameter_places n.descriptor) (λ x. refl))
      (mapped is_far op.InvokeSpecial (option_and_then (number_of s) (special_method s.classes s.class n)) (λ x. refl))

  virtual_near : (n : MemberName) → NoneOf is_far (virtual_call_op s n)
  virtual_near n =
      either is_far (bytes_eq n.class context_class) _ _ (mapped is_far op.Context (context_call n) (λ x. refl))
      (mapped is_far (λ m. op.InvokeVirtual m (class_read s.classes n.class)) (method_number s n) (λ x. refl))

  call_near : (c : ℕ) (n : MemberName) → NoneOf is_far (call_op s c n)
  call_near c n =
      either is_far (c == 182) _ _ (virtual_near n)
      (either is_far (c == 183) _ _ (special_near n)
      (either is_far (c == 184) _ _ (static_near n) (either is_far (c == 185) _ None (mapped is_far (λ m. op.InvokeInterface m n.class) (method_number s n) (λ x. refl)) (nothing is_far))))

  class_near : (c : ℕ) (n : List ℕ) → NoneOf is_far (class_op s c n)
  class_near c n =
      either is_far (c == 187) _ _ (mapped is_far op.New (type_number s.types n) (λ x. refl))
      (either is_far (c == 189) _ _ (new_array_near (array_over n))
      (either is_far (c == 192) (Some (op.CheckCast n)) _ (leaf is_far _ refl) (either is_far (c == 193) (Some (op.InstanceOf n)) None (leaf is_far _ refl) (nothing is_far))))

  pub pool_near : (c i : ℕ) → NoneOf is_far (pool_op s c i)
  pool_near c i =
      either is_far (is_among 18 20 c) _ _ (ldc_near i)
      (either is_far (is_among 178 181 c) _ _ (chained is_far (field_op s c) (field_name s.class.pool i) (field_near c))
      (either is_far (is_among 182 185 c) _ _ (chained is_far (call_op s c) (member_name s.class.pool i) (call_near c)) (chained is_far (class_op s c) (class_name s.class.pool i) (class_near c))))

-- ---- jumps and switches

-- a test that passes no jump
pub jump_none : (p : Op → Bool) → ((t : Test) (to : ℕ) → p (op.Branch t to) ≡ false) → ((t : Test) (to : ℕ) → p (op.BranchInts t to) ≡ false) → ((b : Bool) (to : ℕ) → p (op.BranchReferences b to) ≡ false) → ((to : ℕ) → p (op.Goto to) ≡ false)
    → ((b : Bool) (to : ℕ) → p (op.BranchNull b to) ≡ false) → (is : List Instr) (c t : ℕ) → NoneOf p (jump_op is c t)
jump_none p a b d g e is c t = chained p (jump_to c) (number_at is t) one
  where
    one : (to : ℕ) → NoneOf p (jump_to c to)
    one to =
        either p (is_among 153 158 c) _ _ (mapped p (λ t. op.Branch t to) (test_of (c - 153)) (λ x. a x to))
        (either p (is_among 159 164 c) _ _ (mapped p (λ t. op.BranchInts t to) (test_of (c - 159)) (λ x. b x to))
        (either p (c == 165) _ _ (leaf p _ (d true to)) (either p (c == 166) _ _ (leaf p _ (d false to))
        (either p ((c == 167) || (c == 200)) _ _ (leaf p _ (g to)) (either p (c == 198) _ _ (leaf p _ (e true to)) (either p (c == 199) _ None (leaf p _ (e false to)) (nothing p)))))))

-- a test that passes no switch
pub switch_none : (p : Op → Bool) → ((o : ℕ) (cs : List (ℤ × ℕ)) → p (op.Switch o cs) ≡ false) → (is : List Instr) (other : ℕ) (cases : List (ℤ × ℕ)) → NoneOf p (switch_op is other cases)
switch_none p h is other cases = go (number_at is other) (each (numbered_case is) cases)
  where
    go : (o : Option ℕ) (cs : Option (List (ℤ × ℕ))) → NoneOf p (switch_to o cs)
    go (Some o) (Some cs) = leaf p (op.Switch o cs) (h o cs)
    go (Some o) None = nothing p
    go None cs = nothing p

-- ---- what iinc adds has two bytes

increment_far : (n : ℕ) (x : ℤ) → is_far (op.Increment n x) ≡ true
increment_far n x = refl

wide_adds : (w n : ℕ) (a : ℤ) (m : ℕ) (b : ℤ) → w < 256 → wide_op w n a ≡ Some (op.Increment m b) → FitsWide (form_of w) a → FitsSigned w16 b
wide_adds w n a m b less e f = go (w == 132) refl e
  where
    go : (x : Bool) → (w == 132) ≡ x → (if x then Some (op.Increment n a) else local_op w n) ≡ Some (op.Increment m b) → FitsSigned w16 b
    go true q h =
        let is : w ≡ 132 = (Decides-eqb w 132).0 q in
        let same : a ≡ b = cc in
        subst (λ (z : ℤ). FitsSigned w16 z) same (subst (λ (k : ℕ). FitsWide (form_of k) a) is f)
    go false q h = absurd ((local_near n w less).other (op.Increment m b) h refl)

pub adds_little : (s : Symbols) (is : List Instr) (c : ℕ) (operand : Operands) (pc m : ℕ) (b : ℤ) → c < 256 → meaning s is c operand ≡ Some (op.Increment m b) → IsSizedAs pc (form_of c) operand → FitsSigned w16 b
adds_little s is c operands.Nothing pc m b less e h = absurd ((simple_near c less).other (op.Increment m b) e refl)
adds_little s is c (operands.Number n) pc m b less e h = absurd ((number_near s c n).other (op.Increment m b) e refl)
adds_little s is c (operands.Local n) pc m b less e h = absurd ((local_near n c less).other (op.Increment m b) e refl)
adds_little s is c (operands.LocalAdd n a) pc m b less e h = go (form_of c) h
  where
    go : (f : Option Form) → IsSizedAs pc f (operands.LocalAdd n a) → FitsSigned w16 b
    go (Some form.Increment) h = let same : a ≡ b = cc in let wide : FitsSigned w16 a = (let k : FitsSigned w8 a = h.1 in omega (arith, ints, k)) in subst (λ (z : ℤ). FitsSigned w16 z) same wide
    go None h = absurd h
    go (Some f) h = absurd h
adds_little s is c (operands.Pool i) pc m b less e h = absurd ((pool_near s c i).other (op.Increment m b) e refl)
adds_little s is c (operands.Target t) pc m b less e h = absurd ((jump_none is_increment (λ t to. refl) (λ t to. refl) (λ b to. refl) (λ to. refl) (λ b to. refl) is c t).other (op.Increment m b) e refl)
adds_little s is c (operands.Wide w n a) pc m b less e h = go (form_of c) h
  where
    go : (f : Option Form) → IsSizedAs pc f (operands.Wide w n a) → FitsSigned w16 b
    go (Some form.Wide) h = wide_adds w n a m b (omega (arith, h.0)) e h.2
    go None h = absurd h
    go (Some f) h = absurd h
adds_little s is c (operands.Interface i n) pc m b less e h = absurd ((pool_near s c i).other (op.Increment m b) e refl)
adds_little s is c (operands.Dimensions i n) pc m b less e h = absurd cc
adds_little s is c (operands.Table other low ts) pc m b less e h = absurd ((switch_none is_increment (λ o cs. refl) is other (table_cases low ts)).other (op.Increment m b) e refl)
adds_little s is c (operands.Lookup other ps) pc m b less e h = absurd ((switch_none is_increment (λ o cs. refl) is other ps).other (op.Increment m b) e refl)
