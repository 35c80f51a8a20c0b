-- The names that the code of a taken method gives to types are good.
use Rattle.std.proofs.Common.{◌≡◌, ℕ, ℤ, suc, ◌+◌, ◌≤◌, ◌<◌, pos, negsuc, Bool, true, false, ◌||◌, List, [], ◌∷◌, ◌++◌, Option, Some, None, refl, sym, ap, ◌∙◌, subst, arith, ◌⊎◌, inl, inr}
use Rattle.std.specs.Prelude.{codes, slice_get, bytes_eq, option_map, option_and_then, nat_lt, position, ◌==◌, if◌then◌else◌}
use Rattle.std.specs.List.{AllByRecursion}
use Rattle.std.proofs.lemmas.Bool.Decides.{nat_tests, Decides-eqb}
use Rattle.std.proofs.lemmas.Slice.Eq.{bytes_eq-Decides}
use Rattle.jmodel.specs.declared.class_file.Constant.{Constant}
use Rattle.jmodel.specs.declared.class_file.Constant.TheVariants as constants
use Rattle.jmodel.specs.declared.instruction.Instr.{Instr}
use Rattle.jmodel.specs.declared.instruction.Operands.{Operands}
use Rattle.jmodel.specs.declared.instruction.Operands.TheVariants as operands
use Rattle.jmodel.specs.format.ClassFile.{ClassFile}
use Rattle.jmodel.specs.format.ClassRules.{IsClassFile}
use Rattle.objects.specs.linking.Classes.{Declared}
use Rattle.objects.specs.linking.Taken.{index_of}
use Rattle.objects.specs.linking.Each.{each, in_front}
use Rattle.objects.specs.linking.Code.{table_cases}
use Rattle.jmodel.specs.format.DescriptorReading.{brackets}
use Rattle.jmodel.specs.format.Instruction.{form_of, IsInstr}
use Rattle.jmodel.specs.format.Pool.{MemberName, entry, string, class_name, field_name, member_name}
use Rattle.objects.specs.declared.op.Op.{Op}
use Rattle.objects.specs.declared.op.Op.TheVariants as op
use Rattle.objects.specs.declared.op.Unary.TheVariants.{Absolute}
use Rattle.objects.specs.declared.op.Binary.TheVariants.{Minimum, Maximum}
use Rattle.jmodel.specs.declared.value.Value.TheVariants as value
use Rattle.objects.specs.semantics.Program.{Row, Program}
use Rattle.objects.specs.typing.TypeOrder.{context_class, is_array}
use Rattle.objects.specs.linking.Constructs.{named_class, is_bad_new}
use Rattle.objects.specs.linking.LibraryMethods.{is_library_constructor, is_library_function}
use Rattle.objects.specs.linking.Resolution.{holds_of, special_method}
use Rattle.objects.specs.linking.Layout.{class_read, descriptor_read, rows, type_number, array_over}
use Rattle.objects.specs.linking.Decoding.{Symbols, is_among, field_number, number_of, method_number, simple_op, local_op, primitive_array, new_array, number_op, pushed_op, text_op, ldc_op, added_address, is_base, field_op, width_in, is_get_context, static_call_op, parameter_places, special_call_op, interface_call_op, context_call, virtual_call_op, call_op, class_op, pool_op, meaning, op_of}
use Rattle.objects.specs.linking.Linking.{original_symbols}
use Rattle.objects.specs.laws.LinkingLaw.{AreRead}
use Rattle.objects.proofs.AsRead.{is_file}
use Rattle.objects.proofs.CleanCode.{IsClean}
use Rattle.objects.proofs.Elements.{inner_name}
use Rattle.objects.proofs.Items.{IsAt, placed}
use Rattle.objects.proofs.Links.{IsLinkedTo}
use Rattle.dup_methods.proofs.Apart.{NoneOf, nothing, leaf, either, mapped, chained, or_none, below, jump_none, switch_none}
use Rattle.dup_methods.proofs.Jumps.{IsWideOp}
use Rattle.dup_methods.proofs.RowsProof.{wide_small}
use Rattle.rewritten_form.proofs.Adding.{IsClassText}
use Rattle.rewritten_form.proofs.Texts.{pool_class}
use Rattle.rewritten_form.proofs.ReadNames.{same_array}
use Rattle.rewritten_form.proofs.GoodNames.{is_good, depth, plain_good, array_good, array_form, text_is_good}
use Rattle.rewritten_form.proofs.GoodRows.{IsRowLawful, row_at_lawful}
use Rattle.rewritten_form.proofs.GoodReads.{typed_good, array_read_good, class_array_good}
use Rattle.rewritten_form.proofs.GoodOps.{IsNamedWell}

-- an instruction that makes arrays, or casts
abbrev is_maker : Op → Bool
is_maker (op.NewArray t) = true
is_maker (op.CheckCast c) = true
is_maker o = false

module _ (s : Symbols) where
  -- ---- what means no such instruction

  ldc_not : (i : ℕ) → NoneOf is_maker (ldc_op s i)
  ldc_not i = or_none is_maker _ _ (chained is_maker (text_op s) (string s.class.pool i) (λ t. mapped is_maker op.Text _ (λ x. refl))) (chained is_maker (pushed_op s) (entry s.class.pool i) pushed)
    where
      pushed : (k : Constant) → NoneOf is_maker (pushed_op s k)
      pushed (constants.Integer n) = leaf is_maker _ refl
      pushed (constants.Long n) = leaf is_maker _ refl
      pushed k = nothing is_maker

  field_not : (c : ℕ) (n : MemberName) → NoneOf is_maker (field_op s c n)
  field_not c n =
      either is_maker (c == 178) _ _
      (or_none is_maker _ _ (mapped is_maker op.GetStatic (field_number s n) (λ x. refl))
      (or_none is_maker _ _ (mapped is_maker (λ a. op.Constant (value.Long a)) (added_address s.class n) (λ x. refl)) (either is_maker (is_base s.class n) (Some (op.Constant (value.Ref s.base))) None (leaf is_maker _ refl) (nothing is_maker))))
      (either is_maker (c == 179) _ _ (mapped is_maker op.PutStatic (field_number s n) (λ x. refl))
      (either is_maker (c == 180) _ _ (mapped is_maker (λ f. op.GetField f (class_read s.classes n.class)) (field_number s n) (λ x. refl))
      (either is_maker (c == 181) _ None (mapped is_maker (λ f. op.PutField f (class_read s.classes n.class)) (field_number s n) (λ x. refl)) (nothing is_maker))))

  static_not : (n : MemberName) → NoneOf is_maker (static_call_op s n)
  static_not n =
      either is_maker (is_get_context n) (Some op.GetContext) _ (leaf is_maker _ refl)
      (either is_maker (is_library_function n) _ _
      (either is_maker (bytes_eq n.name (codes "abs")) (Some (op.Unary (width_in n.descriptor) Absolute)) _ (leaf is_maker _ refl)
      (either is_maker (bytes_eq n.name (codes "min")) (Some (op.Binary (width_in n.descriptor) Minimum)) (Some (op.Binary (width_in n.descriptor) Maximum)) (leaf is_maker _ refl) (leaf is_maker _ refl)))
      (mapped is_maker op.InvokeStatic (method_number s n) (λ m. refl)))

  special_not : (n : MemberName) → NoneOf is_maker (special_call_op s n)
  special_not n =
      either is_maker (is_library_constructor n) _ _ (mapped is_maker (λ places. op.InitLibrary n.class places) (parameter_places n.descriptor) (λ x. refl))
      (mapped is_maker op.InvokeSpecial (option_and_then (number_of s) (special_method s.classes s.class n)) (λ m. refl))

  virtual_not : (n : MemberName) → NoneOf is_maker (virtual_call_op s n)
  virtual_not n =
      either is_maker (bytes_eq n.class context_class) _ _ (mapped is_maker op.Context (context_call n) (λ c. refl))
      (mapped is_maker (λ m. op.InvokeVirtual m (class_read s.classes n.class)) (method_number s n) (λ x. refl))

  interface_not : (n : MemberName) → NoneOf is_maker (interface_call_op s n)
  interface_not n = mapped is_maker (λ m. op.InvokeInterface m n.class) (method_number s n) (λ x. refl)

  call_not : (c : ℕ) (n : MemberName) → NoneOf is_maker (call_op s c n)
  call_not c n =
      either is_maker (c == 182) _ _ (virtual_not n) (either is_maker (c == 183) _ _ (special_not n) (either is_maker (c == 184) _ _ (static_not n) (either is_maker (c == 185) _ None (interface_not n) (nothing is_maker))))

  -- ---- what means one: newarray, or an instruction with a class

  IsMaker : ℕ → Operands → Op → Type 0
  IsMaker c operand o =
      ((n : ℤ) × (option_and_then (new_array s) (primitive_array n) ≡ Some o)) ⊎ ((j : ℕ) × (n : List ℕ) × (index_of operand ≡ Some j) × (class_name s.class.pool j ≡ Some n) × (class_op s c n ≡ Some o))

  of_pool : (c i : ℕ) (o : Op) → is_maker o ≡ true → pool_op s c i ≡ Some o → (n : List ℕ) × (class_name s.class.pool i ≡ Some n) × (class_op s c n ≡ Some o)
  of_pool c i o t e = first (is_among 18 20 c) e
    where
      named : (m : Option (List ℕ)) → class_name s.class.pool i ≡ m → option_and_then (class_op s c) m ≡ Some o → (n : List ℕ) × (class_name s.class.pool i ≡ Some n) × (class_op s c n ≡ Some o)
      named None q h = absurd cc
      named (Some n) q h = (n, q, h)

      third : (b : Bool) → (if b then option_and_then (call_op s c) (member_name s.class.pool i) else option_and_then (class_op s c) (class_name s.class.pool i)) ≡ Some o → (n : List ℕ) × (class_name s.class.pool i ≡ Some n) × (class_op s c n ≡ Some o)
      third true h = absurd ((chained is_maker (call_op s c) (member_name s.class.pool i) (call_not c)).other o h t)
      third false h = named (class_name s.class.pool i) refl h

      second : (b : Bool) → (if b then option_and_then (field_op s c) (field_name s.class.pool i) else if is_among 182 185 c then option_and_then (call_op s c) (member_name s.class.pool i) else option_and_then (class_op s c) (class_name s.class.pool i)) ≡ Some o
          → (n : List ℕ) × (class_name s.class.pool i ≡ Some n) × (class_op s c n ≡ Some o)
      second true h = absurd ((chained is_maker (field_op s c) (field_name s.class.pool i) (field_not c)).other o h t)
      second false h = third (is_among 182 185 c) h

      first : (b : Bool) → (if b then ldc_op s i else if is_among 178 181 c then option_and_then (field_op s c) (field_name s.class.pool i) else if is_among 182 185 c then option_and_then (call_op s c) (member_name s.class.pool i) else option_and_then (class_op s c) (class_name s.class.pool i)) ≡ Some o
          → (n : List ℕ) × (class_name s.class.pool i ≡ Some n) × (class_op s c n ≡ Some o)
      first true h = absurd ((ldc_not i).other o h t)
      first false h = second (is_among 178 181 c) h

  of_number : (c : ℕ) (n : ℤ) (o : Op) → is_maker o ≡ true → number_op s c n ≡ Some o → option_and_then (new_array s) (primitive_array n) ≡ Some o
  of_number c n o t e = go (is_among 16 17 c) (c == 188) e
    where
      go : (a b : Bool) → (if a then Some (op.Constant (value.Int n)) else if b then option_and_then (new_array s) (primitive_array n) else None) ≡ Some o → option_and_then (new_array s) (primitive_array n) ≡ Some o
      go true b h = absurd ((leaf is_maker (op.Constant (value.Int n)) refl).other o h t)
      go false true h = h
      go false false h = cc

  local_not : (n c : ℕ) → c < 256 → NoneOf is_maker (local_op c n)
  local_not n = below is_maker (λ c. local_op c n) refl

  maker_is : (is : List Instr) (c : ℕ) (operand : Operands) (o : Op) → c < 256 → is_maker o ≡ true → meaning s is c operand ≡ Some o → ((w n : ℕ) (a : ℤ) → operand ≡ operands.Wide w n a → w < 256) → IsMaker c operand o
  unfolding IsMaker
  maker_is is c operands.Nothing o less t e w = absurd ((below is_maker simple_op refl c less).other o e t)
  maker_is is c (operands.Number n) o less t e w = inl (n, of_number c n o t e)
  maker_is is c (operands.Local n) o less t e w = absurd ((local_not n c less).other o e t)
  maker_is is c (operands.LocalAdd n a) o less t e w = absurd ((leaf is_maker (op.Increment n a) refl).other o e t)
  maker_is is c (operands.Pool i) o less t e w = let r = of_pool c i o t e in inr (i, r.0, refl, r.1, r.2)
  maker_is is c (operands.Interface i n) o less t e w = let r = of_pool c i o t e in inr (i, r.0, refl, r.1, r.2)
  maker_is is c (operands.Dimensions i n) o less t e w = absurd cc
  maker_is is c (operands.Target to) o less t e w = absurd ((jump_none is_maker (λ t to. refl) (λ t to. refl) (λ b to. refl) (λ to. refl) (λ b to. refl) is c to).other o e t)
  maker_is is c (operands.Table other low ts) o less t e w = absurd ((switch_none is_maker (λ o cs. refl) is other (table_cases low ts)).other o e t)
  maker_is is c (operands.Lookup other ps) o less t e w = absurd ((switch_none is_maker (λ o cs. refl) is other ps).other o e t)
  maker_is is c (operands.Wide v n a) o less t e w = absurd ((either is_maker (v == 132) (Some (op.Increment n a)) (local_op v n) (leaf is_maker _ refl) (local_not n v (w v n a refl))).other o e t)

depth_is : (n : List ℕ) → depth n ≡ brackets n
depth_is [] = refl
depth_is (c ∷ n) = go (c == 91) (depth_is n)
  where
    go : (b : Bool) → depth n ≡ brackets n → (if b then suc (depth n) else 0) ≡ (if b then 1 + brackets n else 0)
    go true e = omega (arith, e)
    go false e = refl

module _ (cs : List ClassFile) (P : Program) (read : AreRead cs) (l : IsLinkedTo cs P) (d : Declared) (at : IsAt cs d.class) where
  abbrev s : Symbols
  s = original_symbols cs d.class

  -- arrays of a name
  made_array : (n : List ℕ) → is_good (descriptor_read cs n) ≡ true → (o : Op) → new_array s n ≡ Some o → IsNamedWell P o
  made_array n g o e = go (position (λ (r : Row). bytes_eq r.name n) (rows cs)) refl e
    where
      good_row : (r : Row) → IsRowLawful cs P read l r → r.name ≡ n → is_good r.read ≡ true
      good_row r h name = elim h.named [
        | inl a ↦ plain_good r.read (ap is_array a.1 ∙ same_array r.name ∙ a.0.named.no_array)
        | inr (inl a) ↦ plain_good r.read (ap is_array a.1)
        | inr (inr a) ↦ ap is_good (a.1 ∙ ap (descriptor_read cs) name) ∙ g
      ]

      go : (p : Option ℕ) → position (λ (r : Row). bytes_eq r.name n) (rows cs) ≡ p → option_map op.NewArray (option_map suc p) ≡ Some o → IsNamedWell P o
      go None q h = cc
      go (Some p) q h =
          let x = placed (λ (r : Row). bytes_eq r.name n) (rows cs) p q in
          let name = (bytes_eq-Decides x.0.name n).0 x.2 in
          let same : op.NewArray (suc p) ≡ o = cc in
          let here : slice_get P.types p ≡ Some x.0 = ap (λ (P : Program). slice_get P.types p) l.is ∙ x.1 in
          subst (IsNamedWell P) same (λ r there. let is : x.0 ≡ r = (let f = sym here ∙ there in cc) in good_row r (row_at_lawful cs P read l (suc p) r there) (ap (λ (r : Row). r.name) (sym is) ∙ name))

  primitive_good : (n : ℤ) (o : Op) → option_and_then (new_array s) (primitive_array n) ≡ Some o → IsNamedWell P o
  primitive_good (negsuc n) o e = cc
  primitive_good (pos n) o e =
      by (n == 4) (codes "[Z") _ refl (by (n == 5) (codes "[C") _ refl (by (n == 8) (codes "[B") _ refl (by (n == 9) (codes "[S") _ refl (by (n == 10) (codes "[I") _ refl (by (n == 11) (codes "[J") None refl (λ h. cc)))))) e
    where
      by : (b : Bool) (m : List ℕ) (x : Option (List ℕ)) → is_good (descriptor_read cs m) ≡ true → (option_and_then (new_array s) x ≡ Some o → IsNamedWell P o) → option_and_then (new_array s) (if b then Some m else x) ≡ Some o → IsNamedWell P o
      by true m x g rest h = made_array m g o h
      by false m x g rest h = rest h

  -- the array of a class's name
  over_good : (n : List ℕ) → IsClassText n → brackets n ≤ 254 → is_good (descriptor_read cs (array_over n)) ≡ true
  over_good n h few = go (is_array n) refl
    where
      go : (b : Bool) → is_array n ≡ b → is_good (descriptor_read cs (91 ∷ (if b then n else codes "L" ++ n ++ codes ";"))) ≡ true
      go true a =
          let named = h.named in
          let p = sym (same_array n) ∙ a in
          let f = array_form n h.text (rw p at named) in
          let same = depth_is n in
          array_read_good cs P read l (91 ∷ n) refl (array_good (91 ∷ n) (record { few = omega (arith, few, same); core = f.0 }))
      go false a = ap (λ (m : List ℕ). is_good (91 ∷ 76 ∷ (class_read cs m ++ codes ";"))) (inner_name n) ∙ class_array_good cs P read l n

  not_more : (n : ℕ) → nat_lt 254 n ≡ false → n ≤ 254
  not_more n h = grind (arith, nat_tests)

  rules : IsClassFile d.class
  rules = is_file cs read d.class at

  class_good : (i : Instr) → IsClean cs d i → (j : ℕ) (n : List ℕ) → index_of i.operands ≡ Some j → class_name d.class.pool j ≡ Some n → (o : Op) → is_maker o ≡ true → class_op s i.op n ≡ Some o → IsNamedWell P o
  class_good i clean j n index there o t e = go (i.op == 187) (i.op == 189) (i.op == 192) (i.op == 193) refl e
    where
      text : IsClassText n
      text = pool_class d.class.pool rules.pool j n there

      few : (i.op == 189) ≡ true → brackets n ≤ 254
      few is =
          let same : i.op ≡ 189 = (Decides-eqb i.op 189).0 is in
          let named : named_class d.class.pool i ≡ Some n =
          ap (λ (c : ℕ). if (c == 187) || (c == 189) || (c == 192) || (c == 193) then option_and_then (class_name d.class.pool) (index_of i.operands) else None) same ∙ ap (option_and_then (class_name d.class.pool)) index ∙ there in
          let bad : is_bad_new cs i.op n ≡ false = ap (holds_of (is_bad_new cs i.op)) (sym named) ∙ clean.new in
          not_more (brackets n) (subst (λ (c : ℕ). is_bad_new cs c n ≡ false) same bad)

      go : (a b f g : Bool) → (i.op == 189) ≡ b → (if a then option_map op.New (type_number s.types n) else if b then new_array s (array_over n) else if f then Some (op.CheckCast n) else if g then Some (op.InstanceOf n) else None) ≡ Some o → IsNamedWell P o
      go true b f g q h = absurd ((mapped is_maker op.New (type_number s.types n) (λ x. refl)).other o h t)
      go false true f g q h = made_array (array_over n) (over_good n text (few q)) o h
      go false false true g q h = let same : op.CheckCast n ≡ o = cc in subst (IsNamedWell P) same (typed_good cs P read l n (text_is_good n text))
      go false false false true q h = absurd ((leaf is_maker (op.InstanceOf n) refl).other o h t)
      go false false false false q h = cc

  module _ (all : List Instr) where
    wide_of : (i : Instr) → IsInstr i → (w n : ℕ) (a : ℤ) → i.operands ≡ operands.Wide w n a → w < 256
    wide_of i h w n a e = subst IsWideOp e (wide_small i.pc (form_of i.op) i.operands h.operands)

    made_good : (i : Instr) → IsInstr i → IsClean cs d i → (o : Op) → is_maker o ≡ true → op_of s all i ≡ Some o → IsNamedWell P o
    unfolding IsMaker
    made_good i h clean o t e = elim (maker_is s all i.op i.operands o (omega (arith, h.op)) t e (wide_of i h)) [
      | inl x ↦ primitive_good x.0 o x.1
      | inr x ↦ class_good i clean x.0 x.1 x.2 x.3 o t x.4
    ]

    op_good : (i : Instr) → IsInstr i → IsClean cs d i → (o : Op) → op_of s all i ≡ Some o → IsNamedWell P o
    op_good i h clean (op.NewArray t) e = made_good i h clean (op.NewArray t) refl e
    op_good i h clean (op.CheckCast c) e = made_good i h clean (op.CheckCast c) refl e
    op_good i h clean o e = tt

    -- instructions, each of which names well
    pub ops_good : (is : List Instr) (os : List Op) → AllByRecursion IsInstr is → AllByRecursion (IsClean cs d) is → each (op_of s all) is ≡ Some os → AllByRecursion (IsNamedWell P) os
    ops_good [] os h clean e = let same : [] ≡ os = cc in subst (AllByRecursion (IsNamedWell P)) same tt
    ops_good (i ∷ is) os h clean e = go (λ qs t. ops_good is qs h.1 clean.1 t) (op_of s all i) refl (each (op_of s all) is) refl e
      where
        go : ((qs : List Op) → each (op_of s all) is ≡ Some qs → AllByRecursion (IsNamedWell P) qs) → (o : Option Op) → op_of s all i ≡ o → (x : Option (List Op)) → each (op_of s all) is ≡ x → in_front o x ≡ Some os → AllByRecursion (IsNamedWell P) os
        go rest None q x t f = absurd cc
        go rest (Some o) q None t f = absurd cc
        go rest (Some o) q (Some qs) t f = let same : o ∷ qs ≡ os = cc in subst (AllByRecursion (IsNamedWell P)) same (op_good i h.0 clean.0 o q, rest qs t)
