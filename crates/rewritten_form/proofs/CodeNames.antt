-- What the duplicate of a taken method names may stand in a class file.
use Rattle.std.proofs.Common.{◌≡◌, ℕ, ℤ, suc, ◌+◌, ◌≤◌, ◌<◌, Bool, true, false, List, [], ◌∷◌, Option, Some, None, refl, sym, ap, ◌∙◌, subst, arith}
use Rattle.std.specs.Prelude.{nat_lt, slice_get, option_map, option_and_then, bytes_eq, codes, if◌then◌else◌}
use Rattle.std.specs.List.{AllByRecursion, list_any}
use Rattle.std.proofs.lemmas.Bool.Decides.{nat_tests}
use Rattle.jmodel.specs.declared.instruction.Instr.{Instr}
use Rattle.jmodel.specs.declared.instruction.Operands.TheVariants as operands
use Rattle.jmodel.specs.format.ClassFile.{ClassFile}
use Rattle.jmodel.specs.format.Pool.{MemberName, member_name}
use Rattle.jmodel.specs.format.ClassRules.{IsClassFile}
use Rattle.objects.specs.linking.Taken.{index_of}
use Rattle.objects.specs.linking.Each.{each, in_front}
use Rattle.jmodel.specs.format.Instruction.{form_of, IsInstr}
use Rattle.objects.specs.declared.op.WordType.{WordType}
use Rattle.objects.specs.declared.op.Op.{Op}
use Rattle.objects.specs.declared.op.Op.TheVariants as op
use Rattle.objects.specs.semantics.Program.{Field, Method, Program, method_at, field_at}
use Rattle.objects.specs.typing.Typing.{Types, Table, types_at}
use Rattle.objects.specs.typing.TypeOrder.{context_class}
use Rattle.objects.specs.linking.LibraryMethods.{is_library_function, is_library_constructor}
use Rattle.objects.specs.linking.Resolution.{special_method}
use Rattle.objects.specs.linking.Layout.{class_read}
use Rattle.objects.specs.linking.Decoding.{Symbols, op_of, number_of, method_number, function_op, is_get_context, static_call_op, parameter_places, special_call_op, interface_call_op, context_call, virtual_call_op}
use Rattle.objects.specs.linking.Linking.{original_symbols}
use Rattle.objects.specs.laws.LinkingLaw.{AreRead}
use Rattle.objects.specs.rewriting.Rewriting.{array_under}
use Rattle.objects.proofs.Links.{IsLinkedTo}
use Rattle.dup_methods.specs.Originals.{Original}
use Rattle.dup_methods.specs.Limits.{places_in, is_full, calls_full}
use Rattle.dup_methods.specs.Duplicates.{called}
use Rattle.dup_methods.proofs.Apart.{leaf, either, mapped}
use Rattle.dup_methods.proofs.Invokes.{is_static, is_special, is_virtual, is_invoke, Invokes, invokes_is, static_is, special_is, virtual_is, interface_is}
use Rattle.dup_methods.proofs.Jumps.{IsWideOp}
use Rattle.dup_methods.proofs.RowsProof.{wide_small}
use Rattle.rewritten_form.proofs.Lists.{all_at, or_false}
use Rattle.rewritten_form.proofs.FieldPools.{IsLawfulField}
use Rattle.rewritten_form.proofs.CopyPools.{InOption, IsCopyText, IsElementText, IsLawfulOp, AreLawful}
use Rattle.rewritten_form.proofs.SourceTexts.{fields_lawful, method_described, special_described, copy_text}

-- ---- the number that an invoke has

mapped_is : (f : ℕ → Op) (number : Op → ℕ) → ((m : ℕ) → number (f m) ≡ m) → (o : Option ℕ) (x : Op) → option_map f o ≡ Some x → o ≡ Some (number x)
mapped_is f number same None x e = cc
mapped_is f number same (Some m) x e = let s : f m ≡ x = cc in ap (λ (k : ℕ). Some k) (sym (same m) ∙ ap number s)

abbrev number_in : Op → ℕ
number_in (op.InvokeStatic m) = m
number_in (op.InvokeSpecial m) = m
number_in (op.InvokeVirtual m c) = m
number_in (op.InvokeInterface m c) = m
number_in o = 0

module _ (s : Symbols) (n : MemberName) (m : ℕ) where
  static_number : static_call_op s n ≡ Some (op.InvokeStatic m) → method_number s n ≡ Some m
  static_number e = go (is_get_context n) (is_library_function n) e
    where
      function : function_op n ≡ Some (op.InvokeStatic m) → ⊥
      function h = (either is_static (bytes_eq n.name (codes "abs")) _ _ (leaf is_static _ refl) (either is_static (bytes_eq n.name (codes "min")) _ _ (leaf is_static _ refl) (leaf is_static _ refl))).other (op.InvokeStatic m) h refl

      go : (a b : Bool) → (if a then Some op.GetContext else if b then function_op n else option_map op.InvokeStatic (method_number s n)) ≡ Some (op.InvokeStatic m) → method_number s n ≡ Some m
      go true b h = absurd ((leaf is_static op.GetContext refl).other (op.InvokeStatic m) h refl)
      go false true h = absurd (function h)
      go false false h = mapped_is op.InvokeStatic number_in (λ k. refl) (method_number s n) (op.InvokeStatic m) h

  special_number : special_call_op s n ≡ Some (op.InvokeSpecial m) → option_and_then (number_of s) (special_method s.classes s.class n) ≡ Some m
  special_number e = go (is_library_constructor n) e
    where
      go : (a : Bool) → (if a then option_map (λ places. op.InitLibrary n.class places) (parameter_places n.descriptor) else option_map op.InvokeSpecial (option_and_then (number_of s) (special_method s.classes s.class n))) ≡ Some (op.InvokeSpecial m)
          → option_and_then (number_of s) (special_method s.classes s.class n) ≡ Some m
      go true h = absurd ((mapped is_special (λ places. op.InitLibrary n.class places) (parameter_places n.descriptor) (λ x. refl)).other (op.InvokeSpecial m) h refl)
      go false h = mapped_is op.InvokeSpecial number_in (λ k. refl) _ (op.InvokeSpecial m) h

  virtual_number : (c : List ℕ) → virtual_call_op s n ≡ Some (op.InvokeVirtual m c) → method_number s n ≡ Some m
  virtual_number c e = go (bytes_eq n.class context_class) e
    where
      go : (a : Bool) → (if a then option_map op.Context (context_call n) else option_map (λ k. op.InvokeVirtual k (class_read s.classes n.class)) (method_number s n)) ≡ Some (op.InvokeVirtual m c) → method_number s n ≡ Some m
      go true h = absurd ((mapped is_virtual op.Context (context_call n) (λ x. refl)).other (op.InvokeVirtual m c) h refl)
      go false h = mapped_is (λ k. op.InvokeVirtual k (class_read s.classes n.class)) number_in (λ k. refl) (method_number s n) (op.InvokeVirtual m c) h

  interface_number : (c : List ℕ) → interface_call_op s n ≡ Some (op.InvokeInterface m c) → method_number s n ≡ Some m
  interface_number c e = mapped_is (λ k. op.InvokeInterface k n.class) number_in (λ k. refl) (method_number s n) (op.InvokeInterface m c) e

-- ---- arguments that are few

not_more : (n : ℕ) → nat_lt 254 n ≡ false → n ≤ 254
not_more n h = grind (arith, nat_tests)

few_of : (P : Program) (m : ℕ) → is_full (places_in (method_at P m)) ≡ false → (o : Method) → method_at P m ≡ Some o → o.places ≤ 254
few_of P m h o e = let q = e in not_more o.places (rw q at h)

-- ---- the code

-- the elements that code loads have classes that may stand in a class file, by the types of a table
abbrev pub HasTexts : Method → Table → Type 0
HasTexts k T = (n : ℕ) (t : WordType) → slice_get k.ops n ≡ Some (op.LoadElement t) → IsElementText t (array_under 1 (types_at T n))

module _ (cs : List ClassFile) (P : Program) (read : AreRead cs) (l : IsLinkedTo cs P) (c : ClassFile) (rules : IsClassFile c) (O : Original) (program : O.program ≡ P) (class : O.class ≡ c) where
  abbrev s : Symbols
  s = original_symbols cs c

  field_lawful : (f : ℕ) → InOption IsLawfulField (field_at O.program f)
  field_lawful f = subst (λ (Q : Program). InOption IsLawfulField (field_at Q f)) (sym program) (go (field_at P f) refl)
    where
      go : (o : Option Field) → field_at P f ≡ o → InOption IsLawfulField o
      go None e = tt
      go (Some x) e = all_at IsLawfulField P.fields f x (fields_lawful cs P read l) e

  copies_of : (i : Instr) (n : MemberName) → option_and_then (member_name c.pool) (index_of i.operands) ≡ Some n → IsCopyText n → InOption IsCopyText (called O i)
  copies_of i n e h = subst (InOption IsCopyText) (sym (ap (λ (x : ClassFile). option_and_then (member_name x.pool) (index_of i.operands)) class ∙ e)) h

  -- the index of what is named
  text_of : (i : Instr) (n : MemberName) (m : ℕ) → option_and_then (member_name c.pool) (index_of i.operands) ≡ Some n → (o : Method) × (method_at P m ≡ Some o) × (o.name.descriptor ≡ n.descriptor) → is_full (places_in (method_at O.program m)) ≡ false → InOption IsCopyText (called O i)
  text_of i n m e h few = copies_of i n e (go (index_of i.operands) e)
    where
      room : is_full (places_in (method_at P m)) ≡ false
      room = ap (λ (Q : Program). is_full (places_in (method_at Q m))) (sym program) ∙ few

      go : (o : Option ℕ) → option_and_then (member_name c.pool) o ≡ Some n → IsCopyText n
      go None f = cc
      go (Some j) f = copy_text cs P read l c rules j n m f h (few_of P m room)

  wide_of : (i : Instr) → IsInstr i → (w n : ℕ) (a : ℤ) → i.operands ≡ operands.Wide w n a → w < 256
  wide_of i h w n a e = subst IsWideOp e (wide_small i.pc (form_of i.op) i.operands h.operands)

  module _ (all : List Instr) where
    invoke : (i : Instr) → IsInstr i → (o : Op) → is_invoke o ≡ true → op_of s all i ≡ Some o → Invokes s i.op i.operands o
    invoke i h o t e = invokes_is s all i.op i.operands o (omega (arith, h.op)) t e (wide_of i h)

    one_lawful : (i : Instr) (o : Op) (h : Option Types) → IsInstr i → op_of s all i ≡ Some o → calls_full O.program o ≡ false → ((t : WordType) → o ≡ op.LoadElement t → IsElementText t (array_under 1 h)) → IsLawfulOp O (Some o) h i
    one_lawful i (op.GetStatic f) h r e few el = field_lawful f
    one_lawful i (op.PutStatic f) h r e few el = field_lawful f
    one_lawful i (op.GetField f d) h r e few el = field_lawful f
    one_lawful i (op.PutField f d) h r e few el = field_lawful f
    one_lawful i (op.LoadElement t) h r e few el = el t refl
    one_lawful i (op.InvokeStatic m) h r e few el =
        let v = invoke i r (op.InvokeStatic m) refl e in
        text_of i v.name m v.there (method_described cs P read l c v.name m (static_number s v.name m (static_is s i.op v.name (op.InvokeStatic m) refl v.means))) few
    one_lawful i (op.InvokeSpecial m) h r e few el =
        let v = invoke i r (op.InvokeSpecial m) refl e in
        text_of i v.name m v.there (special_described cs P read l c v.name m (special_number s v.name m (special_is s i.op v.name (op.InvokeSpecial m) refl v.means))) few
    one_lawful i (op.InvokeVirtual m d) h r e few el =
        let v = invoke i r (op.InvokeVirtual m d) refl e in
        text_of i v.name m v.there (method_described cs P read l c v.name m (virtual_number s v.name m d (virtual_is s i.op v.name (op.InvokeVirtual m d) refl v.means))) few
    one_lawful i (op.InvokeInterface m d) h r e few el =
        let v = invoke i r (op.InvokeInterface m d) refl e in
        text_of i v.name m v.there (method_described cs P read l c v.name m (interface_number s v.name m d (interface_is s i.op v.name (op.InvokeInterface m d) refl v.means))) few
    one_lawful i o h r e few el = tt

    -- the instructions that are left are those of the method from a number on
    abbrev AreFrom : ℕ → List Op → Type 0
    AreFrom n os = (j : ℕ) → slice_get O.method.ops (n + j) ≡ slice_get os j

    all_lawful : (n : ℕ) (is : List Instr) (os : List Op) → each (op_of s all) is ≡ Some os → AllByRecursion IsInstr is → AreFrom n os → list_any (calls_full O.program) os ≡ false → HasTexts O.method O.table → AreLawful O n is
    all_lawful n [] os e r f few el = tt
    all_lawful n (i ∷ is) os e r f few el = go (λ qs t m p. all_lawful (n + 1) is qs t r.1 m p el) (op_of s all i) refl (each (op_of s all) is) refl e
      where
        go : ((qs : List Op) → each (op_of s all) is ≡ Some qs → AreFrom (n + 1) qs → list_any (calls_full O.program) qs ≡ false → AreLawful O (n + 1) is)
            → (o : Option Op) → op_of s all i ≡ o → (x : Option (List Op)) → each (op_of s all) is ≡ x → in_front o x ≡ Some os → AreLawful O n (i ∷ is)
        go again None q x t h = absurd cc
        go again (Some o) q None t h = absurd cc
        go again (Some o) q (Some qs) t h =
            let list : os ≡ o ∷ qs = cc in
            let z : n ≡ n + 0 = omega arith in
            let here : slice_get O.method.ops n ≡ Some o = ap (slice_get O.method.ops) z ∙ f 0 ∙ ap (λ (l : List Op). slice_get l 0) list in
            let parts = or_false (calls_full O.program o) (list_any (calls_full O.program) qs) (ap (list_any (calls_full O.program)) (sym list) ∙ few) in
            let one = one_lawful i o (types_at O.table n) r.0 q parts.0 (λ u same. el n u (here ∙ ap (λ (y : Op). Some y) same)) in
            let next : AreFrom (n + 1) qs = λ j. (let y : n + 1 + j ≡ n + suc j = omega arith in ap (slice_get O.method.ops) y ∙ f (suc j) ∙ ap (λ (l : List Op). slice_get l (suc j)) list) in
            (subst (λ (x : Option Op). IsLawfulOp O x (types_at O.table n) i) (sym here) one, again qs t next parts.1)

    pub code_lawful : each (op_of s all) all ≡ Some O.method.ops → AllByRecursion IsInstr all → list_any (calls_full O.program) O.method.ops ≡ false → HasTexts O.method O.table → AreLawful O 0 all
    code_lawful e r few el = all_lawful 0 all O.method.ops e r (λ j. let z : 0 + j ≡ j = omega arith in ap (slice_get O.method.ops) z) few el
