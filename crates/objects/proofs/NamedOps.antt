-- Instructions of taken methods that name members or classes mean source: what they name is there, and of the right kind.
use Rattle.std.proofs.Common.{◌≡◌, ℕ, List, Option, Some, None, true, false, nat_le, refl, sym, ap, subst, ◌∙◌}
use Rattle.std.specs.Prelude.{◌==◌, if◌then◌else◌, bytes_eq, codes, option_map, option_and_then}
use Rattle.std.specs.Option.{option_or}
use Rattle.jmodel.specs.declared.instruction.Instr.{Instr}
use Rattle.jmodel.specs.declared.value.Value.TheVariants as value
use Rattle.jmodel.specs.format.ClassFile.{ClassFile}
use Rattle.jmodel.specs.format.Pool.{MemberName, text_or_none}
use Rattle.objects.specs.linking.StaticBases.{base_of}
use Rattle.objects.specs.linking.Classes.{Declared, full_name}
use Rattle.objects.specs.linking.Taken.{invoked}
use Rattle.objects.specs.declared.op.Op.{Op}
use Rattle.objects.specs.declared.op.Op.TheVariants as op
use Rattle.objects.specs.declared.op.Binary.TheVariants.{Minimum, Maximum}
use Rattle.objects.specs.declared.op.Unary.TheVariants.{Absolute}
use Rattle.objects.specs.semantics.Program.{Method, Program}
use Rattle.objects.specs.typing.TypeOrder.{context_class}
use Rattle.objects.specs.typing.Typing.{is_constructor}
use Rattle.objects.specs.linking.LibraryMethods.{is_library_constructor, is_library_function}
use Rattle.objects.specs.linking.Resolution.{special_method}
use Rattle.objects.specs.linking.Constructs.{accessed}
use Rattle.objects.specs.linking.Layout.{class_read}
use Rattle.objects.specs.linking.Decoding.{Symbols, field_number, number_of, method_number, added_address, is_base, get_static_op, field_op, width_in, function_op, is_get_context, static_call_op, parameter_places, special_call_op, interface_call_op, virtual_call_op, call_op}
use Rattle.objects.specs.linking.Linking.{original_symbols}
use Rattle.objects.specs.typing.Source.{IsSourceOp, HasField, HasMethod, HasVirtual, HasStatic}
use Rattle.objects.specs.laws.LinkingLaw.{AreRead}
use Rattle.objects.proofs.CleanCode.{IsClean}
use Rattle.objects.proofs.Links.{IsLinkedTo}
use Rattle.objects.proofs.ResolvedMembers.{HasMember, special_resolves, numbered, static_member, over_member}
use Rattle.objects.proofs.LinkedFields.{HasFieldOf, numbered_field}
use Rattle.objects.proofs.LinkedOps.{Fine, nothing, leaf, when, plain, mapped}
use Rattle.objects.proofs.NamedMembers.{IsNamedField, named_field, op_is, IsNamedMethod, clash, no_init, named_method, not_op, virtual_place, special_place, static_place, no_context_call, no_delegator}

module _ (cs : List ClassFile) (P : Program) (read : AreRead cs) (l : IsLinkedTo cs P) (d : Declared) (k : Method) (i : Instr) (clean : IsClean cs d i) where
  abbrev s : Symbols
  s = original_symbols cs d.class

  has : (n : MemberName) (f : IsNamedField cs read d i clean n) → HasFieldOf cs P f.number f.declared
  has n f = numbered_field cs P read l f.declared f.number f.there.class f.there.member f.found

  static_field : (n : MemberName) (f : IsNamedField cs read d i clean n) → nat_le i.op 179 ≡ true → (o : ℕ) × HasField P f.number (Some o)
  static_field n f e = let h = has n f in (_, record { field = h.field; there = h.there; base_is = h.is ∙ ap (λ b. if b then Some (base_of cs h.number) else None) (f.static_as ∙ e) })

  object_field : (n : MemberName) (f : IsNamedField cs read d i clean n) → nat_le i.op 179 ≡ false → HasField P f.number None
  object_field n f e = let h = has n f in record { field = h.field; there = h.there; base_is = h.is ∙ ap (λ b. if b then Some (base_of cs h.number) else None) (f.static_as ∙ e) }

  abbrev IsGood : Option Op → Type 0
  IsGood o = Fine P k o

  by_number : (n : MemberName) (f : IsNamedField cs read d i clean n) (to : ℕ → Op) → IsSourceOp P k (to f.number) → IsGood (option_map to (field_number s n))
  by_number n f to h = subst IsGood (sym (ap (option_map to) f.numbered)) (leaf P k (to f.number) h)

  get_fine : (n : MemberName) (f : IsNamedField cs read d i clean n) → nat_le i.op 179 ≡ true → IsGood (get_static_op s n)
  get_fine n f e = subst IsGood (sym (ap (λ (o : Option ℕ). option_or (option_map op.GetStatic o)
      (option_or (option_map (λ a. op.Constant (value.Long a)) (added_address d.class n)) (if is_base d.class n then Some (op.Constant (value.Ref s.base)) else None))) f.numbered)) (leaf P k (op.GetStatic f.number) (static_field n f e))

  pub field_fine : (n : MemberName) → accessed d.class.pool i ≡ Some n → IsGood (field_op s i.op n)
  field_fine n e =
      let f = named_field cs read d i clean n e in
      when P k (i.op == 178) _ _ (λ t. get_fine n f (ap (λ c. nat_le c 179) (op_is cs read d i clean 178 t)))
      (λ u. when P k (i.op == 179) _ _ (λ t. by_number n f op.PutStatic (static_field n f (ap (λ c. nat_le c 179) (op_is cs read d i clean 179 t))))
      (λ u. when P k (i.op == 180) _ _ (λ t. by_number n f (λ j. op.GetField j (class_read s.classes n.class)) (object_field n f (ap (λ c. nat_le c 179) (op_is cs read d i clean 180 t))))
      (λ u. when P k (i.op == 181) _ None (λ t. by_number n f (λ j. op.PutField j (class_read s.classes n.class)) (object_field n f (ap (λ c. nat_le c 179) (op_is cs read d i clean 181 t)))) (λ u. nothing P k))))

  -- ---- calls

  -- the call of a method that is named
  module _ (n : MemberName) (e : invoked d.class.pool i ≡ Some n) where
    abbrev IsNamed : Type 0
    IsNamed = IsNamedMethod cs read d i clean n e

    -- its number leads to it
    by_method : (m : IsNamed) (j : ℕ) → method_number s n ≡ Some j → HasMember cs P j m.declared
    by_method m j f = numbered cs P read l d.class m.declared j m.there (ap (option_and_then (number_of s)) (sym m.resolved) ∙ f)

    -- ---- by the class of the object

    over_named : (m : IsNamed) (j : ℕ) → method_number s n ≡ Some j → (i.op == 184) ≡ false → (i.op == 183) ≡ false → HasVirtual P j
    over_named m j f g h =
        let x = by_method m j f in
        record {
          method = x.method;
          there = x.there;
          over_object = over_member cs P j m.declared x (m.static_as ∙ g);
          constructor = λ is. absurd (clash cs read d i clean n e (is_constructor x.method) is (ap (λ t. bytes_eq t (codes "<init>")) (name_is x) ∙ no_init cs read d i clean n e h));
        }
      where
        name_is : (x : HasMember cs P j m.declared) → x.method.name.name ≡ n.name
        name_is x = ap (λ (o : Method). o.name.name) x.from.meant.is ∙ ap (λ (k : Declared). (full_name k).name) x.is ∙ ap text_or_none m.has.name

    virtual_fine : i.op ≡ 182 → IsGood (virtual_call_op s n)
    virtual_fine f =
        let g = not_op cs read d i clean n e 182 184 f refl in
        let h = not_op cs read d i clean n e 182 183 f refl in
        let m = named_method cs read d i clean n e (virtual_place cs read d i clean n e g h) in
        when P k (bytes_eq n.class context_class) _ _ (λ t. absurd (no_context_call cs read d i clean n e t))
        (λ u. mapped P k (λ j. op.InvokeVirtual j (class_read s.classes n.class)) (method_number s n) (λ j e. over_named m j e g h))

    interface_fine : i.op ≡ 185 → IsGood (interface_call_op s n)
    interface_fine f =
        let g = not_op cs read d i clean n e 185 184 f refl in
        let h = not_op cs read d i clean n e 185 183 f refl in
        let m = named_method cs read d i clean n e (virtual_place cs read d i clean n e g h) in
        mapped P k (λ j. op.InvokeInterface j n.class) (method_number s n) (λ j e. over_named m j e g h)

    -- ---- by its name

    special_fine : i.op ≡ 183 → IsGood (special_call_op s n)
    special_fine f = when P k (is_library_constructor n) _ _ (λ t. mapped P k (op.InitLibrary n.class) (parameter_places n.descriptor) (λ p e. tt)) (λ u. mapped P k op.InvokeSpecial (option_and_then (number_of s) (special_method cs d.class n)) (over u))
      where
        g : (i.op == 184) ≡ false
        g = not_op cs read d i clean n e 183 184 f refl

        over : is_library_constructor n ≡ false → (j : ℕ) → option_and_then (number_of s) (special_method cs d.class n) ≡ Some j → HasMethod P j
        over u j q = by (special_method cs d.class n) refl q
          where
            m : IsNamed
            m = named_method cs read d i clean n e (special_place cs read d i clean n e f u)

            by : (o : Option Declared) → special_method cs d.class n ≡ o → option_and_then (number_of s) o ≡ Some j → HasMethod P j
            by None p q = cc
            by (Some t) p q =
                let r = special_resolves cs d.class n m.declared t m.resolved (m.static_as ∙ g) p in
                let x = numbered cs P read l d.class t j r.0 q in
                record { method = x.method; there = x.there; over_object = over_member cs P j t x r.1 }

    static_fine : i.op ≡ 184 → IsGood (static_call_op s n)
    static_fine f =
        when P k (is_get_context n) _ _ (λ t. absurd (no_delegator cs read d i clean n e t))
        (λ u. when P k (is_library_function n) _ _ (λ t. function_fine) (λ v. mapped P k op.InvokeStatic (method_number s n) (λ j e. static_named v j e)))
      where
        g : (i.op == 184) ≡ true
        g = ap (λ c. c == 184) f

        function_fine : IsGood (function_op n)
        function_fine =
            plain P k (bytes_eq n.name (codes "abs")) (op.Unary (width_in n.descriptor) Absolute) _ tt
            (plain P k (bytes_eq n.name (codes "min")) (op.Binary (width_in n.descriptor) Minimum) _ tt (leaf P k (op.Binary (width_in n.descriptor) Maximum) tt))

        static_named : is_library_function n ≡ false → (j : ℕ) → method_number s n ≡ Some j → HasStatic P j
        static_named v j q =
            let m = named_method cs read d i clean n e (static_place cs read d i clean n e f v) in
            let x = by_method m j q in
            record { method = x.method; there = x.there; static = static_member cs P j m.declared x (m.static_as ∙ g) }

    pub call_fine : IsGood (call_op s i.op n)
    call_fine =
        when P k (i.op == 182) _ _ (λ t. virtual_fine (op_is cs read d i clean 182 t)) (λ u. when P k (i.op == 183) _ _ (λ t. special_fine (op_is cs read d i clean 183 t))
        (λ u. when P k (i.op == 184) _ _ (λ t. static_fine (op_is cs read d i clean 184 t)) (λ u. when P k (i.op == 185) _ None (λ t. interface_fine (op_is cs read d i clean 185 t)) (λ u. nothing P k))))
