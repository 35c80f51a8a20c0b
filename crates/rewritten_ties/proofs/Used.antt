-- What names in the code of taken methods lead to among rewritten classes.
use Rattle.std.proofs.Common.{◌≡◌, ℕ, List, Option, Some, None, Ok, Bool, true, false, not, ◌&&◌, refl, sym, ap, ◌∙◌}
use Rattle.std.specs.Prelude.{bytes_eq, codes, ◌==◌, option_map, if◌then◌else◌}
use Rattle.std.specs.Option.{option_or}
use Rattle.std.proofs.lemmas.Slice.Eq.{bytes_eq-Decides}
use Rattle.jmodel.specs.declared.instruction.Instr.{Instr}
use Rattle.jmodel.specs.declared.value.Value.{Value}
use Rattle.jmodel.specs.declared.value.Value.TheVariants as value
use Rattle.jmodel.specs.format.ClassFile.{ClassFile}
use Rattle.jmodel.specs.format.Pool.{MemberName}
use Rattle.objects.specs.linking.Members.{own_name}
use Rattle.objects.specs.linking.Classes.{Declared, methods_in}
use Rattle.objects.specs.linking.Taken.{invoked, is_taken}
use Rattle.objects.specs.linking.Code.{Coded, decoded}
use Rattle.objects.specs.declared.op.Op.TheVariants.{Constant, GetStatic, InvokeStatic, InvokeSpecial, InvokeVirtual, InvokeInterface}
use Rattle.objects.specs.semantics.Program.{Program}
use Rattle.objects.specs.linking.Constructs.{accessed, is_elsewhere}
use Rattle.objects.specs.linking.Resolution.{holds_of, is_properly_above, from_above, resolved_method, special_method}
use Rattle.objects.specs.linking.Decoding.{Symbols, number_of, method_number, added_address, is_base, get_static_op, static_call_op, special_call_op, interface_call_op, virtual_call_op}
use Rattle.objects.specs.linking.Linking.{taken_methods, original_symbols}
use Rattle.objects.specs.laws.LinkingLaw.{AreRead}
use Rattle.objects.specs.rewriting.Rewriting.{duplicate}
use Rattle.objects.proofs.Items.{IsAt, of_filter}
use Rattle.objects.proofs.AsRead.{not_named}
use Rattle.objects.proofs.CalledMembers.{callee_taken, takes_it}
use Rattle.objects.proofs.CleanCode.{IsClean, neither, clean_code, taken_clean}
use Rattle.objects.proofs.DeclaredMembers.{of_methods, has_its_name}
use Rattle.objects.proofs.Links.{IsLinkedTo}
use Rattle.objects.proofs.NamedMembers.{named_field, good, is_not, reserved_class}
use Rattle.objects.proofs.ResolvedMembers.{method_resolves}
use Rattle.rewritten_names.specs.LeadsLaw.{copy_member, IsOwn, IsCoveredUnless, IsCallOf, special_number, Leads, LeadsSpecial}
use Rattle.rewritten_names.proofs.Covered.{call_of}
use Rattle.rewritten_names.proofs.Lists.{some_of}
use Rattle.rewritten_names.proofs.Ordinary.{numbered_taken}
use Rattle.rewritten_names.proofs.Resolved.{context_kept}
use Rattle.rewritten_ties.proofs.Texts.{no_function, no_constructor, no_get}
use Rattle.rewritten_ties.proofs.Ops.{static_op, special_op, virtual_op, interface_op, static_number, special_number_of, virtual_of, interface_of}

abbrev init : List ℕ
init = codes "<init>"

-- the second of two tests of which not both pass
right_part : (a b : Bool) → a ≡ true → (a && b) ≡ false → b ≡ false
right_part true b e f = f
right_part false b e f = cc

module _ (cs : List ClassFile) (P : Program) (read : AreRead cs) (l : IsLinkedTo cs P) (d : Declared) (taken : IsAt (taken_methods cs) d) (x : Coded) (is : decoded d.class d.member ≡ Ok x) (i : Instr) (inside : IsAt x.instrs i) where
  abbrev s0 : Symbols
  s0 = original_symbols cs d.class

  -- the instruction has no construct that is left out
  clean : IsClean cs d i
  clean = (clean_code cs d (taken_clean cs l.constructs d taken) x is i inside).instr

  -- ---- fields

  -- what is read by a field's name is no constant
  pub no_constant : (n : MemberName) → accessed d.class.pool i ≡ Some n → (v : Value) → get_static_op s0 n ≡ Some (Constant v) → ⊥
  no_constant n e v h =
      let f = named_field cs read d i clean n e in
      let static : get_static_op s0 n ≡ Some (GetStatic f.number) =
      ap (λ (o : Option ℕ). option_or (option_map GetStatic o) (option_or (option_map (λ a. Constant (value.Long a)) (added_address d.class n)) (if is_base d.class n then Some (Constant (value.Ref s0.base)) else None))) f.numbered in
      let fall : Some (GetStatic f.number) ≡ Some (Constant v) = sym static ∙ h in
      cc

  -- ---- methods

  module _ (n : MemberName) (e : invoked d.class.pool i ≡ Some n) where
    -- the name is that of a call
    pub call : IsCallOf cs P n
    call = call_of cs P read l n (record { place = taken.0; caller = d; there = taken.1; coded = x; decodes = is; index = inside.0; instr = i; inside = inside.1; names = e })

    -- the class isn't the context's delegator
    delegator : bytes_eq n.class (codes "org/deuce/transaction/ContextDelegator") ≡ false
    delegator = go (bytes_eq n.class (codes "org/deuce/transaction/ContextDelegator")) refl
      where
        go : (b : Bool) → bytes_eq n.class (codes "org/deuce/transaction/ContextDelegator") ≡ b → b ≡ false
        go true t = absurd (reserved_class cs read d i clean n e (codes "org/deuce/transaction/ContextDelegator") (not_named cs read (codes "org/deuce/transaction/ContextDelegator") refl) refl t)
        go false t = refl

    -- a constructor is one of the named class
    init_class : bytes_eq n.name init ≡ true → (k : Declared) → resolved_method cs n ≡ Some k → own_name k.class ≡ n.class
    init_class t k f =
        let a = right_part (bytes_eq n.name init) _ t (good cs read d i clean n e).constructor in
        let b = neither (not (i.op == 183)) (holds_of (is_elsewhere n.class) (resolved_method cs n)) a in
        let c : not (bytes_eq (own_name k.class) n.class) ≡ false = ap (holds_of (is_elsewhere n.class)) (sym f) ∙ b.1 in
        (bytes_eq-Decides (own_name k.class) n.class).0 (is_not (bytes_eq (own_name k.class) n.class) c)

    -- so the named class has it itself
    init_own : bytes_eq n.name init ≡ true → (k : Declared) → resolved_method cs n ≡ Some k → IsOwn cs P n
    init_own t k f =
        let r = method_resolves cs n k f in
        let p = of_methods cs k r.0 in
        let there = callee_taken cs d taken x is i inside n k e r.0 (takes_it cs d taken x is i inside n k r.1 (λ u. sym (init_class t k f))) in
        record {
          place = p.0.0;
          class = k.class;
          there = p.0.1;
          named = init_class t k f;
          index = p.1.0;
          member = k.member;
          inside = p.1.1;
          has = has_its_name n k r.1;
          numbered = numbered_taken cs P read l k r.0 ∙ (of_filter (is_taken cs) (methods_in cs) k there).1;
        }

    -- what invokespecial runs has a name that stands for something
    special_some : (k : Declared) → special_method cs d.class n ≡ Some k → (o : Declared) × (resolved_method cs n ≡ Some o)
    special_some k f = go (resolved_method cs n) refl f
      where
        go : (o : Option Declared) → resolved_method cs n ≡ o
            → option_map (λ k. if not (bytes_eq n.name init) && is_properly_above cs d.class (own_name k.class) then from_above cs d.class n k else k) o ≡ Some k → (o : Declared) × (resolved_method cs n ≡ Some o)
        go None g h = cc
        go (Some o) g h = (o, g)

    module _ (h : ClassFile) (s : Symbols) (L : Leads cs P h s0 s) (S : LeadsSpecial cs P s0 s) where
      -- the name of a duplicate leads to the duplicate
      copied : (m : ℕ) → method_number s0 n ≡ Some m → method_number s (copy_member n) ≡ Some (duplicate P m)
      copied m f = go (bytes_eq n.name init) refl call.covered
        where
          go : (b : Bool) → bytes_eq n.name init ≡ b → IsCoveredUnless b cs P n → method_number s (copy_member n) ≡ Some (duplicate P m)
          go true t u = let r = some_of (number_of s0) (resolved_method cs n) m f in L.own_copies n call.plain (init_own t r.0 r.1) m f
          go false t u = L.copies n call.plain u m f

      -- so it does in invokespecial
      special_copied : (m : ℕ) → special_number s0 n ≡ Some m → special_number s (copy_member n) ≡ Some (duplicate P m)
      special_copied m f = go (bytes_eq n.name init) refl call.covered
        where
          go : (b : Bool) → bytes_eq n.name init ≡ b → IsCoveredUnless b cs P n → special_number s (copy_member n) ≡ Some (duplicate P m)
          go true t u =
              let r = some_of (number_of s0) (special_method cs d.class n) m f in
              let o = special_some r.0 r.1 in
              S.own_copies n call.plain ((bytes_eq-Decides n.name init).0 t) (init_own t o.0 o.1) m f
          go false t u = S.copies n call.plain u m f

      -- a static call
      pub static_copied : (m : ℕ) → static_call_op s0 n ≡ Some (InvokeStatic m) → static_call_op s (copy_member n) ≡ Some (InvokeStatic (duplicate P m))
      static_copied m f = static_op s (copy_member n) (duplicate P m) (no_get (copy_member n) delegator) (no_function (copy_member n) (context_kept n.descriptor)) (copied m (static_number s0 n m f))

      -- a call by invokespecial
      pub special_op_copied : (m : ℕ) → special_call_op s0 n ≡ Some (InvokeSpecial m) → special_call_op s (copy_member n) ≡ Some (InvokeSpecial (duplicate P m))
      special_op_copied m f = special_op s (copy_member n) (duplicate P m) (no_constructor (copy_member n) (context_kept n.descriptor)) (special_copied m (special_number_of s0 n m f))

      -- a call by invokevirtual
      pub virtual_copied : (m : ℕ) (c : List ℕ) → virtual_call_op s0 n ≡ Some (InvokeVirtual m c) → virtual_call_op s (copy_member n) ≡ Some (InvokeVirtual (duplicate P m) c)
      virtual_copied m c f =
          let v = virtual_of s0 n m c f in
          virtual_op s (copy_member n) (duplicate P m) v.other (copied m v.number) ∙ ap (λ (c : List ℕ). Some (InvokeVirtual (duplicate P m) c)) (L.reads n.class call.plain.class ∙ v.class)

      -- a call by invokeinterface
      pub interface_copied : (m : ℕ) (c : List ℕ) → interface_call_op s0 n ≡ Some (InvokeInterface m c) → interface_call_op s (copy_member n) ≡ Some (InvokeInterface (duplicate P m) c)
      interface_copied m c f =
          let v = interface_of s0 n m c f in
          interface_op s (copy_member n) (duplicate P m) (copied m v.0) ∙ ap (λ (c : List ℕ). Some (InvokeInterface (duplicate P m) c)) v.1
