-- The names of accessors and of the helper's methods lead to these.
use Rattle.std.proofs.Common.{◌≡◌, ℕ, ◌+◌, ◌*◌, List, length, map, Option, Some, None, refl, sym, ap, ◌∙◌, arith}
use Rattle.std.specs.Prelude.{position}
use Rattle.jmodel.specs.declared.name.MethodName.{MethodName}
use Rattle.jmodel.specs.format.ClassFile.{ClassFile}
use Rattle.objects.specs.linking.Classes.{declared_in, full_name}
use Rattle.objects.specs.declared.op.WordType.{WordType}
use Rattle.objects.specs.declared.op.Op.TheVariants.{InvokeStatic}
use Rattle.objects.specs.semantics.Program.{Field, Method, Program, field_at}
use Rattle.objects.specs.linking.Decoding.{Symbols, is_method, method_number, static_call_op}
use Rattle.objects.specs.rewriting.Rewriting.{getter_method, setter_method, getter, setter, duplicate, element_getter, element_setter, helper_place, helper_methods, element_getter_method, element_setter_method}
use Rattle.dup_methods.specs.Names.{getter_named, setter_named, load_named, store_named}
use Rattle.rewritten_names.specs.LeadsLaw.{as_member, Leads}
use Rattle.rewritten_names.proofs.Free.{getter_kept, setter_kept}
use Rattle.rewritten_ties.proofs.HelperNames.{load_place, store_place}
use Rattle.rewritten_ties.proofs.Ops.{static_op}
use Rattle.rewritten_ties.proofs.Texts.{no_function_named, no_get_named}

-- ---- names

-- a getter is named alike in duplicates and in the rewritten program
getter_same : (f : Field) → (getter_method 0 f).name ≡ getter_named f
getter_same f = go f.base refl
  where
    go : (o : Option ℕ) → f.base ≡ o → (getter_method 0 f).name ≡ getter_named f
    go None e = rw e refl
    go (Some b) e = rw e refl

-- so is a setter
setter_same : (f : Field) → (setter_method f).name ≡ setter_named f
setter_same f = go f.base refl
  where
    go : (o : Option ℕ) → f.base ≡ o → (setter_method f).name ≡ setter_named f
    go None e = rw e refl
    go (Some b) e = rw e refl

module _ (cs : List ClassFile) (P : Program) (h : ClassFile) (s0 s : Symbols) (L : Leads cs P h s0 s) where
  -- ---- accessors

  -- the name of a getter calls it
  pub getter_called : (i : ℕ) (f : Field) → field_at P i ≡ Some f → static_call_op s (as_member (getter_named f)) ≡ Some (InvokeStatic (getter P i))
  getter_called i f e =
      static_op s (as_member (getter_named f)) (getter P i) (no_get_named (as_member (getter_named f)) (getter_kept f.name)) (no_function_named (as_member (getter_named f)) (getter_kept f.name))
      (ap (λ (n : MethodName). method_number s (as_member n)) (sym (getter_same f)) ∙ L.getters i f e)

  -- so does that of a setter
  pub setter_called : (i : ℕ) (f : Field) → field_at P i ≡ Some f → static_call_op s (as_member (setter_named f)) ≡ Some (InvokeStatic (setter P i))
  setter_called i f e =
      static_op s (as_member (setter_named f)) (setter P i) (no_get_named (as_member (setter_named f)) (setter_kept f.name)) (no_function_named (as_member (setter_named f)) (setter_kept f.name))
      (ap (λ (n : MethodName). method_number s (as_member n)) (sym (setter_same f)) ∙ L.setters i f e)

  -- ---- the helper

  module _ (names : map full_name (declared_in h h.methods) ≡ map (λ (k : Method). k.name) helper_methods) where
    -- the name of the helper's method that reads an element calls it
    pub load_called : (t : WordType) → static_call_op s (as_member (load_named t)) ≡ Some (InvokeStatic (element_getter P t))
    load_called t =
        static_op s (as_member (load_named t)) (element_getter P t) refl refl
        (L.helpers (as_member (load_named t)) (2 * helper_place t) refl (ap (position (is_method (element_getter_method t).name)) names ∙ load_place t))

    -- so does that of the one that writes
    pub store_called : (t : WordType) → static_call_op s (as_member (store_named t)) ≡ Some (InvokeStatic (element_setter P t))
    store_called t =
        let n : duplicate P (length P.methods) + (2 * helper_place t + 1) ≡ element_setter P t = omega arith in
        static_op s (as_member (store_named t)) (element_setter P t) refl refl
        (L.helpers (as_member (store_named t)) (2 * helper_place t + 1) refl (ap (position (is_method (element_setter_method t).name)) names ∙ store_place t) ∙ ap (λ (n : ℕ). Some n) n)
