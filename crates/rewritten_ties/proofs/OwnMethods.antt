-- The name of a taken method, and that of its duplicate, lead to these, also where a superclass declares it.
use Rattle.std.proofs.Common.{◌≡◌, ℕ, List, [], ◌∷◌, ◌++◌, map, Option, Some, None, Bool, true, false, not, ◌&&◌, refl, sym, ap, ◌∙◌, subst}
use Rattle.std.specs.Prelude.{bytes_eq, codes, slice_get, position, find, option_map, option_and_then, if◌then◌else◌}
use Rattle.std.specs.List.{flat_map, list_any}
use Rattle.std.specs.Option.{option_or}
use Rattle.std.proofs.lemmas.List.Folds.{find-append}
use Rattle.std.proofs.lemmas.Slice.Eq.{bytes_eq-Decides}
use Rattle.jmodel.specs.declared.name.MethodName.{MethodName}
use Rattle.jmodel.specs.format.ClassFile.{Member, ClassFile}
use Rattle.jmodel.specs.format.Pool.{MemberName}
use Rattle.objects.specs.linking.Members.{own_name}
use Rattle.objects.specs.linking.Superclasses.{class_named, super_name, with_above, lineage}
use Rattle.objects.specs.linking.Classes.{Declared, declared_in, methods_in, full_name}
use Rattle.objects.specs.linking.Taken.{is_taken}
use Rattle.objects.specs.linking.Code.{Coded}
use Rattle.objects.specs.declared.op.Op.TheVariants.{InvokeStatic, InvokeSpecial}
use Rattle.objects.specs.semantics.Program.{Method, Program, method_at}
use Rattle.objects.specs.linking.Resolution.{interface_names, ancestry, has_name, method_way, is_properly_above, from_above, resolved_method, special_method}
use Rattle.objects.specs.linking.Decoding.{Symbols, is_method, number_of, method_number, static_call_op, special_call_op}
use Rattle.objects.specs.linking.Linking.{taken_methods, original_symbols}
use Rattle.objects.specs.laws.LinkingLaw.{AreRead, IsUpward}
use Rattle.objects.specs.rewriting.Relinking.{rewritten_symbols}
use Rattle.objects.specs.rewriting.Rewriting.{duplicate}
use Rattle.objects.proofs.AsRead.{not_named}
use Rattle.objects.proofs.DeclaredMembers.{HasName, of_methods, name_of_member, has_its_name, by_own_name, full_has_name}
use Rattle.objects.proofs.Items.{IsAt, into_map, of_map, of_filter, found, finds, placed}
use Rattle.objects.proofs.Links.{IsLinkedTo, IsMeant, IsFrom, method_from}
use Rattle.objects.proofs.TakenMembers.{in_methods}
use Rattle.rewritten_names.specs.Heads.{Rewrites, copy_name}
use Rattle.rewritten_names.specs.NamesLaw.{method_names, names_behind, NamesAre}
use Rattle.rewritten_names.specs.LeadsLaw.{IsPlain, IsOwn, as_member, copy_member, special_number, Leads}
use Rattle.rewritten_names.proofs.Free.{text_free, is_apart}
use Rattle.rewritten_names.proofs.Lists.{some_of}
use Rattle.rewritten_names.proofs.Ordinary.{numbered_taken, distinct, program_names, method_same}
use Rattle.rewritten_names.proofs.Resolved.{context_kept}
use Rattle.rewritten_ties.proofs.Distinct.{taken_new, place_named}
use Rattle.rewritten_ties.proofs.FullNames.{full_is}
use Rattle.rewritten_ties.proofs.Ops.{static_op, special_op}
use Rattle.rewritten_ties.proofs.Texts.{no_function, no_constructor, no_get}

module _ (cs : List ClassFile) (P : Program) (read : AreRead cs) (l : IsLinkedTo cs P) (up : IsUpward cs) (c : ClassFile) (at : IsAt cs c) (j : ℕ) (m : Member) (taken : slice_get (taken_methods cs) j ≡ Some (record { class = c; member = m })) where
  abbrev k0 : Declared
  k0 = record { class = c; member = m }

  abbrev n : MemberName
  n = as_member (full_name k0)

  -- it is a method of the folder
  in_all : IsAt (methods_in cs) k0
  in_all = in_methods cs k0 (j, taken)

  -- and of its class
  inside : IsAt c.methods m
  inside = (of_methods cs k0 in_all).1

  -- it has its name
  has : HasName k0 n
  has = full_has_name cs read k0 n in_all refl refl

  -- its name is plain
  plain : IsPlain n
  plain = record { class = (is_apart cs P read l c at).own; name = text_free cs P read l c at m.name; descriptor = text_free cs P read l c at m.descriptor }

  -- its class has it
  own : IsOwn cs P n
  own = record {
    place = at.0;
    class = c;
    there = at.1;
    named = refl;
    index = inside.0;
    member = m;
    inside = inside.1;
    has = has_its_name n k0 has;
    numbered = numbered_taken cs P read l k0 in_all ∙ (of_filter (is_taken cs) (methods_in cs) k0 (j, taken)).1;
  }

  -- its number among those that are taken
  number_in : position (is_method (full_name k0)) (map full_name (taken_methods cs)) ≡ Some j
  number_in = place_named (taken_methods cs) (taken_new cs read (distinct cs P read l)) j k0 taken

  -- its name leads to it
  own_number : method_number (original_symbols cs c) n ≡ Some j
  own_number =
      let here : class_named cs (own_name c) ≡ Some c = by_own_name cs read c at in
      let line : lineage cs (own_name c) ≡ c ∷ lineage cs (super_name c) = up.supers (own_name c) ∙ ap (with_above (λ c. lineage cs (super_name c))) here in
      let rest = lineage cs (super_name c) ++ flat_map (λ c. flat_map (ancestry cs) (interface_names c)) (lineage cs (own_name c)) in
      let way : method_way cs (own_name c) ≡ c ∷ rest = ap (λ (ws : List ClassFile). ws ++ flat_map (λ c. flat_map (ancestry cs) (interface_names c)) (lineage cs (own_name c))) line in
      let one = finds (has_name n) (declared_in c c.methods) k0 (into_map (λ (m : Member). record { class = c; member = m }) c.methods m inside) (has_its_name n k0 has) in
      let resolved : resolved_method cs n ≡ Some one.0 =
      ap (λ (ws : List ClassFile). find (has_name n) (methods_in ws)) way ∙ find-append (has_name n) (declared_in c c.methods) (methods_in rest) ∙ ap (λ (u : Option Declared). option_or u (find (has_name n) (methods_in rest))) one.1 in
      let f = found (has_name n) (declared_in c c.methods) one.0 one.1 in
      let o = of_map (λ (m : Member). record { class = c; member = m }) c.methods one.0 f.0 in
      let h : HasName one.0 n = name_of_member n one.0 f.1 in
      let full : full_name one.0 ≡ full_name k0 = full_is one.0 n (own_name c) h (ap (λ (k : Declared). own_name k.class) (sym o.2)) in
      ap (option_and_then (number_of (original_symbols cs c))) resolved ∙ ap (λ (k : MethodName). position (is_method k) (map full_name (taken_methods cs))) full ∙ number_in

  -- ---- among rewritten classes

  module _ (ds : List ClassFile) (h d : ClassFile) (r : Rewrites P c d) (N : NamesAre P ds h) (L : Leads cs P h (original_symbols cs c) (rewritten_symbols P cs (ds ++ h ∷ []) d)) where
    abbrev all : List ClassFile
    all = ds ++ h ∷ []

    abbrev s : Symbols
    s = rewritten_symbols P cs all d

    abbrev more : List MethodName
    more = map full_name (declared_in h h.methods)

    -- the name of its duplicate leads to the duplicate
    copied : method_number s (copy_member n) ≡ Some (duplicate P j)
    copied = L.own_copies n plain own j own_number

    -- what the name of its duplicate leads to is a method of the class
    copy_there : (k : Declared) × (resolved_method all (copy_member n) ≡ Some k) × (number_of s k ≡ Some (duplicate P j)) × (own_name k.class ≡ own_name d)
    copy_there =
        let f = some_of (number_of s) (resolved_method all (copy_member n)) (duplicate P j) copied in
        let named : IsAt (method_names P) (full_name k0) = subst (λ (ns : List MethodName). IsAt ns (full_name k0)) (sym (program_names cs P read l)) (into_map full_name (taken_methods cs) k0 (j, taken)) in
        let number : position (is_method (full_name k0)) (method_names P) ≡ Some j = ap (position (is_method (full_name k0))) (program_names cs P read l) ∙ number_in in
        let x = placed (is_method (full_name f.0)) (names_behind P more) (duplicate P j) (ap (position (is_method (full_name f.0))) (sym N.are) ∙ f.2) in
        let y = placed (is_method (copy_name (full_name k0))) (names_behind P more) (duplicate P j) (N.numbered.copies (full_name k0) named j number) in
        let one : Some x.0 ≡ Some y.0 = sym x.1 ∙ y.1 in
        let same : x.0 ≡ y.0 = cc in
        let name : full_name f.0 ≡ copy_name (full_name k0) = sym (method_same (full_name f.0) x.0 x.2) ∙ same ∙ method_same (copy_name (full_name k0)) y.0 y.2 in
        (f.0, f.1, f.2, ap (λ (n : MethodName). n.class) name ∙ sym r.own)

    -- so it does in invokespecial
    special_copied : special_number s (copy_member n) ≡ Some (duplicate P j)
    special_copied =
        let f = copy_there in
        let same : bytes_eq (own_name d) (own_name f.0.class) ≡ true = (bytes_eq-Decides (own_name d) (own_name f.0.class)).1 (sym f.3) in
        let below : is_properly_above all d (own_name f.0.class) ≡ false = ap (λ (b : Bool). not b && list_any (λ (x : ClassFile). bytes_eq (own_name x) (own_name f.0.class)) (lineage all (own_name d))) same in
        let itself : special_method all d (copy_member n) ≡ Some f.0 =
        ap (option_map (λ (k : Declared). if not (bytes_eq (copy_member n).name (codes "<init>")) && is_properly_above all d (own_name k.class) then from_above all d (copy_member n) k else k)) f.1
        ∙ ap (λ (b : Bool). Some (if not (bytes_eq (copy_member n).name (codes "<init>")) && b then from_above all d (copy_member n) f.0 else f.0)) below
        ∙ ap (λ (b : Bool). Some (if b then from_above all d (copy_member n) f.0 else f.0)) (last (not (bytes_eq (copy_member n).name (codes "<init>")))) in
        ap (option_and_then (number_of s)) itself ∙ f.2
      where
        last : (a : Bool) → (a && false) ≡ false
        last true = refl
        last false = refl

    -- its class isn't the context's delegator
    delegator : bytes_eq (own_name c) (codes "org/deuce/transaction/ContextDelegator") ≡ false
    delegator = go (bytes_eq (own_name c) (codes "org/deuce/transaction/ContextDelegator")) refl
      where
        go : (b : Bool) → bytes_eq (own_name c) (codes "org/deuce/transaction/ContextDelegator") ≡ b → b ≡ false
        go true e =
            let fall : Some c ≡ None = sym (by_own_name cs read c at) ∙ ap (class_named cs) ((bytes_eq-Decides (own_name c) (codes "org/deuce/transaction/ContextDelegator")).0 e) ∙ not_named cs read (codes "org/deuce/transaction/ContextDelegator") refl in
            cc
        go false e = refl

    -- calls of its duplicate
    pub static_called : static_call_op s (copy_member n) ≡ Some (InvokeStatic (duplicate P j))
    static_called = static_op s (copy_member n) (duplicate P j) (no_get (copy_member n) delegator) (no_function (copy_member n) (context_kept n.descriptor)) copied

    -- by invokespecial
    pub special_called : special_call_op s (copy_member n) ≡ Some (InvokeSpecial (duplicate P j))
    special_called = special_op s (copy_member n) (duplicate P j) (no_constructor (copy_member n) (context_kept n.descriptor)) special_copied

  -- ---- what it means

  -- the program's method is what the member means
  pub its_meaning : (k : Method) → method_at P j ≡ Some k → (o : Option Coded) × IsMeant cs k0 o k
  its_meaning k e =
      let f : IsFrom cs j k = method_from cs P l j k e in
      let one : Some f.member ≡ Some k0 = sym f.there ∙ taken in
      let same : f.member ≡ k0 = cc in
      (f.code, subst (λ (d : Declared). IsMeant cs d f.code k) same f.meant)
