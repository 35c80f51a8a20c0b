-- Nothing that is added to a class has a name of an original method, and no original class has the helper's name.
use Rattle.std.proofs.Common.{◌≡◌, ℕ, List, [], ◌∷◌, ◌++◌, map, Option, Some, None, Bool, true, false, ◌||◌, refl, sym, ap, ◌∙◌}
use Rattle.std.specs.Prelude.{filter, bytes_eq, codes, option_map}
use Rattle.std.specs.List.{AllByRecursion, list_any}
use Rattle.std.proofs.lemmas.Slice.Eq.{bytes_eq-Decides}
use Rattle.jmodel.specs.declared.name.MethodName.{MethodName}
use Rattle.jmodel.specs.format.ClassFile.{Member, ClassFile}
use Rattle.jmodel.specs.format.Pool.{utf8, class_name, MemberName, text_or_none}
use Rattle.objects.specs.linking.Reserved.{has_part, is_reserved}
use Rattle.objects.specs.linking.Members.{own_name}
use Rattle.objects.specs.linking.Superclasses.{super_name}
use Rattle.objects.specs.linking.Classes.{declared_in}
use Rattle.objects.specs.semantics.Program.{Field, Method, Program}
use Rattle.objects.specs.typing.Source.{IsSource}
use Rattle.objects.specs.linking.Decoding.{is_method}
use Rattle.objects.specs.laws.LinkingLaw.{AreRead}
use Rattle.objects.specs.rewriting.Rewriting.{with_context, helper_class, getter_method, setter_method}
use Rattle.objects.proofs.Items.{IsAt, all_items, of_filter, of_map, into_map, into_flat, any_item}
use Rattle.objects.proofs.AsRead.{name_entry, unreserved}
use Rattle.objects.proofs.DeclaredMembers.{HasName, of_methods, full_has_name}
use Rattle.objects.proofs.LinkedTypes.{found_part}
use Rattle.objects.proofs.Links.{IsLinkedTo, method_from}
use Rattle.objects.proofs.TakenMembers.{in_methods}
use Rattle.rewritten_names.specs.Heads.{Head, head_of, heads, name_under, is_numbered, copy_of, added_head, accessor_heads, own_fields}
use Rattle.rewritten_names.proofs.Ways.{IsOther, IsApart}
use Rattle.rewritten_names.proofs.Groups.{IsCounted}
use Rattle.rewritten_names.proofs.Ordinary.{method_same, many}
use Rattle.rewritten_names.proofs.Lists.{append_none, clash}

-- ---- names that rewriting keeps for itself

third : (a b c d e f : Bool) → c ≡ true → (a || b || c || d || e || f) ≡ true
third true b c d e f h = refl
third false true c d e f h = refl
third false false true d e f h = refl
third false false false d e f h = cc

fourth : (a b c d e f : Bool) → d ≡ true → (a || b || c || d || e || f) ≡ true
fourth true b c d e f h = refl
fourth false true c d e f h = refl
fourth false false true d e f h = refl
fourth false false false true e f h = refl
fourth false false false false e f h = cc

pub getter_part : (n : List ℕ) → has_part (codes "__Getter$") (n ++ codes "__Getter$") ≡ true
getter_part n = ap (has_part (codes "__Getter$")) (ap (λ (l : List ℕ). n ++ l) (sym (append_none (codes "__Getter$")))) ∙ found_part 95 (codes "_Getter$") n []

pub setter_part : (n : List ℕ) → has_part (codes "__Setter$") (n ++ codes "__Setter$") ≡ true
setter_part n = ap (has_part (codes "__Setter$")) (ap (λ (l : List ℕ). n ++ l) (sym (append_none (codes "__Setter$")))) ∙ found_part 95 (codes "_Setter$") n []

pub getter_kept : (n : List ℕ) → is_reserved (n ++ codes "__Getter$") ≡ true
getter_kept n =
    let part = getter_part n in
    let text = n ++ codes "__Getter$" in
    third (has_part (codes "org/deuce/transaction/") text) (has_part (codes "__ADDRESS__") text) (has_part (codes "__Getter$") text) (has_part (codes "__Setter$") text) (has_part (codes "__CLASS_BASE__") text) (has_part (codes "__CLINIT__") text) part

pub setter_kept : (n : List ℕ) → is_reserved (n ++ codes "__Setter$") ≡ true
setter_kept n =
    let part = setter_part n in
    let text = n ++ codes "__Setter$" in
    fourth (has_part (codes "org/deuce/transaction/") text) (has_part (codes "__ADDRESS__") text) (has_part (codes "__Getter$") text) (has_part (codes "__Setter$") text) (has_part (codes "__CLASS_BASE__") text) (has_part (codes "__CLINIT__") text) part

pub getter_name : (n : ℕ) (f : Field) → (getter_method n f).name.name ≡ f.name ++ codes "__Getter$"
getter_name n f = go f.base refl
  where
    go : (o : Option ℕ) → f.base ≡ o → (getter_method n f).name.name ≡ f.name ++ codes "__Getter$"
    go None e = rw e refl
    go (Some b) e = rw e refl

pub setter_name : (f : Field) → (setter_method f).name.name ≡ f.name ++ codes "__Setter$"
setter_name f = go f.base refl
  where
    go : (o : Option ℕ) → f.base ≡ o → (setter_method f).name.name ≡ f.name ++ codes "__Setter$"
    go None e = rw e refl
    go (Some b) e = rw e refl

-- a name that isn't kept is another than the helper's
pub other : (n : List ℕ) → is_reserved n ≡ false → IsOther n
other n free = go (bytes_eq helper_class n) refl
  where
    go : (b : Bool) → bytes_eq helper_class n ≡ b → b ≡ false
    go true e = let kept : is_reserved n ≡ true = ap is_reserved (sym ((bytes_eq-Decides helper_class n).0 e)) in absurd (clash (is_reserved n) kept free)
    go false e = refl

module _ (cs : List ClassFile) (P : Program) (read : AreRead cs) (l : IsLinkedTo cs P) where
  -- ---- texts of classes

  pub text_free : (c : ClassFile) → IsAt cs c → (i : ℕ) → is_reserved (text_or_none (utf8 c.pool i)) ≡ false
  text_free c at i = go (utf8 c.pool i) refl
    where
      go : (o : Option (List ℕ)) → utf8 c.pool i ≡ o → is_reserved (text_or_none o) ≡ false
      go None e = refl
      go (Some t) e = unreserved cs read c at i t e

  class_free : (c : ClassFile) → IsAt cs c → (i : ℕ) → is_reserved (text_or_none (class_name c.pool i)) ≡ false
  class_free c at i = go (class_name c.pool i) refl
    where
      go : (o : Option (List ℕ)) → class_name c.pool i ≡ o → is_reserved (text_or_none o) ≡ false
      go None e = refl
      go (Some t) e = let k = name_entry c.pool i t e in unreserved cs read c at k.index t k.text

  pub is_apart : (c : ClassFile) → IsAt cs c → IsApart c
  is_apart c at = record {
    own = other (own_name c) (class_free c at c.this_class);
    above = other (super_name c) (class_free c at c.super_class);
    interfaces = all_other c.interfaces;
  }
    where
      all_other : (is : List ℕ) → AllByRecursion IsOther (map (λ i. text_or_none (class_name c.pool i)) is)
      all_other [] = tt
      all_other (i ∷ is) = (other (text_or_none (class_name c.pool i)) (class_free c at i), all_other is)

  -- ---- methods of the program

  pub method_free : (k : Method) → IsAt P.methods k → is_reserved k.name.name ≡ false
  method_free k at =
      let f = method_from cs P l at.0 k at.1 in
      let p = of_methods cs f.member (in_methods cs f.member (at.0, f.there)) in
      ap (λ (k : Method). is_reserved k.name.name) f.meant.is ∙ text_free f.member.class p.0 f.member.member.name

  all_free : AllByRecursion (λ (k : Method). is_reserved k.name.name ≡ false) P.methods
  all_free = all_items (λ (k : Method). is_reserved k.name.name ≡ false) P.methods method_free

  pub not_numbered : (class : List ℕ) (h : Head) (t : List ℕ) → h.name ≡ Some t → is_reserved t ≡ true → is_numbered P class h ≡ false
  not_numbered class h t named kept = go P.methods all_free
    where
      one : (k : Method) → is_reserved k.name.name ≡ false → is_method (name_under class h) k.name ≡ false
      one k free = by (is_method (name_under class h) k.name) refl
        where
          by : (b : Bool) → is_method (name_under class h) k.name ≡ b → b ≡ false
          by true e =
              let same : k.name.name ≡ t = ap (λ (n : MethodName). n.name) (method_same (name_under class h) k.name e) ∙ ap text_or_none named in
              absurd (clash (is_reserved k.name.name) (ap is_reserved same ∙ kept) free)
          by false e = refl

      go : (ks : List Method) → AllByRecursion (λ (k : Method). is_reserved k.name.name ≡ false) ks → list_any (λ (o : Method). is_method (name_under class h) o.name) ks ≡ false
      go [] all = refl
      go (k ∷ ks) all = let e = one k all.0 in rw e (go ks all.1)

  accessors_free : (class : List ℕ) (fs : List Field) → AllByRecursion (λ h. is_numbered P class h ≡ false) (accessor_heads fs)
  accessors_free class [] = tt
  accessors_free class (f ∷ fs) = (
    not_numbered class (added_head (getter_method 0 f).name) (getter_method 0 f).name.name refl (ap is_reserved (getter_name 0 f) ∙ getter_kept f.name),
    (
      not_numbered class (added_head (setter_method f).name) (setter_method f).name.name refl (ap is_reserved (setter_name f) ∙ setter_kept f.name),
      accessors_free class fs,
    ),
  )

  -- ---- duplicates

  module _ (src : IsSource P) where
    -- a member that is numbered has the name of a method
    numbered_named : (class : List ℕ) (h : Head) → is_numbered P class h ≡ true → (o : Method) × IsAt P.methods o × (o.name ≡ name_under class h)
    numbered_named class h e = let a = any_item (λ (o : Method). is_method (name_under class h) o.name) P.methods e in (a.0, a.1, method_same (name_under class h) a.0.name a.2)

    -- members of class files have names and descriptors
    pub member_named : (c : ClassFile) → IsAt cs c → (m : Member) → IsAt c.methods m → (n : MemberName) × HasName (record { class = c; member = m }) n
    member_named c at m h =
        let n : MemberName = record { class = own_name c; name = text_or_none (utf8 c.pool m.name); descriptor = text_or_none (utf8 c.pool m.descriptor) } in
        let declared = into_map (λ (m : Member). record { class = c; member = m }) c.methods m h in
        (n, full_has_name cs read (record { class = c; member = m }) n (into_flat (λ (c : ClassFile). declared_in c c.methods) cs c (record { class = c; member = m }) at declared) refl refl)

    copy_free : (c : ClassFile) → IsAt cs c → (m : Member) → IsAt c.methods m → is_numbered P (own_name c) (head_of c.pool m) ≡ true → is_numbered P (own_name c) (copy_of (head_of c.pool m)) ≡ false
    copy_free c at m h is = go (is_numbered P (own_name c) (copy_of (head_of c.pool m))) refl
      where
        go : (b : Bool) → is_numbered P (own_name c) (copy_of (head_of c.pool m)) ≡ b → b ≡ false
        go true e =
            let a = numbered_named (own_name c) (head_of c.pool m) is in
            let b = numbered_named (own_name c) (copy_of (head_of c.pool m)) e in
            let n = member_named c at m h in
            let old : a.0.name.descriptor ≡ n.0.descriptor = ap (λ (n : MethodName). n.descriptor) a.2 ∙ ap text_or_none n.1.descriptor in
            let new : b.0.name.descriptor ≡ with_context n.0.descriptor = ap (λ (n : MethodName). n.descriptor) b.2 ∙ ap (λ (o : Option (List ℕ)). text_or_none (option_map with_context o)) n.1.descriptor in
            absurd (src.names.apart a.1.0 b.1.0 a.0 b.0 a.1.1 b.1.1 (ap with_context old ∙ sym new))
        go false e = refl

    copies_free : (c : ClassFile) → IsAt cs c → AllByRecursion (λ h. is_numbered P (own_name c) h ≡ false) (map copy_of (filter (is_numbered P (own_name c)) (heads c.pool c.methods)))
    copies_free c at = all_items (λ h. is_numbered P (own_name c) h ≡ false) (map copy_of (filter (is_numbered P (own_name c)) (heads c.pool c.methods))) one
      where
        one : (h : Head) → IsAt (map copy_of (filter (is_numbered P (own_name c)) (heads c.pool c.methods))) h → is_numbered P (own_name c) h ≡ false
        one h k =
            let g = of_map copy_of (filter (is_numbered P (own_name c)) (heads c.pool c.methods)) h k in
            let f = of_filter (is_numbered P (own_name c)) (heads c.pool c.methods) g.0 g.1 in
            let m = of_map (head_of c.pool) c.methods g.0 f.0 in
            ap (is_numbered P (own_name c)) (sym g.2 ∙ ap copy_of (sym m.2)) ∙ copy_free c at m.0 m.1 (ap (is_numbered P (own_name c)) m.2 ∙ f.1)

    pub is_counted : (c : ClassFile) → IsAt cs c → IsCounted P c
    is_counted c at = record { accessors = accessors_free (own_name c) (own_fields P c); copies_free = copies_free c at; many = many cs P read l c at }
