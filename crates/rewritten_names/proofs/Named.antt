-- The names of the methods of rewritten classes, in the order of their numbers.
use Rattle.std.proofs.Common.{◌≡◌, ℕ, suc, List, [], ◌∷◌, ◌++◌, map, Option, Some, None, true, false, refl, sym, ap, ◌∙◌, subst}
use Rattle.std.specs.Prelude.{filter, bytes_eq, option_map, not}
use Rattle.std.specs.List.{AllByRecursion, AllZip, flat_map}
use Rattle.std.proofs.lemmas.List.{map-append}
use Rattle.std.proofs.lemmas.List.Elements.{filter-append}
use Rattle.std.proofs.lemmas.Slice.Eq.{bytes_eq-Decides}
use Rattle.jmodel.specs.declared.name.MethodName.{MethodName}
use Rattle.jmodel.specs.format.ClassFile.{ClassFile}
use Rattle.jmodel.specs.format.Pool.{text_or_none}
use Rattle.objects.specs.linking.Members.{own_name}
use Rattle.objects.specs.linking.Classes.{declared_in, full_name}
use Rattle.objects.specs.semantics.Program.{Field, Method, Program}
use Rattle.objects.specs.typing.Source.{IsSource}
use Rattle.objects.specs.linking.Layout.{class_fields, fields_from, fields_of}
use Rattle.objects.specs.laws.LinkingLaw.{AreRead}
use Rattle.objects.specs.rewriting.Relinking.{old_members, accessor_members, duplicate_members, is_helper, rewritten_classes, helper_members, all_old, all_accessors, all_duplicates, all_members}
use Rattle.objects.specs.rewriting.Rewriting.{with_context, duplicate_name, getter_method, setter_method, helper_class}
use Rattle.objects.proofs.Items.{IsAt, all_items, of_filter, of_map}
use Rattle.objects.proofs.Links.{IsLinkedTo}
use Rattle.rewritten_names.specs.Heads.{Head, head_of, heads, name_under, is_numbered, copy_of, added_head, accessor_heads, own_fields, Rewrites, copy_name, accessor_names}
use Rattle.rewritten_names.proofs.Apart.{fields_class}
use Rattle.rewritten_names.proofs.Ways.{IsApart}
use Rattle.rewritten_names.proofs.Blocks.{AreBlocks, joined, whole}
use Rattle.rewritten_names.proofs.Groups.{IsCounted, old_names, all_olds, all_accessors_named, all_copies_named}
use Rattle.rewritten_names.proofs.Ordinary.{all_named, distinct}
use Rattle.rewritten_names.proofs.Free.{is_counted, is_apart, member_named}
use Rattle.rewritten_names.proofs.Lists.{map_map, filter_none, filter_all, append_none, map_flat, turned}

-- ---- lists

map_each : {A B : Type 0} (f g : A → B) (xs : List A) → AllByRecursion (λ x. f x ≡ g x) xs → map f xs ≡ map g xs
map_each f g [] all = refl
map_each f g (x ∷ xs) all = ap (λ (y : _). y ∷ map f xs) all.0 ∙ ap (λ (l : List _). g x ∷ l) (map_each f g xs all.1)

flat_each : {A B : Type 0} (f g : A → List B) (xs : List A) → AllByRecursion (λ x. f x ≡ g x) xs → flat_map f xs ≡ flat_map g xs
flat_each f g [] all = refl
flat_each f g (x ∷ xs) all = ap (λ (l : List _). l ++ flat_map f xs) all.0 ∙ ap (λ (l : List _). g x ++ l) (flat_each f g xs all.1)

-- ---- accessors

names_append : (xs ys : List Field) → accessor_names (xs ++ ys) ≡ accessor_names xs ++ accessor_names ys
names_append [] ys = refl
names_append (f ∷ xs) ys = ap (λ (l : List MethodName). (getter_method 0 f).name ∷ (setter_method f).name ∷ l) (names_append xs ys)

names_flat : {A : Type 0} (g : A → List Field) (xs : List A) → flat_map (λ x. accessor_names (g x)) xs ≡ accessor_names (flat_map g xs)
names_flat g [] = refl
names_flat g (x ∷ xs) = ap (λ (l : List MethodName). accessor_names (g x) ++ l) (names_flat g xs) ∙ sym (names_append (g x) (flat_map g xs))

pub getter_class : (f : Field) → (getter_method 0 f).name.class ≡ f.class
getter_class f = go f.base refl
  where
    go : (o : Option ℕ) → f.base ≡ o → (getter_method 0 f).name.class ≡ f.class
    go None e = rw e refl
    go (Some b) e = rw e refl

pub setter_class : (f : Field) → (setter_method f).name.class ≡ f.class
setter_class f = go f.base refl
  where
    go : (o : Option ℕ) → f.base ≡ o → (setter_method f).name.class ≡ f.class
    go None e = rw e refl
    go (Some b) e = rw e refl

named_under : (class : List ℕ) (n : MethodName) → n.class ≡ class → name_under class (added_head n) ≡ n
named_under class n e = ap (λ (t : List ℕ). record { class = t; name = n.name; descriptor = n.descriptor }) (sym e)

accessors_under : (class : List ℕ) (fs : List Field) → AllByRecursion (λ (f : Field). f.class ≡ class) fs → map (name_under class) (accessor_heads fs) ≡ accessor_names fs
accessors_under class [] all = refl
accessors_under class (f ∷ fs) all =
    let a = named_under class (getter_method 0 f).name (getter_class f ∙ all.0) in
    let b = named_under class (setter_method f).name (setter_class f ∙ all.0) in
    ap (λ (n : MethodName). n ∷ name_under class (added_head (setter_method f).name) ∷ map (name_under class) (accessor_heads fs)) a
    ∙ ap (λ (n : MethodName). (getter_method 0 f).name ∷ n ∷ map (name_under class) (accessor_heads fs)) b
    ∙ ap (λ (l : List MethodName). (getter_method 0 f).name ∷ (setter_method f).name ∷ l) (accessors_under class fs all.1)

own_class : (P : Program) (c : ClassFile) → AllByRecursion (λ (f : Field). f.class ≡ own_name c) (own_fields P c)
own_class P c = all_items (λ (f : Field). f.class ≡ own_name c) (own_fields P c) (λ f at. (bytes_eq-Decides f.class (own_name c)).0 (of_filter (λ (f : Field). bytes_eq f.class (own_name c)) P.fields f at).1)

-- ---- the fields of a program, class by class

abbrev field_blocks : List ClassFile → ℕ → List ClassFile → List (List Field)
field_blocks cs n [] = []
field_blocks cs n (c ∷ ds) = class_fields cs n c ∷ field_blocks cs (suc n) ds

module _ (cs : List ClassFile) where
  are_blocks : (n : ℕ) (ds : List ClassFile) → AreBlocks (λ (f : Field). f.class) ds (field_blocks cs n ds)
  are_blocks n [] = tt
  are_blocks n (d ∷ ds) = (fields_class cs n d, are_blocks (suc n) ds)

  blocks_joined : (n : ℕ) (ds : List ClassFile) → joined (λ (f : Field). f.class) (field_blocks cs n ds) ≡ fields_from cs n ds
  blocks_joined n [] = refl
  blocks_joined n (d ∷ ds) = ap (λ (l : List Field). class_fields cs n d ++ l) (blocks_joined (suc n) ds)

module _ (cs : List ClassFile) (P : Program) (read : AreRead cs) (l : IsLinkedTo cs P) where
  fields_are : P.fields ≡ fields_of cs
  fields_are = ap (λ (P : Program). P.fields) l.is

  own_whole : flat_map (own_fields P) cs ≡ P.fields
  own_whole =
      subst (λ (fs : List Field). flat_map (λ (c : ClassFile). filter (λ (f : Field). bytes_eq f.class (own_name c)) fs) cs ≡ fs) (blocks_joined cs 0 cs ∙ sym fields_are)
      (whole (λ (f : Field). f.class) cs (field_blocks cs 0 cs) (distinct cs P read l) (are_blocks cs 0 cs))

  accessors_whole : flat_map (λ c. map (name_under (own_name c)) (accessor_heads (own_fields P c))) cs ≡ accessor_names P.fields
  accessors_whole =
      flat_each (λ c. map (name_under (own_name c)) (accessor_heads (own_fields P c))) (λ c. accessor_names (own_fields P c)) cs
      (all_items (λ c. map (name_under (own_name c)) (accessor_heads (own_fields P c)) ≡ accessor_names (own_fields P c)) cs (λ c at. accessors_under (own_name c) (own_fields P c) (own_class P c)))
      ∙ names_flat (own_fields P) cs ∙ ap accessor_names own_whole

  -- ---- duplicates

  module _ (src : IsSource P) where
    copy_under : (c : ClassFile) → IsAt cs c → (h : Head) → IsAt (filter (is_numbered P (own_name c)) (heads c.pool c.methods)) h → name_under (own_name c) (copy_of h) ≡ copy_name (name_under (own_name c) h)
    copy_under c at h k =
        let f = of_filter (is_numbered P (own_name c)) (heads c.pool c.methods) h k in
        let m = of_map (head_of c.pool) c.methods h f.0 in
        let n = member_named cs P read l src c at m.0 m.1 in
        let name : h.name ≡ Some n.0.name = ap (λ (h : Head). h.name) (sym m.2) ∙ n.1.name in
        let descriptor : h.descriptor ≡ Some n.0.descriptor = ap (λ (h : Head). h.descriptor) (sym m.2) ∙ n.1.descriptor in
        texts h.name h.descriptor name descriptor
      where
        texts : (o u : Option (List ℕ)) {x y : List ℕ} → o ≡ Some x → u ≡ Some y
            → record { class = own_name c; name = text_or_none (option_map duplicate_name o); descriptor = text_or_none (option_map with_context u) } ≡ copy_name (record { class = own_name c; name = text_or_none o; descriptor = text_or_none u })
        texts None u e f = cc
        texts (Some a) None e f = cc
        texts (Some a) (Some b) e f = refl

    copies_under : (c : ClassFile) → IsAt cs c → map (name_under (own_name c)) (map copy_of (filter (is_numbered P (own_name c)) (heads c.pool c.methods))) ≡ map copy_name (map full_name (old_members P c))
    copies_under c at =
        map_map copy_of (name_under (own_name c)) (filter (is_numbered P (own_name c)) (heads c.pool c.methods))
        ∙ map_each (λ h. name_under (own_name c) (copy_of h)) (λ h. copy_name (name_under (own_name c) h)) (filter (is_numbered P (own_name c)) (heads c.pool c.methods))
        (all_items (λ h. name_under (own_name c) (copy_of h) ≡ copy_name (name_under (own_name c) h)) (filter (is_numbered P (own_name c)) (heads c.pool c.methods)) (copy_under c at))
        ∙ sym (map_map (name_under (own_name c)) copy_name (filter (is_numbered P (own_name c)) (heads c.pool c.methods))) ∙ ap (map copy_name) (sym (old_names P c))

    copies_whole : flat_map (λ c. map (name_under (own_name c)) (map copy_of (filter (is_numbered P (own_name c)) (heads c.pool c.methods)))) cs ≡ map copy_name (map (λ (k : Method). k.name) P.methods)
    copies_whole =
        flat_each (λ c. map (name_under (own_name c)) (map copy_of (filter (is_numbered P (own_name c)) (heads c.pool c.methods)))) (λ c. map copy_name (map full_name (old_members P c))) cs
        (all_items (λ c. map (name_under (own_name c)) (map copy_of (filter (is_numbered P (own_name c)) (heads c.pool c.methods))) ≡ map copy_name (map full_name (old_members P c))) cs copies_under)
        ∙ sym (map_flat copy_name (λ c. map full_name (old_members P c)) cs) ∙ ap (map copy_name) (sym (map_flat full_name (old_members P) cs) ∙ all_named cs P read l)

    -- ---- all of them

    module _ (ds : List ClassFile) (h : ClassFile) (R : AllZip (Rewrites P) cs ds) (helper : own_name h ≡ helper_class) where
      counted : AllByRecursion (IsCounted P) cs
      counted = all_items (IsCounted P) cs (is_counted cs P read l src)

      apart : (xs ys : List ClassFile) → AllByRecursion IsApart xs → AllZip (Rewrites P) xs ys → AllByRecursion (λ d. is_helper d ≡ false) ys
      apart [] [] a z = tt
      apart [] (y ∷ ys) a z = absurd z
      apart (x ∷ xs) [] a z = absurd z
      apart (x ∷ xs) (y ∷ ys) a z = (turned helper_class (own_name y) (ap (bytes_eq helper_class) z.0.own ∙ a.0.own), apart xs ys a.1 z.1)

      others : AllByRecursion (λ d. is_helper d ≡ false) ds
      others = apart cs ds (all_items IsApart cs (is_apart cs P read l)) R

      is_helper_h : is_helper h ≡ true
      is_helper_h = (bytes_eq-Decides (own_name h) helper_class).1 helper

      each_not : (xs : List ClassFile) → AllByRecursion (λ d. is_helper d ≡ false) xs → AllByRecursion (λ d. not (is_helper d) ≡ true) xs
      each_not [] all = tt
      each_not (x ∷ xs) all = (ap not all.0, each_not xs all.1)

      pub classes_are : rewritten_classes (ds ++ h ∷ []) ≡ ds
      classes_are =
          filter-append (λ c. not (is_helper c)) ds (h ∷ [])
          ∙ ap (λ (l : List ClassFile). l ++ filter (λ c. not (is_helper c)) (h ∷ [])) (filter_all (λ c. not (is_helper c)) ds (each_not ds others))
          ∙ ap (λ (l : List ClassFile). ds ++ l) (filter_none (λ c. not (is_helper c)) (h ∷ []) (ap not is_helper_h, tt)) ∙ append_none ds

      helpers : filter is_helper (ds ++ h ∷ []) ≡ h ∷ []
      helpers = filter-append is_helper ds (h ∷ []) ∙ ap (λ (l : List ClassFile). l ++ filter is_helper (h ∷ [])) (filter_none is_helper ds others) ∙ filter_all is_helper (h ∷ []) (is_helper_h, tt)

      -- behind the names of the program's methods stand those of accessors, of duplicates, and of the helper's methods
      pub names_are : map full_name (all_members P (ds ++ h ∷ []))
          ≡ (map (λ (k : Method). k.name) P.methods ++ accessor_names P.fields) ++ map copy_name (map (λ (k : Method). k.name) P.methods) ++ map full_name (declared_in h h.methods)
      names_are =
          map-append full_name (all_old P (ds ++ h ∷ []) ++ all_accessors P (ds ++ h ∷ []) ++ all_duplicates P (ds ++ h ∷ [])) (helper_members (ds ++ h ∷ []))
          ∙ ap (λ (l : List MethodName). l ++ map full_name (helper_members (ds ++ h ∷ []))) (
          map-append full_name (all_old P (ds ++ h ∷ []) ++ all_accessors P (ds ++ h ∷ [])) (all_duplicates P (ds ++ h ∷ []))
          ∙ ap (λ (l : List MethodName). l ++ map full_name (all_duplicates P (ds ++ h ∷ []))) (
          map-append full_name (all_old P (ds ++ h ∷ [])) (all_accessors P (ds ++ h ∷ []))
          ∙ ap (λ (l : List MethodName). l ++ map full_name (all_accessors P (ds ++ h ∷ []))) olds
          ∙ ap (λ (l : List MethodName). map (λ (k : Method). k.name) P.methods ++ l) accessors)
          ∙ ap (λ (l : List MethodName). (map (λ (k : Method). k.name) P.methods ++ accessor_names P.fields) ++ l) copies)
          ∙ ap (λ (l : List MethodName). (map (λ (k : Method). k.name) P.methods ++ accessor_names P.fields) ++ map copy_name (map (λ (k : Method). k.name) P.methods) ++ l) last
        where
          olds : map full_name (all_old P (ds ++ h ∷ [])) ≡ map (λ (k : Method). k.name) P.methods
          olds = ap (λ (l : List ClassFile). map full_name (flat_map (old_members P) l)) classes_are ∙ all_olds P cs ds R counted ∙ all_named cs P read l

          accessors : map full_name (all_accessors P (ds ++ h ∷ [])) ≡ accessor_names P.fields
          accessors = ap (λ (l : List ClassFile). map full_name (flat_map (accessor_members P) l)) classes_are ∙ all_accessors_named P cs ds R counted ∙ accessors_whole

          copies : map full_name (all_duplicates P (ds ++ h ∷ [])) ≡ map copy_name (map (λ (k : Method). k.name) P.methods)
          copies = ap (λ (l : List ClassFile). map full_name (flat_map (duplicate_members P) l)) classes_are ∙ all_copies_named P cs ds R counted ∙ copies_whole

          last : map full_name (helper_members (ds ++ h ∷ [])) ≡ map full_name (declared_in h h.methods)
          last = ap (λ (l : List ClassFile). map full_name (flat_map (λ (c : ClassFile). declared_in c c.methods) l)) helpers ∙ ap (map full_name) (append_none (declared_in h h.methods))
