-- The numbers that names of methods have among rewritten classes.
use Rattle.std.proofs.Common.{◌≡◌, ℕ, ◌+◌, ◌*◌, List, [], ◌∷◌, ◌++◌, length, map, Some, Bool, true, false, refl, sym, ap, ◌∙◌, subst, arith, length-append}
use Rattle.std.specs.Prelude.{bytes_eq, codes, slice_get, position}
use Rattle.std.specs.List.{AllByRecursion, list_any}
use Rattle.std.proofs.lemmas.List.{length-map}
use Rattle.std.proofs.lemmas.Slice.Eq.{bytes_eq-Decides}
use Rattle.jmodel.specs.declared.name.MethodName.{MethodName}
use Rattle.jmodel.specs.format.ClassFile.{ClassFile}
use Rattle.objects.specs.linking.Reserved.{has_part, is_reserved}
use Rattle.objects.specs.linking.Members.{own_name}
use Rattle.objects.specs.semantics.Program.{Field, Method, Program, field_at}
use Rattle.objects.specs.typing.Source.{IsSource}
use Rattle.objects.specs.linking.Decoding.{is_method}
use Rattle.objects.specs.laws.LinkingLaw.{AreRead}
use Rattle.objects.specs.rewriting.Rewriting.{duplicate_name, helper_class, getter_method, setter_method, getter, setter, duplicate}
use Rattle.objects.proofs.Items.{IsAt, all_items, of_map}
use Rattle.objects.proofs.DeclaredMembers.{of_methods}
use Rattle.objects.proofs.LinkedFields.{field_from}
use Rattle.objects.proofs.Links.{IsLinkedTo, method_from}
use Rattle.objects.proofs.TakenMembers.{in_methods}
use Rattle.rewritten_names.specs.Heads.{added_head, copy_name, accessor_names}
use Rattle.rewritten_names.specs.NamesLaw.{names_behind, AreNumbered}
use Rattle.rewritten_names.proofs.Ways.{IsOther}
use Rattle.rewritten_names.proofs.Accessors.{getter_placed, setter_placed, accessors_long}
use Rattle.rewritten_names.proofs.Apart.{fields_apart}
use Rattle.rewritten_names.proofs.Free.{is_apart, method_free, not_numbered, getter_part, setter_part, getter_kept, setter_kept, getter_name, setter_name}
use Rattle.rewritten_names.proofs.Named.{getter_class, setter_class}
use Rattle.rewritten_names.proofs.Numbers.{position_front, position_back, differs, copy_apart, copy_placed}
use Rattle.rewritten_names.proofs.Lists.{all_both, clash, either_false}

none_any : (n : MethodName) (ks : List Method) → list_any (λ (o : Method). is_method n o.name) ks ≡ false → AllByRecursion (λ k. is_method n k ≡ false) (map (λ (k : Method). k.name) ks)
none_any n [] e = tt
none_any n (k ∷ ks) e = let a = either_false (is_method n k.name) (list_any (λ (o : Method). is_method n o.name) ks) e in (a.0, none_any n ks a.1)

all_mapped : {A B : Type 0} (f : A → B) (Rule : B → Type 0) (xs : List A) → AllByRecursion (λ x. Rule (f x)) xs → AllByRecursion Rule (map f xs)
all_mapped f Rule [] h = tt
all_mapped f Rule (x ∷ xs) h = (h.0, all_mapped f Rule xs h.1)

all_names : (Rule : MethodName → Type 0) (fs : List Field) → AllByRecursion (λ f. Rule (getter_method 0 f).name × Rule (setter_method f).name) fs → AllByRecursion Rule (accessor_names fs)
all_names Rule [] h = tt
all_names Rule (f ∷ fs) h = (h.0.0, (h.0.1, all_names Rule fs h.1))

-- a name that ends as an accessor's is no name of a duplicate
pub not_copy : (end name t : List ℕ) → has_part end (codes "__CLINIT__") ≡ false → has_part end t ≡ true → is_reserved t ≡ true → is_reserved name ≡ false → duplicate_name name ≡ t → ⊥
not_copy end name t clinit part kept free e = go (bytes_eq name (codes "<clinit>")) refl
  where
    go : (b : Bool) → bytes_eq name (codes "<clinit>") ≡ b → ⊥
    go true f = let same : codes "__CLINIT__" ≡ t = (let d : duplicate_name name ≡ codes "__CLINIT__" = rw f refl in sym d ∙ e) in clash (has_part end t) part (ap (has_part end) (sym same) ∙ clinit)
    go false f = let same : name ≡ t = (let d : duplicate_name name ≡ name = rw f refl in sym d ∙ e) in clash (is_reserved t) kept (ap is_reserved (sym same) ∙ free)

module _ (cs : List ClassFile) (P : Program) (read : AreRead cs) (l : IsLinkedTo cs P) (src : IsSource P) (H : List MethodName) where
  abbrev O : List MethodName
  O = map (λ (k : Method). k.name) P.methods

  abbrev A : List MethodName
  A = accessor_names P.fields

  abbrev C : List MethodName
  C = map copy_name O

  old_long : length O ≡ length P.methods
  old_long = length-map P.methods (λ (k : Method). k.name)

  copies_long : length C ≡ length P.methods
  copies_long = length-map O copy_name ∙ old_long

  -- ---- the program's own

  old_number : (n : MethodName) (i : ℕ) → position (is_method n) O ≡ Some i → position (is_method n) (names_behind P H) ≡ Some i
  old_number n i e = position_front (is_method n) ((O ++ A) ++ C) H i (position_front (is_method n) (O ++ A) C i (position_front (is_method n) O A i e))

  -- ---- accessors

  not_old : (n : MethodName) → is_reserved n.name ≡ true → AllByRecursion (λ k. is_method n k ≡ false) O
  not_old n kept = none_any n P.methods (not_numbered cs P read l n.class (added_head n) n.name refl kept)

  getter_number : (i : ℕ) (f : Field) → field_at P i ≡ Some f → position (is_method (getter_method 0 f).name) (names_behind P H) ≡ Some (getter P i)
  getter_number i f e =
      let n = (getter_method 0 f).name in
      let here = position_back (is_method n) O A (2 * i) (not_old n (ap is_reserved (getter_name 0 f) ∙ getter_kept f.name)) (getter_placed P.fields (fields_apart cs P read l) i f e) in
      position_front (is_method n) ((O ++ A) ++ C) H (getter P i) (position_front (is_method n) (O ++ A) C (getter P i) (here ∙ ap (λ (k : ℕ). Some (k + 2 * i)) old_long))

  setter_number : (i : ℕ) (f : Field) → field_at P i ≡ Some f → position (is_method (setter_method f).name) (names_behind P H) ≡ Some (setter P i)
  setter_number i f e =
      let n = (setter_method f).name in
      let here = position_back (is_method n) O A (2 * i + 1) (not_old n (ap is_reserved (setter_name f) ∙ setter_kept f.name)) (setter_placed P.fields (fields_apart cs P read l) i f e) in
      let place : length O + (2 * i + 1) ≡ setter P i = (let k = old_long in omega (arith, k)) in
      position_front (is_method n) ((O ++ A) ++ C) H (setter P i) (position_front (is_method n) (O ++ A) C (setter P i) (here ∙ ap (λ (k : ℕ). Some k) place))

  -- ---- duplicates

  at_place : (p : MethodName → Bool) (xs : List MethodName) (i : ℕ) (n : MethodName) → slice_get xs i ≡ Some n → IsAt xs n
  at_place p xs i n e = (i, e)

  free_name : (n : MethodName) → IsAt O n → is_reserved n.name ≡ false
  free_name n at = let m = of_map (λ (k : Method). k.name) P.methods n at in ap (λ (n : MethodName). is_reserved n.name) (sym m.2) ∙ method_free cs P read l m.0 m.1

  not_accessor : (n : MethodName) → IsAt O n → AllByRecursion (λ k. is_method (copy_name n) k ≡ false) A
  not_accessor n at = all_names (λ k. is_method (copy_name n) k ≡ false) P.fields (all_items (λ f. (is_method (copy_name n) (getter_method 0 f).name ≡ false) × (is_method (copy_name n) (setter_method f).name ≡ false)) P.fields (λ f h. (one f, two f)))
    where
      one : (f : Field) → is_method (copy_name n) (getter_method 0 f).name ≡ false
      one f = differs (copy_name n) (getter_method 0 f).name (λ e.
          not_copy (codes "__Getter$") n.name (f.name ++ codes "__Getter$") refl (getter_part f.name) (getter_kept f.name) (free_name n at) (sym (ap (λ (m : MethodName). m.name) e) ∙ getter_name 0 f))

      two : (f : Field) → is_method (copy_name n) (setter_method f).name ≡ false
      two f = differs (copy_name n) (setter_method f).name (λ e.
          not_copy (codes "__Setter$") n.name (f.name ++ codes "__Setter$") refl (setter_part f.name) (setter_kept f.name) (free_name n at) (sym (ap (λ (m : MethodName). m.name) e) ∙ setter_name f))

  copy_number : (n : MethodName) → IsAt O n → (i : ℕ) → position (is_method n) O ≡ Some i → position (is_method (copy_name n)) (names_behind P H) ≡ Some (duplicate P i)
  copy_number n at i e =
      let none : AllByRecursion (λ k. is_method (copy_name n) k ≡ false) (O ++ A) =
      all_both (λ k. is_method (copy_name n) k ≡ false) O A (all_items (λ k. is_method (copy_name n) k ≡ false) O (λ k h. copy_apart P src n k at h)) (not_accessor n at) in
      let here = position_back (is_method (copy_name n)) (O ++ A) C i none (copy_placed P src n at i e) in
      let place : length (O ++ A) + i ≡ duplicate P i = (let a = length-append O A in let b = old_long in let c = accessors_long P.fields in omega (arith, a, b, c)) in
      position_front (is_method (copy_name n)) ((O ++ A) ++ C) H (duplicate P i) (here ∙ ap (λ (k : ℕ). Some k) place)

  -- ---- the helper's methods

  of_other : (n : MethodName) → n.class ≡ helper_class → (k : MethodName) → IsOther k.class → is_method n k ≡ false
  of_other n class k other = differs n k (λ e. clash (bytes_eq helper_class k.class) ((bytes_eq-Decides helper_class k.class).1 (sym class ∙ sym (ap (λ (m : MethodName). m.class) e))) other)

  old_other : (n : MethodName) → IsAt O n → IsOther n.class
  old_other n at =
      let m = of_map (λ (k : Method). k.name) P.methods n at in
      let f = method_from cs P l m.1.0 m.0 m.1.1 in
      let p = of_methods cs f.member (in_methods cs f.member (m.1.0, f.there)) in
      let class : own_name f.member.class ≡ n.class = sym (ap (λ (k : Method). k.name.class) f.meant.is) ∙ ap (λ (n : MethodName). n.class) m.2 in
      subst IsOther class (is_apart cs P read l f.member.class p.0).own

  field_other : (f : Field) → IsAt P.fields f → IsOther f.class
  field_other f at =
      let r = field_from cs 0 cs f (subst (λ (fs : List Field). IsAt fs f) (ap (λ (P : Program). P.fields) l.is) at) in
      subst IsOther (sym (ap (λ (f : Field). f.class) r.member.is)) (is_apart cs P read l r.class (r.number, r.there)).own

  helper_number : (n : MethodName) (i : ℕ) → n.class ≡ helper_class → position (is_method n) H ≡ Some i → position (is_method n) (names_behind P H) ≡ Some (duplicate P (length P.methods) + i)
  helper_number n i class e =
      let olds : AllByRecursion (λ k. is_method n k ≡ false) O = all_items (λ k. is_method n k ≡ false) O (λ k h. of_other n class k (old_other k h)) in
      let accessors : AllByRecursion (λ k. is_method n k ≡ false) A =
      all_names (λ k. is_method n k ≡ false) P.fields (all_items (λ f. (is_method n (getter_method 0 f).name ≡ false) × (is_method n (setter_method f).name ≡ false)) P.fields
      (λ f h. (of_other n class (getter_method 0 f).name (subst IsOther (sym (getter_class f)) (field_other f h)), of_other n class (setter_method f).name (subst IsOther (sym (setter_class f)) (field_other f h))))) in
      let copies : AllByRecursion (λ k. is_method n k ≡ false) C = all_mapped copy_name (λ k. is_method n k ≡ false) O (all_items (λ k. is_method n (copy_name k) ≡ false) O (λ k h. of_other n class (copy_name k) (old_other k h))) in
      let none = all_both (λ k. is_method n k ≡ false) (O ++ A) C (all_both (λ k. is_method n k ≡ false) O A olds accessors) copies in
      let place : length ((O ++ A) ++ C) + i ≡ duplicate P (length P.methods) + i =
      (let a = length-append (O ++ A) C in let b = length-append O A in let c = old_long in let d = copies_long in let f = accessors_long P.fields in omega (arith, a, b, c, d, f)) in
      position_back (is_method n) ((O ++ A) ++ C) H i none e ∙ ap (λ (k : ℕ). Some k) place

  pub are_numbered : AreNumbered P H
  are_numbered = record { old = old_number; getters = getter_number; setters = setter_number; copies = copy_number; helpers = helper_number }
