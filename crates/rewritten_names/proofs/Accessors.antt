-- The numbers of accessors among those of all fields.
use Rattle.std.proofs.Common.{◌≡◌, ◌≢◌, ℕ, zero, suc, ◌+◌, ◌*◌, List, [], ◌∷◌, ◌++◌, length, Option, Some, true, false, refl, sym, ap, ◌∙◌, subst, arith, length-append}
use Rattle.std.specs.Prelude.{codes, slice_get, position, option_map}
use Rattle.std.specs.List.{AllByRecursion}
use Rattle.std.proofs.lemmas.Slice.Eq.{bytes_eq-Decides}
use Rattle.jmodel.specs.declared.name.MethodName.{MethodName}
use Rattle.objects.specs.semantics.Program.{Field}
use Rattle.objects.specs.linking.Decoding.{is_method}
use Rattle.objects.specs.rewriting.Rewriting.{getter_method, setter_method}
use Rattle.const_pool.specs.Firsts.{first}
use Rattle.const_pool.proofs.FirstLemmas.{position_first}
use Rattle.rewritten_names.specs.Heads.{accessor_names}
use Rattle.rewritten_names.proofs.Apart.{IsOtherField, AreApart}
use Rattle.rewritten_names.proofs.Free.{getter_name, setter_name}
use Rattle.rewritten_names.proofs.Named.{getter_class, setter_class}
use Rattle.rewritten_names.proofs.Numbers.{differs}
use Rattle.rewritten_names.proofs.Ordinary.{method_itself}

-- ---- texts with ends

same_parts : (xs ys us vs : List ℕ) → length us ≡ length vs → xs ++ us ≡ ys ++ vs → (xs ≡ ys) × (us ≡ vs)
same_parts [] [] us vs l e = (refl, e)
same_parts [] (y ∷ ys) us vs l e = let a = ap length e in let b = length-append (y ∷ ys) vs in absurd (omega (arith, a, b, l))
same_parts (x ∷ xs) [] us vs l e = let a = ap length e in let b = length-append (x ∷ xs) us in absurd (omega (arith, a, b, l))
same_parts (x ∷ xs) (y ∷ ys) us vs l e =
    let h : x ≡ y = cc in
    let t : xs ++ us ≡ ys ++ vs = cc in
    let r = same_parts xs ys us vs l t in
    (ap (λ (z : ℕ). z ∷ xs) h ∙ ap (λ (l : List ℕ). y ∷ l) r.0, r.1)

ends_differ : codes "__Getter$" ≢ codes "__Setter$"
ends_differ e = let fall : true ≡ false = sym ((bytes_eq-Decides (codes "__Getter$") (codes "__Setter$")).1 e) in cc

same_front : (x y : List ℕ) (end : List ℕ) → x ++ end ≡ y ++ end → x ≡ y
same_front x y end e = (same_parts x y end end refl e).0

never : (x y : List ℕ) → x ++ codes "__Getter$" ≡ y ++ codes "__Setter$" → ⊥
never x y e = ends_differ (same_parts x y (codes "__Getter$") (codes "__Setter$") refl e).1

-- ---- names of accessors

name_in : (n k : MethodName) → n ≡ k → n.name ≡ k.name
name_in n k e = ap (λ (m : MethodName). m.name) e

class_in : (n k : MethodName) → n ≡ k → n.class ≡ k.class
class_in n k e = ap (λ (m : MethodName). m.class) e

getter_setter : (f g : Field) → is_method (getter_method 0 f).name (setter_method g).name ≡ false
getter_setter f g = differs (getter_method 0 f).name (setter_method g).name (λ e. never f.name g.name (sym (getter_name 0 f) ∙ sym (name_in _ _ e) ∙ setter_name g))

setter_getter : (f g : Field) → is_method (setter_method f).name (getter_method 0 g).name ≡ false
setter_getter f g = differs (setter_method f).name (getter_method 0 g).name (λ e. never g.name f.name (sym (getter_name 0 g) ∙ name_in _ _ e ∙ setter_name f))

getters_differ : (f g : Field) → IsOtherField g f → is_method (getter_method 0 f).name (getter_method 0 g).name ≡ false
getters_differ f g other = differs (getter_method 0 f).name (getter_method 0 g).name (λ e.
    other (sym (getter_class f) ∙ sym (class_in _ _ e) ∙ getter_class g) (same_front f.name g.name (codes "__Getter$") (sym (getter_name 0 f) ∙ sym (name_in _ _ e) ∙ getter_name 0 g)))

setters_differ : (f g : Field) → IsOtherField g f → is_method (setter_method f).name (setter_method g).name ≡ false
setters_differ f g other = differs (setter_method f).name (setter_method g).name (λ e.
    other (sym (setter_class f) ∙ sym (class_in _ _ e) ∙ setter_class g) (same_front f.name g.name (codes "__Setter$") (sym (setter_name f) ∙ sym (name_in _ _ e) ∙ setter_name g)))

-- ---- their places

other_at : (g : Field) (fs : List Field) (i : ℕ) (f : Field) → AllByRecursion (IsOtherField g) fs → slice_get fs i ≡ Some f → IsOtherField g f
other_at g [] i f all e = cc
other_at g (h ∷ fs) zero f all e = let s : h ≡ f = cc in subst (IsOtherField g) s all.0
other_at g (h ∷ fs) (suc i) f all e = other_at g fs i f all.1 e

two_more : (o : Option ℕ) (n : ℕ) → o ≡ Some n → option_map suc (option_map suc o) ≡ Some (suc (suc n))
two_more o n e = ap (λ (o : Option ℕ). option_map suc (option_map suc o)) e

getter_first : (fs : List Field) → AreApart fs → (i : ℕ) (f : Field) → slice_get fs i ≡ Some f → first (is_method (getter_method 0 f).name) (accessor_names fs) ≡ Some (2 * i)
getter_first [] apart i f e = cc
getter_first (g ∷ fs) apart zero f e = let s : g ≡ f = cc in let t = ap (λ (g : Field). is_method (getter_method 0 f).name (getter_method 0 g).name) s ∙ method_itself (getter_method 0 f).name in rw t refl
getter_first (g ∷ fs) apart (suc i) f e =
    let a = getters_differ f g (other_at g fs i f apart.0 e) in
    let b = getter_setter f g in
    let r = two_more _ (2 * i) (getter_first fs apart.1 i f e) in
    let n : suc (suc (2 * i)) ≡ 2 * suc i = omega arith in
    rw a (rw b (r ∙ ap (λ (n : ℕ). Some n) n))

setter_first : (fs : List Field) → AreApart fs → (i : ℕ) (f : Field) → slice_get fs i ≡ Some f → first (is_method (setter_method f).name) (accessor_names fs) ≡ Some (2 * i + 1)
setter_first [] apart i f e = cc
setter_first (g ∷ fs) apart zero f e =
    let s : g ≡ f = cc in
    let a = setter_getter f g in
    let t = ap (λ (g : Field). is_method (setter_method f).name (setter_method g).name) s ∙ method_itself (setter_method f).name in
    rw a (rw t refl)
setter_first (g ∷ fs) apart (suc i) f e =
    let a = setter_getter f g in
    let b = setters_differ f g (other_at g fs i f apart.0 e) in
    let r = two_more _ (2 * i + 1) (setter_first fs apart.1 i f e) in
    let n : suc (suc (2 * i + 1)) ≡ 2 * suc i + 1 = omega arith in
    rw a (rw b (r ∙ ap (λ (n : ℕ). Some n) n))

pub getter_placed : (fs : List Field) → AreApart fs → (i : ℕ) (f : Field) → slice_get fs i ≡ Some f → position (is_method (getter_method 0 f).name) (accessor_names fs) ≡ Some (2 * i)
getter_placed fs apart i f e = position_first (is_method (getter_method 0 f).name) (accessor_names fs) ∙ getter_first fs apart i f e

pub setter_placed : (fs : List Field) → AreApart fs → (i : ℕ) (f : Field) → slice_get fs i ≡ Some f → position (is_method (setter_method f).name) (accessor_names fs) ≡ Some (2 * i + 1)
setter_placed fs apart i f e = position_first (is_method (setter_method f).name) (accessor_names fs) ∙ setter_first fs apart i f e

pub accessors_long : (fs : List Field) → length (accessor_names fs) ≡ 2 * length fs
accessors_long [] = refl
accessors_long (f ∷ fs) = let e = accessors_long fs in omega (arith, e)
