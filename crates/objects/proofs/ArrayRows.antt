-- What is at most an array type, by the classes above its elements.
use Rattle.std.proofs.Common.{◌≡◌, ℕ, List, [], ◌∷◌, ◌++◌, Bool, true, false, refl, sym, ap, subst, ◌∙◌}
use Rattle.std.specs.Prelude.{bytes_eq, ◌&&◌, ◌==◌, codes, if◌then◌else◌}
use Rattle.std.specs.List.{AllByRecursion}
use Rattle.std.proofs.lemmas.Slice.Eq.{bytes_eq-Decides}
use Rattle.std.proofs.lemmas.Bool.Decides.{Decides-eqb}
use Rattle.jmodel.specs.declared.typing.VType.TheVariants as type
use Rattle.objects.specs.semantics.Program.{Program, is_instance}
use Rattle.objects.specs.typing.TypeOrder.{object_class, without_last, is_ended, classes_from, IsWithin, is_element_within, is_class_above}
use Rattle.objects.proofs.LibraryRows.{for_any}

both : (a b : Bool) → (a && b) ≡ true → (a ≡ true) × (b ≡ true)
both true b e = (refl, e)
both false b e = cc

abbrev array_of : List ℕ → List ℕ
array_of c = 91 ∷ 76 ∷ c ++ codes ";"

abbrev IsTested : Program → ℕ → List ℕ → Type 0
IsTested P t n = is_instance P t n ≡ true

-- Objects of an array type are instances of what is at most that type: of Object, and of the arrays of classes above their elements' class.
pub references_within : (P : Program) (t : ℕ) (c : List ℕ) → without_last (c ++ codes ";") ≡ c → IsTested P t object_class → AllByRecursion (λ (d : List ℕ). IsTested P t (array_of d)) (classes_from P c)
    → (n : List ℕ) → IsWithin P (type.Ref (array_of c)) (type.Ref n) → IsTested P t n
references_within P t c same top each [] e = cc
references_within P t c same top each (x ∷ xs) e = go (x == 91) refl xs e
  where
    element : (d : ℕ) (n : List ℕ) → ((d == 76) && (is_ended n && is_class_above P (without_last (c ++ codes ";")) (without_last n))) ≡ true → x ≡ 91 → IsTested P t (x ∷ d ∷ n)
    element d n e is =
        let a = both (d == 76) (is_ended n && is_class_above P (without_last (c ++ codes ";")) (without_last n)) e in
        let b = both (is_ended n) (is_class_above P (without_last (c ++ codes ";")) (without_last n)) a.1 in
        let ended : n ≡ without_last n ++ codes ";" = (bytes_eq-Decides n (without_last n ++ codes ";")).0 b.0 in
        let above : is_class_above P c (without_last n) ≡ true = ap (λ m. is_class_above P m (without_last n)) (sym same) ∙ b.1 in
        let tested : IsTested P t (array_of (without_last n)) = for_any (λ (d : List ℕ). IsTested P t (array_of d)) (without_last n) (classes_from P c) each above in
        let letter : d ≡ 76 = (Decides-eqb d 76).0 a.0 in
        rw (is, letter) (subst (λ m. IsTested P t (91 ∷ 76 ∷ m)) (sym ended) tested)

    inside : (xs : List ℕ) → is_element_within P (76 ∷ c ++ codes ";") xs ≡ true → x ≡ 91 → IsTested P t (x ∷ xs)
    inside [] e is = cc
    inside (d ∷ n) e is = element d n e is

    go : (b : Bool) → (x == 91) ≡ b → (xs : List ℕ) → (if b then is_element_within P (76 ∷ c ++ codes ";") xs else bytes_eq (x ∷ xs) object_class) ≡ true → IsTested P t (x ∷ xs)
    go true is xs e = inside xs e ((Decides-eqb x 91).0 is)
    go false is xs e = subst (IsTested P t) (sym ((bytes_eq-Decides (x ∷ xs) object_class).0 e)) top

-- so of arrays of a primitive type
pub primitives_within : (P : Program) (t x : ℕ) → (x == 91) ≡ false → (x == 76) ≡ false → IsTested P t object_class → IsTested P t (91 ∷ x ∷ [])
    → (n : List ℕ) → IsWithin P (type.Ref (91 ∷ x ∷ [])) (type.Ref n) → IsTested P t n
primitives_within P t x no_array no_class top itself [] e = cc
primitives_within P t x no_array no_class top itself (y ∷ ys) e = go (y == 91) refl ys e
  where
    inside : (ys : List ℕ) → is_element_within P (x ∷ []) ys ≡ true → y ≡ 91 → IsTested P t (y ∷ ys)
    inside [] e is = cc
    inside (d ∷ n) e is =
        let same : bytes_eq (x ∷ []) (d ∷ n) ≡ true = (rw (no_array, no_class) at e) in
        rw is (subst (λ m. IsTested P t (91 ∷ m)) ((bytes_eq-Decides (x ∷ []) (d ∷ n)).0 same) itself)

    go : (b : Bool) → (y == 91) ≡ b → (ys : List ℕ) → (if b then is_element_within P (x ∷ []) ys else bytes_eq (y ∷ ys) object_class) ≡ true → IsTested P t (y ∷ ys)
    go true is ys e = inside ys e ((Decides-eqb y 91).0 is)
    go false is ys e = subst (IsTested P t) (sym ((bytes_eq-Decides (y ∷ ys) object_class).0 e)) top
