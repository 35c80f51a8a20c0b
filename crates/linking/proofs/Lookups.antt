-- The numbers of types, texts, fields and methods, as they stand under their names.
use Rattle.std.proofs.Common.{◌≡◌, ℕ, Bool, true, false, ◌&&◌, List, [], ◌∷◌, map, refl, sym, ap, ◌∙◌}
use Rattle.std.specs.Prelude.{bytes_eq, position}
use Rattle.std.specs.Cmp.Lexicographic.{nat_list_eq_equiv}
use Rattle.jmodel.specs.declared.name.MethodName.{MethodName}
use Rattle.objects.specs.linking.Members.{is_name}
use Rattle.objects.specs.semantics.Program.{Row, Field}
use Rattle.objects.specs.linking.Layout.{array_over}
use Rattle.objects.specs.linking.Decoding.{is_field_of, is_method}
use Rattle.hierarchy.specs.Names.{named, number_of, AreFirst}
use Rattle.linking.specs.Numbering.{type_key, array_key, made_key, text_key, field_key}
use Rattle.hierarchy.proofs.Numbering.{position_seen}
use Rattle.linking.proofs.ArrayNames.{tells}

-- a type by its name
pub type_there : (types : List Row) (numbers : List (MethodName × ℕ)) → AreFirst numbers (map type_key types) → (name : List ℕ) → number_of numbers (named name [] []) ≡ position (λ (r : Row). bytes_eq r.name name) types
type_there types numbers are name =
    are (named name [] []) ∙ position_seen (λ (r : Row). bytes_eq r.name name) (is_name (named name [] [])) type_key (λ r. nat_list_eq_equiv.symm name r.name) types

-- an array type by what anewarray names
pub array_there : (types : List Row) (numbers : List (MethodName × ℕ)) → AreFirst numbers (map array_key types) → (name : List ℕ) → number_of numbers (made_key name) ≡ position (λ (r : Row). bytes_eq r.name (array_over name)) types
array_there types numbers are name =
    are (made_key name) ∙ position_seen (λ (r : Row). bytes_eq r.name (array_over name)) (is_name (made_key name)) array_key (λ r. tells name r) types

-- a text by itself
pub text_there : (texts : List (List ℕ)) (numbers : List (MethodName × ℕ)) → AreFirst numbers (map text_key texts) → (text : List ℕ) → number_of numbers (named text [] []) ≡ position (bytes_eq text) texts
text_there texts numbers are text = are (named text [] []) ∙ position_seen (bytes_eq text) (is_name (named text [] [])) text_key (λ u. refl) texts

-- both tests of three parts
pub and_swap : (a b c d e f : Bool) → a ≡ d → b ≡ e → c ≡ f → (a && b && c) ≡ (d && (e && f))
and_swap a b c d e f p q r = rw (p, q, r) (go d e f)
  where
    go : (d e f : Bool) → (d && e && f) ≡ (d && (e && f))
    go true e f = refl
    go false e f = refl

-- a field by its names
pub field_there : (fields : List Field) (numbers : List (MethodName × ℕ)) → AreFirst numbers (map field_key fields) → (n : MethodName) → number_of numbers (named n.class n.name n.descriptor) ≡ position (is_field_of n) fields
field_there fields numbers are n =
    are (named n.class n.name n.descriptor) ∙ position_seen (is_field_of n) (is_name (named n.class n.name n.descriptor)) field_key
    (λ f. and_swap _ _ _ _ _ _ (nat_list_eq_equiv.symm n.name f.name) (nat_list_eq_equiv.symm n.descriptor f.descriptor) (nat_list_eq_equiv.symm n.class f.class)) fields

-- a method by its names
pub method_there : (names : List MethodName) (numbers : List (MethodName × ℕ)) → AreFirst numbers names → (n : MethodName) → number_of numbers (named n.class n.name n.descriptor) ≡ position (is_method n) names
method_there names numbers are n = are (named n.class n.name n.descriptor) ∙ same names
  where
    map_itself : {A : Type 0} (xs : List A) → map (λ x. x) xs ≡ xs
    map_itself [] = refl
    map_itself {A} (x ∷ xs) = ap (λ (l : List A). x ∷ l) (map_itself xs)

    same : (names : List MethodName) → position (is_name (named n.class n.name n.descriptor)) names ≡ position (is_method n) names
    same names =
        sym (ap (position (is_name (named n.class n.name n.descriptor))) (map_itself names)) ∙ position_seen (is_method n) (is_name (named n.class n.name n.descriptor)) (λ (k : MethodName). k)
        (λ k. and_swap _ _ _ _ _ _ (nat_list_eq_equiv.symm n.name k.name) (nat_list_eq_equiv.symm n.descriptor k.descriptor) (nat_list_eq_equiv.symm n.class k.class)) names
