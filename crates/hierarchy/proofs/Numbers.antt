-- Numbers by names, as loops note them.
use Rattle.std.proofs.Common.{◌≡◌, ℕ, ◌+◌, ◌<◌, List, [], ◌∷◌, ◌++◌, length, map, take, get_or, Option, sym, ap, ◌∙◌, refl, arith}
use Rattle.std.specs.Prelude.{if◌then◌else◌, position}
use Rattle.std.proofs.lemmas.List.{length-map, length-take-le}
use Rattle.jmodel.specs.declared.name.MethodName.{MethodName}
use Rattle.objects.specs.linking.Members.{is_name}
use Rattle.hierarchy.specs.Names.{named, number_of, AreFirst}
use Rattle.hierarchy.specs.Numbers.{or_number}
use Rattle.hierarchy.proofs.Each.{map_next}
use Rattle.hierarchy.proofs.Numbering.{position_push}

-- one more name is noted, under its place
module _ {A : Type 0} (key : A → MethodName) (before after : List (MethodName × ℕ)) (xs : List A) (i : ℕ) (x : A) (inside : i < length xs) (is : x ≡ get_or xs i x) where
  pub noted_more : AreFirst before (map key (take i xs))
      → ((q : MethodName) → number_of after q ≡ (if is_name q (key x) then or_number (number_of before q) i else number_of before q))
      → AreFirst after (map key (take (i + 1) xs))
  noted_more so_far notes q =
      let names : List MethodName = map key (take i xs) in
      let many : length names ≡ i = length-map _ _ ∙ length-take-le i xs (omega arith) in
      let more : map key (take (i + 1) xs) ≡ names ++ key x ∷ [] = map_next key xs i x inside is in
      notes q ∙ ap (λ (o : Option ℕ). if is_name q (key x) then or_number o i else o) (so_far q)
      ∙ ap (λ (n : ℕ). if is_name q (key x) then or_number (position (is_name q) names) n else position (is_name q) names) (sym many)
      ∙ sym (position_push (is_name q) names (key x)) ∙ ap (position (is_name q)) (sym more)

-- names of the same parts
pub same_names : (c d a b e f : List ℕ) → c ≡ d → a ≡ b → e ≡ f → named c a e ≡ named d b f
same_names c d a b e f p q r = rw (p, q, r) refl

-- what is noted under a name is noted under the same one
pub same_note : (after before : List (MethodName × ℕ)) (i : ℕ) (n m : MethodName) → n ≡ m
    → ((q : MethodName) → number_of after q ≡ (if is_name q n then or_number (number_of before q) i else number_of before q))
    → (q : MethodName) → number_of after q ≡ (if is_name q m then or_number (number_of before q) i else number_of before q)
same_note after before i n m same notes q = notes q ∙ ap (λ (k : MethodName). if is_name q k then or_number (number_of before q) i else number_of before q) same
