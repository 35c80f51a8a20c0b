-- The cases of a table, as a loop collects them.
use Rattle.std.proofs.Common.{◌≡◌, ℕ, ℤ, ◌+◌, ◌%◌, ◌^◌, ◌<◌, ◌≤◌, List, [], ◌∷◌, ◌++◌, length, get_or, drop, sym, ap, ◌∙◌, append_assoc}
use Rattle.std.specs.Int.{w32, cast_signed}
use Rattle.std.proofs.lemmas.Int.{of_z-to_z}
use Rattle.std.proofs.lemmas.List.{append-nil, drop_all}
use Rattle.objects.specs.linking.Code.{table_cases}
use Rattle.hierarchy.proofs.Each.{item_at}

-- a key is known by its bits
module _ (key : ℕ) (front all : List (ℤ × ℕ)) (ts : List ℕ) (i : ℕ) (so_far : front ++ table_cases (cast_signed w32 key) (drop i ts) ≡ all) where
  -- one more case
  pub one_more : key < 2 ^ 32 → i < length ts → (front ++ (cast_signed w32 key, get_or ts i 0) ∷ []) ++ table_cases (cast_signed w32 ((key + 1) % 2 ^ 32)) (drop (i + 1) ts) ≡ all
  one_more fits inside =
      append_assoc front ((cast_signed w32 key, get_or ts i 0) ∷ []) (table_cases (cast_signed w32 ((key + 1) % 2 ^ 32)) (drop (i + 1) ts))
      ∙ ap (λ (n : ℕ). front ++ (cast_signed w32 key, get_or ts i 0) ∷ table_cases (cast_signed w32 ((n + 1) % 2 ^ 32)) (drop (i + 1) ts)) (sym (of_z-to_z w32 key fits))
      ∙ ap (λ (l : List ℕ). front ++ table_cases (cast_signed w32 key) l) (sym (item_at ts i 0 inside)) ∙ so_far

  -- all of them
  pub are_all : length ts ≤ i → front ≡ all
  are_all past = sym (append-nil front) ∙ ap (λ (l : List ℕ). front ++ table_cases (cast_signed w32 key) l) (sym (drop_all i ts past)) ∙ so_far
