-- Lists to which loops put what items give, where the items are chosen.
use Rattle.std.proofs.Common.{◌≡◌, Bool, true, false, cond, List, [], ◌∷◌, ◌++◌, map, sym, ap, ◌∙◌, append_assoc}
use Rattle.std.specs.Prelude.{filter}

module _ {A B : Type 0} (p : A → Bool) (f : A → B) (front more total : List B) (rest others : List A) (x : A) (item : rest ≡ x ∷ others) (so_far : front ++ map f (filter p rest) ≡ total) where
  step : (b : Bool) → p x ≡ b → front ++ map f (cond b (x ∷ filter p others) (filter p others)) ≡ total
  step b is = sym (ap (λ (l : List A). front ++ map f (filter p l)) item ∙ ap (λ (b : Bool). front ++ map f (cond b (x ∷ filter p others) (filter p others))) is) ∙ so_far

  -- an item is chosen
  pub chosen : p x ≡ true → more ≡ front ++ f x ∷ [] → more ++ map f (filter p others) ≡ total
  chosen is put = ap (λ (l : List B). l ++ map f (filter p others)) put ∙ append_assoc front (f x ∷ []) (map f (filter p others)) ∙ step true is

  -- or passed over
  pub passed : p x ≡ false → more ≡ front → more ++ map f (filter p others) ≡ total
  passed is same = ap (λ (l : List B). l ++ map f (filter p others)) same ∙ step false is
