-- Texts that are and aren't the same.
use Rattle.std.proofs.Common.{◌≡◌, ℕ, Bool, true, false, List, refl}
use Rattle.std.specs.Prelude.{bytes_eq}
use Rattle.std.proofs.lemmas.Slice.Eq.{bytes_eq-Decides}

pub same : (a : List ℕ) → bytes_eq a a ≡ true
same a = (bytes_eq-Decides a a).1 refl

pub differ : (a b : List ℕ) → (a ≡ b → ⊥) → bytes_eq a b ≡ false
differ a b h = go (bytes_eq a b) refl
  where
    go : (v : Bool) → bytes_eq a b ≡ v → bytes_eq a b ≡ false
    go true e = absurd (h ((bytes_eq-Decides a b).0 e))
    go false e = e

pub apart : (a b : List ℕ) → bytes_eq a b ≡ false → a ≡ b → ⊥
apart a b h e = let t = (bytes_eq-Decides a b).1 e in absurd cc
