-- What stands behind the brackets of an array type's name.
use Rattle.std.proofs.Common.{◌≡◌, ℕ, suc, ◌+◌, List, [], ◌∷◌, drop, Bool, true, false, cond, refl, ap, ◌∙◌, arith}
use Rattle.std.specs.Prelude.{◌==◌}
use Rattle.jmodel.specs.format.Descriptor.{is_array_name}
use Rattle.jmodel.specs.format.DescriptorReading.{brackets}

-- it has no bracket at the front
pub no_brackets : (n : List ℕ) → is_array_name (drop (brackets n) n) ≡ false
no_brackets [] = refl
no_brackets (c ∷ cs) = go (c == 91) refl (no_brackets cs)
  where
    go : (b : Bool) → (c == 91) ≡ b → is_array_name (drop (brackets cs) cs) ≡ false → is_array_name (drop (cond b (1 + brackets cs) 0) (c ∷ cs)) ≡ false
    go true e h = let more : 1 + brackets cs ≡ suc (brackets cs) = omega arith in ap (λ (k : ℕ). is_array_name (drop k (c ∷ cs))) more ∙ h
    go false e h = e
