-- The bytes of descriptors.
use Rattle.std.proofs.Common.{◌≡◌, ℕ, zero, suc, ◌+◌, List, [], ◌∷◌, length, take, refl, ap, arith}
use Rattle.objects.specs.typing.TypeOrder.{without_last}

-- all bytes but the last
pub front_is : (b : List ℕ) (n : ℕ) → n + 1 ≡ length b → take n b ≡ without_last b
front_is [] n e = absurd (omega arith)
front_is (c ∷ []) zero e = refl
front_is (c ∷ []) (suc n) e = absurd (omega arith)
front_is (c ∷ d ∷ b) zero e = absurd (omega arith)
front_is (c ∷ d ∷ b) (suc n) e = ap (λ (x : List ℕ). c ∷ x) (front_is (d ∷ b) n (omega arith))
