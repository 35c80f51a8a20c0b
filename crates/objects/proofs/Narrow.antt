-- The int of the last 32 bits of an int is that int.
use Rattle.std.proofs.Common.{◌≡◌, ℕ, ℤ, suc, ◌+◌, ◌-◌, ◌*◌, ◌%◌, ◌^◌, ◌<◌, ap, ◌∙◌, arith}
use Rattle.std.specs.Prelude.{pos, negsuc, FitsSigned}
use Rattle.std.specs.Int.{w32, w64, cast_signed, cast_unsigned}
use Rattle.std.proofs.lemmas.Nat.{mod-mul-add}
use Rattle.std.proofs.lemmas.Int.{to_z-of_z}

pub narrow : (x : ℤ) → FitsSigned w32 x → cast_signed w32 (cast_unsigned w64 x % 2 ^ 32) ≡ x
narrow (pos n) h =
    let lt : n < 2 ^ 31 = h.sfits in
    let e : n % 2 ^ 32 ≡ n = omega arith in
    ap (cast_signed w32) e ∙ to_z-of_z w32 (pos n) h
narrow (negsuc n) h =
    let lt : n < 2 ^ 31 = h.sfits in
    let e : 2 ^ 64 - suc n ≡ (2 ^ 32 - 1) * 2 ^ 32 + (2 ^ 32 - suc n) = omega arith in
    let b : 2 ^ 32 - suc n < 2 ^ 32 = omega arith in
    ap (λ (k : ℕ). cast_signed w32 (k % 2 ^ 32)) e ∙ ap (cast_signed w32) (mod-mul-add (2 ^ 32 - 1) (2 ^ 32) (2 ^ 32 - suc n) b) ∙ to_z-of_z w32 (negsuc n) h
