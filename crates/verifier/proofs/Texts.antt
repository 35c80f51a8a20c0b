-- Places that all have one type.
use Rattle.std.proofs.Common.{◌≡◌, ℕ, suc, ◌+◌, ◌-◌, ◌<◌, List, drop, Some, None, true, false, refl, arith}
use Rattle.std.specs.Prelude.{replicate, slice_get}
use Rattle.jmodel.specs.declared.typing.VType.{VType}
use Rattle.objects.specs.semantics.Program.{Program}
use Rattle.objects.specs.typing.TypeOrder.{is_within}
use Rattle.verifier.specs.Rules.{are_taken}
use Rattle.verifier.proofs.Placed.{no_place, place_is}

module _ (P : Program) (c k : ℕ) (r : VType) (s : List VType) (less : k < c) where
  -- one place more
  pub texts_step : (t : VType) → Some t ≡ slice_get s k → is_within P t r ≡ true → are_taken P (replicate (c - k) r) (drop k s) ≡ are_taken P (replicate (c - (k + 1)) r) (drop (k + 1) s)
  texts_step t e f = let n : c - k ≡ suc (c - (k + 1)) = omega (arith, less) in rw (n, place_is s k t e, f) refl

  -- another type, and none
  pub no_text : (t : VType) → Some t ≡ slice_get s k → is_within P t r ≡ false → are_taken P (replicate (c - k) r) (drop k s) ≡ false
  no_text t e f = let n : c - k ≡ suc (c - (k + 1)) = omega (arith, less) in rw (n, place_is s k t e, f) refl

  pub no_place_left : None ≡ slice_get s k → are_taken P (replicate (c - k) r) (drop k s) ≡ false
  no_place_left e = let n : c - k ≡ suc (c - (k + 1)) = omega (arith, less) in rw (n, no_place s k e) refl
