-- Steps as a loop takes them.
use Rattle.std.proofs.Common.{◌≡◌, ℕ, suc, ◌-◌, ◌+◌, ◌≤◌, ◌<◌, Result, Ok, Err, sym, ◌∙◌, refl, arith}
use Rattle.annotations.specs.Walk.{steps}

module _ {S : Type 0} (step : S → Result S ℕ) (count i : ℕ) (s : S) (total : Result S ℕ) where
  pub goes_on : (next : S) → i < count → step s ≡ Ok next → steps step (count - i) s ≡ total → steps step (count - (i + 1)) next ≡ total
  unfolding steps
  goes_on next lt h so_far =
      let k : count - i ≡ suc (count - (i + 1)) = omega arith in
      let one : steps step (count - i) s ≡ steps step (count - (i + 1)) next = rw (k, h) refl in
      sym one ∙ so_far

  pub ends : (e : ℕ) → i < count → step s ≡ Err e → steps step (count - i) s ≡ total → total ≡ Err e
  unfolding steps
  ends e lt h so_far =
      let k : count - i ≡ suc (count - (i + 1)) = omega arith in
      let one : steps step (count - i) s ≡ Err e = rw (k, h) refl in
      sym so_far ∙ one

  pub is_done : count ≤ i → steps step (count - i) s ≡ total → total ≡ Ok s
  unfolding steps
  is_done le so_far =
      let k : count - i ≡ 0 = omega arith in
      let one : steps step (count - i) s ≡ Ok s = rw k refl in
      sym so_far ∙ one
