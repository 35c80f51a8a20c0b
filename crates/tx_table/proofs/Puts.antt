-- A function that changes at one place.
use Rattle.std.proofs.Common.{◌==◌, ◌≡◌, ◌≢◌, ◌⊎◌, ℕ, cond, sym, refl, ◌∙◌, inl, inr}
use mathlib.Core.Logic.{dite}
use native.Mathlib.Decide.{ℕ_discrete}
use Rattle.tx_table.proofs.MapLaws.{eq_cond, ne_cond}

module _ {A : Type 0} (f : ℕ → A) (i : ℕ) (x : A) where
  abbrev pub put : ℕ → A
  put j = cond (j == i) x (f j)

  pub put_here : put i ≡ x
  put_here = eq_cond i i x (f i) refl

  pub put_else : (j : ℕ) → j ≢ i → put j ≡ f j
  put_else j n = ne_cond j i x (f j) n

  pub put_or : (j : ℕ) (y : A) → put j ≡ y → ((j ≡ i) × (x ≡ y)) ⊎ ((j ≢ i) × (f j ≡ y))
  put_or j y e = dite (ℕ_discrete j i) (λ h. inl (h, sym (eq_cond j i x (f j) h) ∙ e)) (λ n. inr (n, sym (put_else j n) ∙ e))
