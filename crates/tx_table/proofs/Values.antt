-- The value of an address at a time.
use Rattle.std.proofs.Common.{◌≡◌, ◌≢◌, ℕ, zero, suc, ◌<◌, ◌≤◌, List, ◌∷◌, sym, refl, ap, ◌∙◌, arith}
use mathlib.Core.Option.{Option, none, some}
use mathlib.Core.Logic.{dite}
use native.Mathlib.Decide.{ℕ_discrete}
use Rattle.jmodel.specs.history.History.{Entry}
use Rattle.tx_table.specs.Book.{lookup, pairs}
use Rattle.tx_table.specs.Rule.{Writes, first_of, wrote, or_old, value}
use Rattle.tx_table.proofs.MapLaws.{eq_cond, ne_cond}

module _ (o : ℕ → ℕ) where
  -- the value at t depends on the log up to t alone
  pub value_same : (L M : Writes) (t a : ℕ) → ((s : ℕ) → s ≤ t → M s a ≡ L s a) → value o M t a ≡ value o L t a
  value_same L M zero a h = refl
  value_same L M (suc t) a h = let p = h (suc t) (omega arith) in let q = value_same L M t a (λ s l. h s (omega arith)) in λ i. or_old (p i) (q i)

  pub value_still : (L : Writes) (u t a : ℕ) → u ≤ t → ((s : ℕ) → u < s → s ≤ t → L s a ≡ none) → value o L t a ≡ value o L u a
  value_still L u zero a l h = ap (λ (n : ℕ). value o L n a) (let e : 0 ≡ u = omega arith in e)
  value_still L u (suc t) a l h = dite (ℕ_discrete u (suc t))
      (λ e. ap (λ (n : ℕ). value o L n a) (sym e))
      (λ n. ap (λ z. or_old z (value o L t a)) (h (suc t) (omega arith) (omega arith)) ∙ value_still L u t a (omega arith) (λ s p q. h s p (omega arith)))

  pub value_at : (L : Writes) (t a x : ℕ) → 0 < t → L t a ≡ some x → value o L t a ≡ x
  value_at L zero a x l e = absurd (omega arith)
  value_at L (suc t) a x l e = ap (λ z. or_old z (value o L t a)) e

-- a new entry with the stamp w
pub wrote_else : (e : Entry) (H : List Entry) (t a : ℕ) → e.stamp.at ≢ t → wrote (e ∷ H) t a ≡ wrote H t a
wrote_else e H t a n = ne_cond e.stamp.at t (first_of (lookup (pairs e.writes) a) (wrote H t a)) (wrote H t a) n

pub wrote_here : (e : Entry) (H : List Entry) (a : ℕ) → wrote H e.stamp.at a ≡ none → wrote (e ∷ H) e.stamp.at a ≡ lookup (pairs e.writes) a
wrote_here e H a n = eq_cond e.stamp.at e.stamp.at (first_of (lookup (pairs e.writes) a) (wrote H e.stamp.at a)) (wrote H e.stamp.at a) refl ∙ (ap (first_of (lookup (pairs e.writes) a)) n ∙ first_none (lookup (pairs e.writes) a))
  where
    first_none : (z : Option ℕ) → first_of z none ≡ z
    first_none none = refl
    first_none (some x) = refl

pub wrote_unread : (e : Entry) (H : List Entry) (t a : ℕ) → lookup (pairs e.writes) a ≡ none → wrote (e ∷ H) t a ≡ wrote H t a
wrote_unread e H t a n = dite (ℕ_discrete e.stamp.at t)
    (λ h. eq_cond e.stamp.at t (first_of (lookup (pairs e.writes) a) (wrote H t a)) (wrote H t a) h ∙ ap (λ z. first_of z (wrote H t a)) n)
    (λ m. wrote_else e H t a m)
