-- What the heap shows.
use Rattle.std.proofs.Common.{◌≡◌, ◌≢◌, ◌⊎◌, ℕ, zero, suc, ◌<◌, ◌≤◌, sym, refl, ap, ◌∙◌, inl, inr, ⊎_elim, arith}
use mathlib.Core.Option.{Option, none, some}
use mathlib.Core.Logic.{dite}
use native.Mathlib.Decide.{dec_le}
use Rattle.tx_table.specs.Book.{Has, Stage, Unticked, Ticked, Decided}
use Rattle.tx_table.specs.Rule.{stripe, value, World, Clear, Watch, Catch, Locks}
use Rattle.tx_table.proofs.Values.{value_still}

pub nothing_or : (z : Option ℕ) → ((x : ℕ) → z ≡ some x → ⊥) → z ≡ none
nothing_or none h = refl
nothing_or (some x) h = absurd (h x refl)

pub decided_or : (z : Stage) → (z ≡ Decided) ⊎ (z ≢ Decided)
decided_or Decided = inl refl
decided_or Unticked = inr (λ e. cc e)
decided_or Ticked = inr (λ e. cc e)

pub calm_or : (z : Stage) → (z ≡ Unticked) ⊎ (z ≢ Unticked)
calm_or Unticked = inl refl
calm_or Ticked = inr (λ e. cc e)
calm_or Decided = inr (λ e. cc e)

pub ticked_busy : (z : Stage) → z ≡ Ticked → z ≢ Unticked
ticked_busy z e h = let m : Ticked ≡ Unticked = sym e ∙ h in cc m

pub decided_busy : (z : Stage) → z ≡ Decided → z ≢ Unticked
decided_busy z e h = let m : Decided ≡ Unticked = sym e ∙ h in cc m

module _ (o : ℕ → ℕ) (op : ℕ → ℕ) (W : World) (r : Locks o op W) where
  abbrev pub Quiet : ℕ → Type 0
  Quiet s = (k : ℕ) → W.holder s ≡ suc k → (W.faces k).stage ≢ Decided

  -- no entry over the version wrote there
  pub unwritten : (a t : ℕ) → Quiet (stripe a) → W.ver (stripe a) < t → W.log t a ≡ none
  unwritten a t q l = nothing_or (W.log t a) (λ x e. let w = r.quiet t a x l e in q w.0 w.1 w.2)

  pub still : (a t u : ℕ) → Quiet (stripe a) → W.ver (stripe a) ≤ t → t ≤ u → value o W.log u a ≡ value o W.log t a
  still a t u q l m = value_still o W.log t u a m (λ s p _. unwritten a s q (omega arith))

  pub settled : (a t : ℕ) → Quiet (stripe a) → W.ver (stripe a) ≤ t → t ≤ W.clock → W.mem a ≡ value o W.log t a
  settled a t q l m = ⊎_elim (λ e. e ∙ still a t W.clock q l m)
      (λ (h : (k : ℕ) × Has (W.faces k).left a). let d = (r.grip h.0).left a h.1.0 h.1.1 in absurd (q h.0 d.2 d.0)) (r.heap a)

  -- a free stripe, or one held by an attempt with no tick up to t, is clear at t
  pub clears : (a c t : ℕ) → ((k : ℕ) → W.holder (stripe a) ≡ suc k → (W.faces k).stage ≢ Unticked → suc k ≢ c → t < (W.faces k).tick) → Clear W.faces c t a
  clears a c t h k n ticked due = h k ((r.grip k).owns a ticked due) (ticked_busy (W.faces k).stage ticked) n

  pub quiet_or : (s : ℕ) → ((k : ℕ) × (W.holder s ≡ suc k) × ((W.faces k).stage ≡ Decided)) ⊎ Quiet s
  quiet_or s = at (W.holder s) refl
    where
      at : (h : ℕ) → W.holder s ≡ h → ((k : ℕ) × (W.holder s ≡ suc k) × ((W.faces k).stage ≡ Decided)) ⊎ Quiet s
      at zero e = inr (λ k f. absurd (omega arith))
      at (suc j) e = ⊎_elim (λ d. inl (j, e, d)) (λ n. inr (λ k f d. let m : k ≡ j = omega arith in n (ap (λ i. (W.faces i).stage) (sym m) ∙ d))) (decided_or (W.faces j).stage)

  pub catches : (a c bound v : ℕ) → bound ≤ W.clock → Watch o op W bound (stripe a) v → Catch o op W c bound a (W.mem a)
  catches a c bound v m w = dite (dec_le (W.ver (stripe a)) bound)
      (λ l. ⊎_elim (λ d. inr (inr d)) (λ q. inl (sym (settled a bound q l m), clears a c bound (λ k h s _. w.1 k h s))) (quiet_or (stripe a)))
      (λ n. inr (inl (omega arith)))
