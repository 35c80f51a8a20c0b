-- The order of a journal.
use Rattle.std.proofs.Common.{◌≡◌, ◌<◌, ◌+◌, ℕ, Bool, true, false, not, ◌&&◌, ◌||◌, nat_lt, refl, ◌∙◌, ⊎_elim, arith, lt-ltb, ltb-true}
use Rattle.std.proofs.lemmas.Bool.Decides.{nat_tests}
use Rattle.jmodel.specs.history.History.{Told, round, first_by, comes_first}
use Rattle.tx_table.proofs.Order.{first_less, first_same, first_true}
use Rattle.driver.specs.Over.{Shown, as_shown, KeepsLane, IsOfRegion, StandsBehind}

-- where numbers are the same, what comes then may be replaced
first_kept : (x y : ℕ) (r q : Bool) → (x ≡ y → r ≡ true → q ≡ true) → first_by x y r ≡ true → first_by x y q ≡ true
first_kept x y r q f h = ⊎_elim (λ l. first_less x y q l) (λ (e : (x ≡ y) × (r ≡ true)). first_same x y q e.0 ∙ f e.0 e.1) (first_true x y r h)

abbrev Kind : Bool → Bool → Bool → Bool
Kind u v r = (u && not v) || ((u || not v) && r)

kind_kept : (u v r q : Bool) → (r ≡ true → q ≡ true) → Kind u v r ≡ true → Kind u v q ≡ true
kind_kept true true r q f h = f h
kind_kept true false r q f h = refl
kind_kept false true r q f h = cc
kind_kept false false r q f h = f h

-- two calls by the indexes that the journal gives them
pub order_shown : (s t : Shown) → IsOfRegion s.made → IsOfRegion t.made → KeepsLane s t → comes_first s.made t.made ≡ true → comes_first (as_shown s) (as_shown t) ≡ true
order_shown s t here there kept h =
    let a = s.made in
    let b = t.made in
    let low : Bool = nat_lt a.call.index b.call.index in
    let shown : Bool = nat_lt s.index t.index in
    let lanes : Bool → Bool = λ r. first_by a.call.lane b.call.lane r in
    let rounds : Bool → Bool = λ r. first_by (round a.call) (round b.call) (lanes r) in
    first_kept a.stamp.at b.stamp.at (Kind a.stamp.update b.stamp.update (rounds low)) (Kind a.stamp.update b.stamp.update (rounds shown))
    (λ e. kind_kept a.stamp.update b.stamp.update (rounds low) (rounds shown)
    (first_kept (round a.call) (round b.call) (lanes low) (lanes shown)
    (λ round. first_kept a.call.lane b.call.lane low shown
    (λ lane is. lt-ltb s.index t.index (kept (one_phase a b here there round) lane (ltb-true a.call.index b.call.index is)))))) h
  where
    round_of : (t : Told) → IsOfRegion t → round t.call ≡ t.call.phase + 1
    round_of t region = grind (arith, nat_tests)

    one_phase : (a b : Told) → IsOfRegion a → IsOfRegion b → round a.call ≡ round b.call → a.call.phase ≡ b.call.phase
    one_phase a b here there same = let first = round_of a here in let second = round_of b there in omega (arith, first, second, same)

an_update : (u v r : Bool) → Kind u v r ≡ true → v ≡ true → u ≡ true
an_update true v r h up = refl
an_update false true r h up = cc
an_update false false r h up = cc

-- what comes first isn't over what comes behind it, and below it where that is an update
pub behind_first : (a b : Told) → ((a.stamp.update ≡ true) × (b.stamp.update ≡ true) × (a.stamp.at ≡ b.stamp.at) → ⊥) → comes_first a b ≡ true → StandsBehind a.stamp.at b
behind_first a b apart h =
    let rest : Bool = first_by (round a.call) (round b.call) (first_by a.call.lane b.call.lane (nat_lt a.call.index b.call.index)) in
    ⊎_elim (λ (l : a.stamp.at < b.stamp.at). (omega arith, λ up. l))
    (λ (e : (a.stamp.at ≡ b.stamp.at) × (Kind a.stamp.update b.stamp.update rest ≡ true)).
    (let same = e.0 in omega arith, λ up. absurd (apart (an_update a.stamp.update b.stamp.update rest e.1 up, up, e.0))))
    (first_true a.stamp.at b.stamp.at (Kind a.stamp.update b.stamp.update rest) h)
