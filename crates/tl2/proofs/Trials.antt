-- Attempts of the tests.
use Rattle.std.proofs.Common.{◌≡◌, ◌≢◌, ◌<◌, ◌==◌, ℕ, zero, suc, ◌+◌, Bool, true, false, cond, Result, Ok, Err, MatchResult, [], ◌∷◌, refl, sym, inr, ap, ◌∙◌, arith, eq-eqb, ne_eqb}
use mathlib.Core.Logic.{dite}
use native.Mathlib.Decide.{ℕ_discrete}
use mathlib.Core.Option.{Option, none, some}
use Rattle.tx_table.specs.Book.{Map, Book, Region, lookup, only}
use Rattle.tx_table.specs.Plays.{opening_regions, stays_here, goes_out, inverse}
use Rattle.tx_table.specs.Trials.{the_call, Before}
use Rattle.jmodel.specs.history.History.{Call}
use Rattle.tx_table.proofs.MapLaws.{lookup_here, eq_cond, ne_cond}
use Rattle.tx_table.proofs.Trying.{comes_after}
use Rattle.tl2.specs.Standing.{Awaits}
use Rattle.tl2.specs.Trials.{IsWaiting, of_lane, regions_below}

-- what follows from both answers, follows
pub either_way : {A E X : Type 0} {P : A → Type 0} {Q : E → Type 0} (r : Result A E) → MatchResult r P Q → ((a : A) → P a → X) → ((e : E) → Q e → X) → X
either_way (Ok a) m f g = f a m
either_way (Err e) m f g = g e m

-- the lane's next call may come
pub awaits_next : (lane index : ℕ) (v : Book) → IsWaiting lane index v → Awaits (the_call lane index) v (the_call lane index) 0
awaits_next lane index v w = (refl, inr refl, (w.0, w.1, w.2, comes_after lane index w.0.last w.3))

-- and the one after it, whether or not it came
pub waits_more : (lane index used : ℕ) (v w : Book) → used ≡ 0 → w.regions ≡ (suc lane, record { used = used; last = some (the_call lane index) }) ∷ v.regions → IsWaiting lane (index + 1) w
waits_more lane index used v w unused e =
    let g : Region = record { used = used; last = some (the_call lane index) } in
    (g, ap (λ m. lookup m (suc lane)) e ∙ lookup_here v.regions (suc lane) g, unused, (index, omega arith, refl))

pub waits_still : (lane index : ℕ) (v w : Book) → w.regions ≡ v.regions → IsWaiting lane index v → IsWaiting lane (index + 1) w
waits_still lane index v w e k = (k.0, ap (λ m. lookup m (suc lane)) e ∙ k.1, k.2, later k.0.last k.3)
  where
    later : (z : Option Call) → Before lane index z → Before lane (index + 1) z
    later none b = tt
    later (some c) b = let l = b.1 in (b.0, omega arith, b.2)

-- a key that is kept is looked up as before
kept_by : {A : Type 0} (p : ℕ → Bool) (m : Map A) (a : ℕ) → p a ≡ true → lookup (only p m) a ≡ lookup m a
kept_by p [] a t = refl
kept_by {A} p (y ∷ ys) a t = by (p y.0) refl (kept_by p ys a t)
  where
    by : (b : Bool) → p y.0 ≡ b → lookup (only p ys) a ≡ lookup ys a → lookup (cond b (y ∷ only p ys) (only p ys)) a ≡ cond (y.0 == a) (some y.1) (lookup ys a)
    by true e rest = ap (λ (z : Option A). cond (y.0 == a) (some y.1) z) rest
    by false e rest =
        let other : y.0 ≢ a = λ q. let no : false ≡ true = sym e ∙ ap p q ∙ t in cc no in
        rest ∙ sym (ne_cond y.0 a (some y.1) (lookup ys a) other)

-- a region of a table that was just opened
pub opened_at : (n k : ℕ) → k < n → lookup (opening_regions (regions_below n)) k ≡ some (record { used = 0; last = none })
opened_at zero k l = let no : ⊥ = omega arith in absurd no
opened_at (suc n) k l =
    let g : Region = record { used = 0; last = none } in
    dite (ℕ_discrete n k) (λ e. eq_cond n k (some g) (lookup (opening_regions (regions_below n)) k) e) (λ m. ne_cond n k (some g) (lookup (opening_regions (regions_below n)) k) m ∙ opened_at n k (omega arith))

-- the pass of a lane has its region
pub lane_waits : (lane : ℕ) (v : Book) → lookup v.regions (suc lane) ≡ some (record { used = 0; last = none }) → IsWaiting lane 0 (goes_out (of_lane lane) v)
lane_waits lane v e = (record { used = 0; last = none }, kept_by (of_lane lane) v.regions (suc lane) (eq-eqb (suc lane) (suc lane) refl) ∙ e, refl, tt)

-- the other regions stay
pub lane_stays : (lane k : ℕ) (v : Book) → lane < k → lookup (stays_here (of_lane lane) v).regions (suc k) ≡ lookup v.regions (suc k)
lane_stays lane k v l =
    let other : suc k ≢ suc lane = λ e. let no : ⊥ = omega arith in no in
    kept_by (inverse (of_lane lane)) v.regions (suc k) (ap (λ (b : Bool). cond b false true) (ne_eqb (suc k) (suc lane) other))
