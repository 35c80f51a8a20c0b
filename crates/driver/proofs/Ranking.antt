-- What is kept of calls, by the order of history.
use Rattle.std.proofs.Common.{◌≡◌, ℕ, ◌+◌, Bool, true, false, cond, ◌&&◌, ◌||◌, not, nat_eq, nat_lt, List, get_or, refl, sym, ap, ◌∙◌}
use Rattle.std.specs.List.Sorted.{IsSortedBy}
use Rattle.std.specs.Ordering.{is_lt, ordering_then, nat_cmp, bool_cmp}
use Rattle.std.specs.declared.cmp.Ordering.{Ordering}
use Rattle.std.specs.declared.cmp.Ordering.TheVariants.{Less, Equal, Greater}
use Rattle.jmodel.specs.history.History.{first_by}
use Rattle.session.specs.declared.record.Record.{Record}
use Rattle.driver.specs.Order.{stands_before}

-- one number before another, or the same and then
then_by : (x y : ℕ) (o : Ordering) → is_lt (ordering_then (nat_cmp x y) o) ≡ first_by x y (is_lt o)
then_by x y o = go (nat_lt x y) (nat_eq x y)
  where
    go : (b e : Bool) → is_lt (ordering_then (cond b Less (cond e Equal Greater)) o) ≡ (b || (e && is_lt o))
    go true e = refl
    go false true = refl
    go false false = refl

-- a lone number
by_last : (x y : ℕ) → is_lt (nat_cmp x y) ≡ nat_lt x y
by_last x y = go (nat_lt x y) (nat_eq x y)
  where
    go : (b e : Bool) → is_lt (cond b Less (cond e Equal Greater)) ≡ b
    go true e = refl
    go false true = refl
    go false false = refl

-- an update before readers
by_kind : (u v : Bool) (o : Ordering) → is_lt (ordering_then (bool_cmp (not u) (not v)) o) ≡ ((u && not v) || ((u || not v) && is_lt o))
by_kind true true o = refl
by_kind true false o = refl
by_kind false true o = refl
by_kind false false o = refl

-- the first that tells counts, from either end
then_assoc : (a b c : Ordering) → ordering_then (ordering_then a b) c ≡ ordering_then a (ordering_then b c)
then_assoc Less b c = refl
then_assoc Equal b c = refl
then_assoc Greater b c = refl

abbrev pub compared : Record → Record → Ordering
compared a b =
    ordering_then (ordering_then (ordering_then (nat_cmp a.stamp.at b.stamp.at) (bool_cmp (not a.stamp.update) (not b.stamp.update)))
    (nat_cmp a.lane b.lane)) (nat_cmp a.index b.index)

-- the order of the keys is the order of history
pub compared_is : (a b : Record) → is_lt (compared a b) ≡ stands_before a b
compared_is a b =
    let at = nat_cmp a.stamp.at b.stamp.at in
    let kind = bool_cmp (not a.stamp.update) (not b.stamp.update) in
    let lane = nat_cmp a.lane b.lane in
    let index = nat_cmp a.index b.index in
    let kinds : Bool → Bool = λ r. (a.stamp.update && not b.stamp.update) || ((a.stamp.update || not b.stamp.update) && r) in
    ap is_lt (ap (λ (o : Ordering). ordering_then o index) (then_assoc at kind lane)
    ∙ then_assoc at (ordering_then kind lane) index ∙ ap (ordering_then at) (then_assoc kind lane index))
    ∙ then_by a.stamp.at b.stamp.at (ordering_then kind (ordering_then lane index))
    ∙ ap (first_by a.stamp.at b.stamp.at) (by_kind a.stamp.update b.stamp.update (ordering_then lane index)
    ∙ ap kinds (then_by a.lane b.lane index ∙ ap (first_by a.lane b.lane) (by_last a.index b.index)))

-- what ascends by its keys stands in the order of history
pub ranked : (xs : List Record) → IsSortedBy (λ a b. is_lt (compared a b)) xs → IsSortedBy stands_before xs
ranked xs sorted k d low high = sym (compared_is (get_or xs (k + 1) d) (get_or xs k d)) ∙ sorted k d low high
