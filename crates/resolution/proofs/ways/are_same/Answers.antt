use Rattle.std.proofs.Common.{◌≡◌, ℕ, ◌<◌, length, sym, ◌∙◌, arith, below_more}
use Rattle.resolution.specs.Ways.{entry_at}
use Rattle.resolution.proofs.Tables.{lists, entry_is}
use Rattle.resolution.proofs.ways.are_same.Goals as goal

pub loop-place-preserved : goal.loop-place-preserved
loop-place-preserved c =
    let table = c.args.table.now in
    let other = c.args.other.now in
    let i : ℕ = c.loop-place.place in
    let inside : i < length other = let many = c.if-table-other.false in let below = c.loop-place-test.true in omega (arith, many, below) in
    let own = entry_is table i c.index-table-place.result c.loop-place-test.true c.index-table-place.is ∙ sym c.as_slice.ensures.value in
    let its = entry_is other i c.index-other-place.result inside c.index-other-place.is ∙ sym c.as_slice-in-loop-place.ensures.value in
    below_more (λ (p : ℕ). entry_at (lists table) p ≡ entry_at (lists other) p) i c.loop-place.invariant (own ∙ c.are_equal.ensures c.if-not-are_equal.false ∙ sym its)
