-- The item of this turn is not it.
use Rattle.std.proofs.Common.{◌≢◌, ◌∙◌, ℕ, Bool, List, get_or, sym, rules}
use borrow.Author.Count.{below_more}
use Rattle.deuce_io.specs.Files.{seen_items}
use Rattle.deuce_io.proofs.Items.{seen_at}
use Rattle.deuce_io.proofs.listing.has.Goals as goal

pub loop-item-preserved : goal.loop-item-preserved
loop-item-preserved c =
    let items = c.args.items.now in
    let i = c.loop-item.item-index in
    below_more (λ k. (d : List ℕ × Bool) → get_or (seen_items items) k d ≢ (c.args.name.now, c.args.folder)) i c.loop-item.invariant
    (λ d e. let is = c.is.ensures.1 (sym (seen_at items i c.item-item.result d c.loop-item-test.true c.item-item.is) ∙ e) in search rules)
