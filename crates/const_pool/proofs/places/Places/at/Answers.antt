use Rattle.std.proofs.Common.{sym, ◌∙◌}
use Rattle.const_pool.proofs.Kept.{kept_at}
use Rattle.const_pool.proofs.places.Places.at.Goals as goal

pub returns-in-Some : goal.returns-in-Some
returns-in-Some c =
    let found = c.in-Some.ensures.lookup in
    kept_at c.args.self.now c.as_slice.result.now c.args.entries.now c.args.i c.in_ok-text.text.now c.in-Some.count.now c.requires (c.as_slice.ensures.value ∙ c.self.view_is) (sym c.in_ok-text.ensures) (sym found.0) found.1
