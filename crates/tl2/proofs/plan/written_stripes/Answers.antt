use Rattle.std.proofs.Common.{◌≡◌, ◌∷◌, ℕ, false, reverse, refl}
use Rattle.jmodel.specs.history.Log.{Log}
use Rattle.tx_table.specs.Book.{pairs}
use Rattle.tl2.proofs.Plans.{writing_first, writing_more, writing_done}
use Rattle.tl2.proofs.plan.written_stripes.Goals as goal

pub loop-address-init : goal.loop-address-init
loop-address-init c =
    let w : Log = reverse c.args.writes.now.items in
    rw c.into_iter-address-iterator.ensures.into_iter_gives (writing_first w c.iter-address-items.result c.iter-address-items.ensures.words c.new-stripes.result c.new-stripes.ensures.empty)

pub loop-address-preserved : goal.loop-address-preserved
loop-address-preserved c =
    let due = pairs (reverse c.args.writes.now.items) in
    let rest = c.next.new.self in
    let a : ℕ = c.in-Some.address.now in
    let first : c.loop-address.address-iterator ≡ (a, c.in-Some._word.now) ∷ rest = c.in-Some.ensures.steps in
    let updates = c.in_ok-insert.ensures.updates.0 in
    writing_more due rest c.loop-address.stripes c.insert.new.self (record { address = a; was_read = false; word = 0 }) c.in-Some._word.now refl (rw c.number.ensures at updates) (rw first at c.loop-address.invariant)

pub returns : goal.returns
returns c = writing_done (pairs (reverse c.args.writes.now.items)) c.loop-address.stripes (rw c.in-None.ensures.steps.0 at c.loop-address.invariant)
