use Rattle.std.proofs.Common.{◌≡◌, zero-add}
use Rattle.std.proofs.lemmas.List.FromFn.{map-range_with_len_more}
use Rattle.bankgen.specs.Transfers.{after, transfer}
use Rattle.bankgen.proofs.transfers.transfers.Goals as goal

pub loop-k-init : goal.loop-k-init
unfolding after
loop-k-init c = (c.new-drawn.ensures.items, c.from-state.ensures)

pub loop-k-preserved : goal.loop-k-preserved
loop-k-preserved c =
    let n : c.next_transfer.result ≡ transfer c.args.seed c.args.accounts c.loop-k._k = c.next_transfer.ensures.transfer _ _ c.loop-k.invariant.1 in
    let e = map-range_with_len_more (transfer c.args.seed c.args.accounts) 0 c.loop-k._k c.loop-k._k (zero-add c.loop-k._k) in
    let p = c.in_ok-push.ensures.items in
    (cc (n, e, p, c.loop-k.invariant.0), c.next_transfer.ensures.state _ _ c.loop-k.invariant.1)
