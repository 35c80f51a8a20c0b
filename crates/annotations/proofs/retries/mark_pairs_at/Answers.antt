use Rattle.std.proofs.Common.{sym}
use Rattle.std.specs.Prelude.{None}
use Rattle.std.proofs.lemmas.Result.{err_from_is_err_and}
use Rattle.annotations.specs.Walk.{mark_pair_end, mark_pairs_end, value_end, steps}
use Rattle.annotations.proofs.Steps.{goes_on, ends, is_done}
use Rattle.annotations.proofs.retries.mark_pairs_at.Goals as goal

pub returns-in_err-next : goal.returns-in_err-next
unfolding mark_pairs_end
returns-in_err-next c =
    let step = mark_pair_end c.args.pool.now (value_end 16 c.args.pool.now c.args.bytes.now) c.args.bytes.now in
    let p = err_from_is_err_and c.from_residual-in_err-next.result c.from_residual-in_err-next.ensures.1 in
    rw (p.1, p.2, sym c.in_ok-count.ensures) (sym (ends step c.in_ok-count.count c.loop.counter (c.loop.found, c.loop.at) (steps step c.in_ok-count.count (None, c.in_ok-count.start)) c.in_err-next.field-0.0 c.loop-test.true (sym c.in_err-next.ensures) c.loop.invariant))

pub loop-preserved : goal.loop-preserved
loop-preserved c =
    let step = mark_pair_end c.args.pool.now (value_end 16 c.args.pool.now c.args.bytes.now) c.args.bytes.now in
    goes_on step c.in_ok-count.count c.loop.counter (c.loop.found, c.loop.at) (steps step c.in_ok-count.count (None, c.in_ok-count.start)) (c.in_ok-next.next, c.in_ok-next.after) c.loop-test.true (sym c.in_ok-next.ensures) c.loop.invariant

pub returns : goal.returns
unfolding mark_pairs_end
returns c =
    let step = mark_pair_end c.args.pool.now (value_end 16 c.args.pool.now c.args.bytes.now) c.args.bytes.now in
    rw (sym c.in_ok-count.ensures) (sym (is_done step c.in_ok-count.count c.loop.counter (c.loop.found, c.loop.at) (steps step c.in_ok-count.count (None, c.in_ok-count.start)) c.loop-test.false c.loop.invariant))
