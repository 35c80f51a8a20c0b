use Rattle.std.proofs.Common.{sym}
use Rattle.std.proofs.lemmas.Result.{err_from_is_err_and}
use Rattle.annotations.specs.Walk.{pair_end, pairs_end, values_end, value_end, steps}
use Rattle.annotations.proofs.Steps.{goes_on, ends, is_done}
use Rattle.annotations.proofs.values.+values.Goals as goal

pub pairs_at-returns-in_err-at : goal.pairs_at-returns-in_err-at
unfolding pairs_end
pairs_at-returns-in_err-at t c =
    let step = pair_end c.args.pool.now (value_end c.args.depth c.args.pool.now c.args.bytes.now) c.args.bytes.now in
    let p = err_from_is_err_and c.from_residual-in_err-at.result c.from_residual-in_err-at.ensures.1 in
    rw (p.1, p.2, sym c.in_ok-count.ensures) (sym (ends step c.in_ok-count.count c.loop.counter c.loop.at (steps step c.in_ok-count.count c.in_ok-count.start) c.in_err-at.field-0.0 c.loop-test.true (sym c.in_err-at.ensures) c.loop.invariant))

pub pairs_at-loop-preserved : goal.pairs_at-loop-preserved
pairs_at-loop-preserved t c =
    let step = pair_end c.args.pool.now (value_end c.args.depth c.args.pool.now c.args.bytes.now) c.args.bytes.now in
    goes_on step c.in_ok-count.count c.loop.counter c.loop.at (steps step c.in_ok-count.count c.in_ok-count.start) c.in_ok-at.at c.loop-test.true (sym c.in_ok-at.ensures) c.loop.invariant

pub pairs_at-returns : goal.pairs_at-returns
unfolding pairs_end
pairs_at-returns t c =
    let step = pair_end c.args.pool.now (value_end c.args.depth c.args.pool.now c.args.bytes.now) c.args.bytes.now in
    rw (sym c.in_ok-count.ensures) (sym (is_done step c.in_ok-count.count c.loop.counter c.loop.at (steps step c.in_ok-count.count c.in_ok-count.start) c.loop-test.false c.loop.invariant))

pub values_at-returns-in_err-at : goal.values_at-returns-in_err-at
unfolding values_end
values_at-returns-in_err-at t c =
    let step = value_end c.args.depth c.args.pool.now c.args.bytes.now in
    let p = err_from_is_err_and c.from_residual-in_err-at.result c.from_residual-in_err-at.ensures.1 in
    rw (p.1, p.2, sym c.in_ok-count.ensures) (sym (ends step c.in_ok-count.count c.loop.counter c.loop.at (steps step c.in_ok-count.count c.in_ok-count.start) c.in_err-at.field-0.0 c.loop-test.true (sym c.in_err-at.ensures) c.loop.invariant))

pub values_at-loop-preserved : goal.values_at-loop-preserved
values_at-loop-preserved t c =
    let step = value_end c.args.depth c.args.pool.now c.args.bytes.now in
    goes_on step c.in_ok-count.count c.loop.counter c.loop.at (steps step c.in_ok-count.count c.in_ok-count.start) c.in_ok-at.at c.loop-test.true (sym c.in_ok-at.ensures) c.loop.invariant

pub values_at-returns : goal.values_at-returns
unfolding values_end
values_at-returns t c =
    let step = value_end c.args.depth c.args.pool.now c.args.bytes.now in
    rw (sym c.in_ok-count.ensures) (sym (is_done step c.in_ok-count.count c.loop.counter c.loop.at (steps step c.in_ok-count.count c.in_ok-count.start) c.loop-test.false c.loop.invariant))
