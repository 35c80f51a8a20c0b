use Rattle.std.proofs.lemmas.Result.{err_from_is_err_and}
use Rattle.jmodel.specs.format.Reading.{items_at}
use Rattle.jmodel.specs.format.ClassFileReading.{members_at}
use Rattle.const_pool.proofs.Loops.{goes_on, ends, is_done}
use Rattle.class_reader.specs.Heads.{read_as}
use Rattle.class_reader.proofs.lists.members_at.Goals as goal

pub returns-in_err-item : goal.returns-in_err-item
unfolding members_at
returns-in_err-item c =
    let read = read_as c.args.kind c.args.pool.now c.args.bytes.now in
    let count = c.in_ok-count.count in
    let start = c.in_ok-count.start in
    let p = err_from_is_err_and c.from_residual-in_err-item.result c.from_residual-in_err-item.ensures.1 in
    rw (p.1, p.2, c.in_ok-count.ensures) (ends read c.in_err-item.field-0.0 c.loop.items.items count c.loop.counter c.loop.at (items_at read count start) c.loop-test.true c.in_err-item.ensures c.loop.invariant)

pub loop-preserved : goal.loop-preserved
loop-preserved c =
    let read = read_as c.args.kind c.args.pool.now c.args.bytes.now in
    let count = c.in_ok-count.count in
    let start = c.in_ok-count.start in
    rw c.in_ok-push.ensures.items (goes_on read c.loop.items.items count c.loop.counter c.loop.at c.in_ok-item.item c.in_ok-item.after (items_at read count start) c.loop-test.true c.in_ok-item.ensures c.loop.invariant)

pub returns : goal.returns
unfolding members_at
returns c =
    let read = read_as c.args.kind c.args.pool.now c.args.bytes.now in
    let count = c.in_ok-count.count in
    let start = c.in_ok-count.start in
    rw c.in_ok-count.ensures (is_done read c.loop.items.items count c.loop.counter c.loop.at (items_at read count start) c.loop-test.false c.loop.invariant)
