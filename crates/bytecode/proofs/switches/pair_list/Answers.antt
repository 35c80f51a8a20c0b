use Rattle.std.proofs.lemmas.Result.{err_from_is_err_and}
use Rattle.jmodel.specs.format.Reading.{items_at}
use Rattle.jmodel.specs.format.InstructionReading.{pair_at}
use Rattle.const_pool.proofs.Loops.{goes_on, ends, is_done}
use Rattle.bytecode.proofs.switches.pair_list.Goals as goal

pub returns-in_err-item : goal.returns-in_err-item
returns-in_err-item c =
    let read = pair_at c.args.pc c.args.bytes.now in
    let p = err_from_is_err_and c.from_residual.result c.from_residual.ensures.1 in
    rw (p.1, p.2) (ends read c.in_err-item.field-0.0 c.loop.items.items c.args.count c.loop.counter c.loop.at (items_at read c.args.count c.args.start) c.loop-test.true c.in_err-item.ensures c.loop.invariant)

pub loop-preserved : goal.loop-preserved
loop-preserved c =
    let read = pair_at c.args.pc c.args.bytes.now in
    rw c.in_ok-push.ensures.items (goes_on read c.loop.items.items c.args.count c.loop.counter c.loop.at c.in_ok-item.item c.in_ok-item.after (items_at read c.args.count c.args.start) c.loop-test.true c.in_ok-item.ensures c.loop.invariant)

pub returns : goal.returns
returns c =
    let read = pair_at c.args.pc c.args.bytes.now in
    is_done read c.loop.items.items c.args.count c.loop.counter c.loop.at (items_at read c.args.count c.args.start) c.loop-test.false c.loop.invariant
