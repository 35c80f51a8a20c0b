use Rattle.std.proofs.lemmas.Result.{err_from_is_err_and}
use Rattle.jmodel.specs.format.ClassFileReading.{method_attribute_at, full_name}
use Rattle.const_pool.proofs.Loops.{goes_on, ends, is_done}
use Rattle.class_reader.proofs.Steps.{here, attribute_ok, attribute_fails, judge_fails}
use Rattle.class_reader.proofs.methods.attribute_list.Goals as goal

pub returns-in_err-item : goal.returns-in_err-item
returns-in_err-item c =
    let read = method_attribute_at c.args.pool.now c.args.none (full_name c.args.pool.now c.args.head.name c.args.head.descriptor) c.args.bytes.now in
    let p = err_from_is_err_and c.from_residual.result c.from_residual.ensures.1 in
    let s = here c.args.pool.now c.args.none (full_name c.args.pool.now c.args.head.name c.args.head.descriptor) c.args.bytes.now c.loop.found c.loop.at in
    rw (p.1, p.2) (ends read c.in_err-item.field-0.0 c.loop.items.items c.args.count c.loop.counter s _ c.loop-test.true (attribute_fails c.args.pool.now c.args.none (full_name c.args.pool.now c.args.head.name c.args.head.descriptor) c.args.bytes.now c.loop.found c.loop.at c.in_err-item.field-0.0 c.in_err-item.ensures) c.loop.invariant)

pub returns-in_err-found : goal.returns-in_err-found
returns-in_err-found c =
    let read = method_attribute_at c.args.pool.now c.args.none (full_name c.args.pool.now c.args.head.name c.args.head.descriptor) c.args.bytes.now in
    let p = err_from_is_err_and c.from_residual-in_err-found.result c.from_residual-in_err-found.ensures.1 in
    let s = here c.args.pool.now c.args.none (full_name c.args.pool.now c.args.head.name c.args.head.descriptor) c.args.bytes.now c.loop.found c.loop.at in
    rw (p.1, p.2) (ends read c.in_err-found.field-0.0 c.loop.items.items c.args.count c.loop.counter s _ c.loop-test.true (judge_fails c.args.pool.now c.args.none (full_name c.args.pool.now c.args.head.name c.args.head.descriptor) c.args.bytes.now c.loop.found c.loop.at c.in_err-found.field-0.0 c.in_ok-item.item c.in_ok-item.after c.in_ok-item.ensures c.in_err-found.ensures) c.loop.invariant)

pub loop-preserved : goal.loop-preserved
loop-preserved c =
    let read = method_attribute_at c.args.pool.now c.args.none (full_name c.args.pool.now c.args.head.name c.args.head.descriptor) c.args.bytes.now in
    let s = here c.args.pool.now c.args.none (full_name c.args.pool.now c.args.head.name c.args.head.descriptor) c.args.bytes.now c.loop.found c.loop.at in
    let step = attribute_ok c.args.pool.now c.args.none (full_name c.args.pool.now c.args.head.name c.args.head.descriptor) c.args.bytes.now c.loop.found c.loop.at c.in_ok-item.item c.in_ok-item.after c.in_ok-found.found c.in_ok-item.ensures c.in_ok-found.ensures in
    rw c.in_ok-push.ensures.items (goes_on read c.loop.items.items c.args.count c.loop.counter s c.in_ok-item.item _ _ c.loop-test.true step c.loop.invariant)

pub returns : goal.returns
returns c =
    let read = method_attribute_at c.args.pool.now c.args.none (full_name c.args.pool.now c.args.head.name c.args.head.descriptor) c.args.bytes.now in
    let s = here c.args.pool.now c.args.none (full_name c.args.pool.now c.args.head.name c.args.head.descriptor) c.args.bytes.now c.loop.found c.loop.at in
    is_done read c.loop.items.items c.args.count c.loop.counter s _ c.loop-test.false c.loop.invariant
