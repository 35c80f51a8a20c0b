use Rattle.std.proofs.Common.{sym}
use Rattle.jmodel.specs.format.DescriptorReading.{types_at}
use Rattle.const_pool.proofs.Reading.{goes_on, fails, closes, too_many}
use Rattle.const_pool.proofs.signature.types.Goals as goal

pub returns : goal.returns
returns c = sym (too_many c.loop.types.items c.loop.counter c.loop.rest.now (types_at 256 c.args.bytes.now) c.loop-test.false c.loop.invariant)

pub returns-in-Some : goal.returns-in-Some
returns-in-Some c = sym (closes c.loop.types.items c.loop.counter c.loop.rest.now (types_at 256 c.args.bytes.now) c.loop-test.true c.loop.invariant c.in-Some.after.now (sym c.in-Some.ensures))

pub returns-in_default-type_rest : goal.returns-in_default-type_rest
returns-in_default-type_rest c = sym (fails c.loop.types.items c.loop.counter c.loop.rest.now (types_at 256 c.args.bytes.now) c.loop-test.true c.loop.invariant (sym c.in_default.ensures) (sym c.in_default-type_rest.ensures.exact))

pub loop-preserved : goal.loop-preserved
loop-preserved c = rw (c.in_ok-push.ensures.items, c.in_ok-item.ensures) (goes_on c.loop.types.items c.loop.counter c.loop.rest.now (types_at 256 c.args.bytes.now) c.loop-test.true c.loop.invariant c.in-Some-type_rest.after.now (sym c.in_default.ensures) (sym c.in-Some-type_rest.ensures.exact))
