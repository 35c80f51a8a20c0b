use Rattle.std.proofs.Common.{sym, arith}
use Rattle.jmodel.specs.format.DescriptorReading.{types_at, with_places}
use Rattle.const_pool.proofs.Parameters.{goes_on, fails, closes, too_many}
use Rattle.const_pool.proofs.descriptor.parameters_end.Goals as goal

pub returns : goal.returns
returns c = sym (too_many c.loop.total c.loop.counter c.loop.rest.now (with_places 0 (types_at 256 c.args.bytes.now)) c.loop-test.false c.loop.invariant.0)

pub returns-in-Some : goal.returns-in-Some
returns-in-Some c =
    sym (closes c.loop.total c.loop.counter c.loop.rest.now (with_places 0 (types_at 256 c.args.bytes.now)) c.loop-test.true c.loop.invariant.0 c.in-Some.after.now (sym c.in-Some.ensures))

pub returns-in_err-after : goal.returns-in_err-after
returns-in_err-after c =
    rw c.from_residual.ensures (sym (fails c.loop.total c.loop.counter c.loop.rest.now (with_places 0 (types_at 256 c.args.bytes.now)) c.loop-test.true c.loop.invariant.0 (sym c.in_default.ensures) (sym c.in_err-after.ensures.exact)))

pub loop-preserved : goal.loop-preserved
loop-preserved c =
    (rw c.places-total.ensures.exact (goes_on c.loop.total c.loop.counter c.loop.rest.now (with_places 0 (types_at 256 c.args.bytes.now)) c.loop-test.true c.loop.invariant.0 c.in_ok-after.after.now (sym c.in_default.ensures) (sym c.in_ok-after.ensures.exact)), omega (arith, c.places-total.ensures.few))
