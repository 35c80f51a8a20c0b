use Rattle.std.proofs.lemmas.Result.{err_from_is_err_and}
use Rattle.hierarchy.proofs.Each.{item_is}
use Rattle.linking.proofs.Decoded.{goes_on, ends}
use Rattle.linking.proofs.decoding.all_decoded.Goals as goal

pub returns-in_err-decoded_member : goal.returns-in_err-decoded_member
returns-in_err-decoded_member c =
    let p = err_from_is_err_and c.from_residual.result c.from_residual.ensures.1 in
    rw (p.1, p.2) (ends c.args.methods.now c.loop-method.method-index c.method-item.result
    (item_is c.args.methods.now c.loop-method.method-index c.method-item.result c.loop-method-test.true c.method-item.is)
    c.in_err-decoded_member.field-0.0 c.loop-method.coded.items _ c.in_err-decoded_member.ensures c.loop-method.invariant)

pub loop-method-preserved : goal.loop-method-preserved
loop-method-preserved c =
    rw c.in_ok-push.ensures.items (goes_on c.args.methods.now c.loop-method.method-index c.method-item.result
    (item_is c.args.methods.now c.loop-method.method-index c.method-item.result c.loop-method-test.true c.method-item.is)
    c.loop-method.coded.items c.in_ok-decoded_member.field-0 _ c.in_ok-decoded_member.ensures c.loop-method.invariant)
