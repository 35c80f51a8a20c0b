use Rattle.std.proofs.Common.{sym}
use Rattle.std.proofs.lemmas.Result.{err_from_is_err_and}
use Rattle.jmodel.specs.format.ClassRules.{named_attributes}
use Rattle.annotations.specs.Walk.{attributes_end, value_end}
use Rattle.annotations.proofs.Attributes.{goes_on, ends, is_done}
use Rattle.annotations.proofs.mark.attributes_found.Goals as goal

pub returns-in_err-found : goal.returns-in_err-found
returns-in_err-found c =
    let pool = c.args.pool.now in
    let value = value_end 16 pool in
    let p = err_from_is_err_and c.from_residual.result c.from_residual.ensures.1 in
    rw (p.1, p.2) (sym (ends pool value c.args.name.now c.args.attributes.now c.loop-attribute.attribute-index c.loop-attribute.found
    (attributes_end pool value (named_attributes pool c.args.name.now c.args.attributes.now) c.args.before) c.loop-attribute.invariant
    c.attribute-item.result c.loop-attribute-test.true c.attribute-item.is c.in_err-found.field-0.0 (sym c.in_err-found.ensures)))

pub loop-attribute-preserved : goal.loop-attribute-preserved
loop-attribute-preserved c =
    let pool = c.args.pool.now in
    let value = value_end 16 pool in
    goes_on pool value c.args.name.now c.args.attributes.now c.loop-attribute.attribute-index c.loop-attribute.found
    (attributes_end pool value (named_attributes pool c.args.name.now c.args.attributes.now) c.args.before) c.loop-attribute.invariant
    c.attribute-item.result c.loop-attribute-test.true c.attribute-item.is c.in_ok-found.found (sym c.in_ok-found.ensures)

pub returns : goal.returns
returns c =
    let pool = c.args.pool.now in
    let value = value_end 16 pool in
    sym (is_done pool value c.args.name.now c.args.attributes.now c.loop-attribute.attribute-index c.loop-attribute.found
    (attributes_end pool value (named_attributes pool c.args.name.now c.args.attributes.now) c.args.before) c.loop-attribute.invariant c.loop-attribute-test.false)
