use Rattle.std.proofs.Common.{refl, sym}
use Rattle.std.specs.Prelude.{codes}
use Rattle.std.proofs.lemmas.Result.{err_from_is_err_and}
use Rattle.jmodel.specs.format.ClassRules.{named_attributes}
use Rattle.annotations.proofs.Marks.{retries_by_parts}
use Rattle.annotations.proofs.mark.retries_of.Goals as goal

pub returns-in_err-seen : goal.returns-in_err-seen
returns-in_err-seen c =
    let pool = c.args.pool.now in
    let parts = retries_by_parts pool (named_attributes pool (codes "RuntimeVisibleAnnotations") c.args.attributes.now) (named_attributes pool (codes "RuntimeInvisibleAnnotations") c.args.attributes.now) c.args.attributes.now refl in
    let p = err_from_is_err_and c.from_residual.result c.from_residual.ensures.1 in
    rw (p.1, p.2, parts, sym c.in_err-seen.ensures) refl

pub returns : goal.returns
returns c =
    let pool = c.args.pool.now in
    let parts = retries_by_parts pool (named_attributes pool (codes "RuntimeVisibleAnnotations") c.args.attributes.now) (named_attributes pool (codes "RuntimeInvisibleAnnotations") c.args.attributes.now) c.args.attributes.now refl in
    rw (parts, sym c.in_ok-seen.ensures) c.attributes_found-2.ensures
