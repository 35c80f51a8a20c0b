use Rattle.std.proofs.Common.{subst}
use Rattle.std.specs.List.{AllByRecursion}
use Rattle.std.proofs.lemmas.List.{take_all}
use Rattle.deuce.proofs.HelperPath.{IsElsewhere, not_there, at_helper, one_elsewhere}
use Rattle.deuce.proofs.reserved.place_of_helper.Goals as goal

pub returns-then-is_at_helper : goal.returns-then-is_at_helper
returns-then-is_at_helper c =
    at_helper c.args.inputs.now c.loop-number.number c.index-inputs-number.result c.loop-number-test.true c.index-inputs-number.is (c.is_at_helper.ensures.0 c.if-is_at_helper.true)

pub loop-number-preserved : goal.loop-number-preserved
loop-number-preserved c =
    one_elsewhere c.args.inputs.now c.loop-number.number c.index-inputs-number.result c.loop-number-test.true c.index-inputs-number.is c.loop-number.invariant
    (λ e. let yes = c.is_at_helper.ensures.1 e in let no = c.if-is_at_helper.false in cc)

pub returns : goal.returns
returns c = not_there c.args.inputs.now (subst (AllByRecursion IsElsewhere) (take_all c.loop-number.number c.args.inputs.now c.loop-number-test.false) c.loop-number.invariant)
