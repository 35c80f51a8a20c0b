use Rattle.std.proofs.Common.{ℤ, refl, ap, ◌∙◌}
use Rattle.std.specs.Int.{w32}
use Rattle.std.proofs.lemmas.Int.{to_z-of_z}
use Rattle.std.proofs.lemmas.Result.{IfOk-from_err}
use Rattle.objects.specs.linking.Code.{table_cases}
use Rattle.linking.proofs.Tables.{one_more, are_all}
use Rattle.linking.proofs.jumps.table_cases.Goals as goal

pub loop-target-init : goal.loop-target-init
loop-target-init c = rw c.new-cases.ensures.items refl

pub returns-in_err-push : goal.returns-in_err-push
returns-in_err-push c = IfOk-from_err _ _ c.from_residual.ensures.0

pub loop-target-preserved : goal.loop-target-preserved
loop-target-preserved c =
    rw c.in_ok-push.ensures.items (one_more c.loop-target.key-bits c.loop-target.cases.items _ c.args.targets.now c.loop-target.target-index c.loop-target.invariant c.loop-target.auto.key.fits c.loop-target-test.true)

pub returns : goal.returns
returns c =
    are_all c.loop-target.key-bits c.loop-target.cases.items _ c.args.targets.now c.loop-target.target-index c.loop-target.invariant c.loop-target-test.false
    ∙ ap (λ (key : ℤ). table_cases key c.args.targets.now) (to_z-of_z w32 c.args.low c.ranges.low)
