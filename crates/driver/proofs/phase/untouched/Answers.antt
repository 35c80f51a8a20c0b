use Rattle.std.proofs.Common.{arith, ◌∙◌}
use Rattle.driver.proofs.Untouched.{untouched_side}
use Rattle.driver.proofs.phase.untouched.Goals as goal

pub returns-clause-midway : goal.returns-clause-midway
returns-clause-midway c = λ t phase p whole room used.
    untouched_side t phase c.args.lanes.now (record { placed = c.new-2.result; parts = c.loop-lane.parts }) p c.new-2.ensures.items (omega arith)
    c.loop-lane.invariant.none (λ k d low. c.loop-lane.invariant.used k d (omega (arith, low)) ∙ used k (omega (arith, low, c.requires))) whole room c.requires
