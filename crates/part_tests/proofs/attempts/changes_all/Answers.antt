use Rattle.std.proofs.Common.{◌∙◌}
use Rattle.part_tests.proofs.attempts.changes_all.Goals as goal

pub returns-in_err-changes-clause-awaits : goal.returns-in_err-changes-clause-awaits
returns-in_err-changes-clause-awaits g c = λ k used a. c.in_err-changes.ensures.awaits k used (c.loop-amount.invariant.awaits k used a)

pub loop-amount-preserved : goal.loop-amount-preserved
loop-amount-preserved g c =
    let i = c.loop-amount.invariant in
    let now = c.in_ok-changes.ensures in
    let same = now.same in
    let before = i.same in
    record {
      open_still = now.open;
      stands = now.stands;
      awaits = λ k used a. now.awaits k used (i.awaits k used a);
      same = (
        (same.0.0 ∙ before.0.0, same.0.1 ∙ before.0.1),
        (same.1.0 ∙ before.1.0, same.1.1 ∙ before.1.1, same.1.2 ∙ before.1.2, same.1.3 ∙ before.1.3, same.1.4 ∙ before.1.4),
      );
    }
