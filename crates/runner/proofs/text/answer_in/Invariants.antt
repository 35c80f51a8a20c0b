use Rattle.std.proofs.Common.{◌≡◌, [], drop}
use Rattle.runner.specs.Kept.{answer_kept}
use Rattle.runner.proofs.text.answer_in.Given as goal

abbrev pub invariant-loop-call : goal.invariant-loop-call
invariant-loop-call l = (l.out ≡ []) × (answer_kept l.phase l.calls ≡ answer_kept l.phase (drop l.call-index l.calls))
