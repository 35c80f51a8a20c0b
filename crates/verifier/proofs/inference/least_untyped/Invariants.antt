use Rattle.std.proofs.Common.{ℕ, ◌-◌, ◌<◌, ◌≤◌}
use Rattle.objects.specs.typing.Typing.{Table, IsTypingUpTo}
use Rattle.verifier.specs.Bounded.{IsUntypedUpTo}
use Rattle.verifier.proofs.inference.least_untyped.Given as goal

-- no table meets the rules up to the upper bound, and one does up to each place below the lower
abbrev pub invariant-loop-low : goal.invariant-loop-low
invariant-loop-low l = record {
  ordered : l.low ≤ l.high;
  none : IsUntypedUpTo l.program l.method l.high;
  before : (q : ℕ) → q < l.low → (U : Table) × IsTypingUpTo l.program l.method q U;
}

abbrev pub decreases-loop-low : goal.decreases-loop-low
decreases-loop-low l = l.high - l.low
