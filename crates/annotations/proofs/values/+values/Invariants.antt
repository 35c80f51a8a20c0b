use Rattle.std.proofs.Common.{◌≡◌, ◌+◌, ◌-◌, ◌*◌}
use Rattle.annotations.specs.Walk.{pair_end, value_end, steps}
use Rattle.annotations.proofs.values.+values.Given as goal

abbrev pub decreases-annotation_at : goal.decreases-annotation_at
decreases-annotation_at l = 5 * l.depth + 3

abbrev pub decreases-pair_at : goal.decreases-pair_at
decreases-pair_at l = 5 * l.depth + 1

abbrev pub decreases-pairs_at : goal.decreases-pairs_at
decreases-pairs_at l = 5 * l.depth + 2

abbrev pub decreases-shape_at : goal.decreases-shape_at
decreases-shape_at l = 5 * l.depth + 4

abbrev pub decreases-value_at : goal.decreases-value_at
decreases-value_at l = 5 * l.depth

abbrev pub decreases-values_at : goal.decreases-values_at
decreases-values_at l = 5 * l.depth + 2

abbrev pub invariant-pairs_at-loop : goal.invariant-pairs_at-loop
invariant-pairs_at-loop l = steps (pair_end l.pool (value_end l.depth l.pool l.bytes) l.bytes) (l.count - l.counter) l.at ≡ steps (pair_end l.pool (value_end l.depth l.pool l.bytes) l.bytes) l.count l.start

abbrev pub invariant-values_at-loop : goal.invariant-values_at-loop
invariant-values_at-loop l = steps (value_end l.depth l.pool l.bytes) (l.count - l.counter) l.at ≡ steps (value_end l.depth l.pool l.bytes) l.count l.start
