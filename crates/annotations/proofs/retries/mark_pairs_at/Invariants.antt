use Rattle.std.proofs.Common.{◌≡◌, ◌-◌}
use Rattle.std.specs.Prelude.{None}
use Rattle.annotations.specs.Walk.{mark_pair_end, value_end, steps}
use Rattle.annotations.proofs.retries.mark_pairs_at.Given as goal

abbrev pub invariant-loop : goal.invariant-loop
invariant-loop l = steps (mark_pair_end l.pool (value_end 16 l.pool l.bytes) l.bytes) (l.count - l.counter) (l.found, l.at) ≡ steps (mark_pair_end l.pool (value_end 16 l.pool l.bytes) l.bytes) l.count (None, l.start)
