use Rattle.std.proofs.Common.{◌≡◌, ◌-◌}
use Rattle.annotations.specs.Walk.{top_end, value_end, steps}
use Rattle.annotations.proofs.mark.tops_at.Given as goal

abbrev pub invariant-loop : goal.invariant-loop
invariant-loop l = steps (top_end l.pool (value_end 16 l.pool l.bytes) l.bytes) (l.count - l.counter) (l.found, l.at) ≡ steps (top_end l.pool (value_end 16 l.pool l.bytes) l.bytes) l.count (l.fn.before, l.start)
