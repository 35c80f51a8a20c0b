use Rattle.std.proofs.Common.{◌≡◌, ℕ, ◌++◌, map}
use Rattle.std.specs.List.{join_with_byte}
use Rattle.bankgen.specs.Transfers.{transfer}
use Rattle.bankgen.specs.Script.{list_text, lane_calls, numbers}
use Rattle.bankgen.proofs.script.push_lanes.Given as goal

-- the lanes so far
abbrev pub invariant-loop-lane : goal.invariant-loop-lane
invariant-loop-lane l = (seed accounts calls : ℕ) → l.drawn ≡ map (transfer seed accounts) (numbers calls)
    → l.out ≡ l.initial.out ++ join_with_byte 44 (map list_text (map (lane_calls seed accounts calls l.lanes) (numbers l.lane)))
