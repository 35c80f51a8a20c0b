use Rattle.std.proofs.Common.{◌≡◌, ℕ, map}
use Rattle.bankgen.specs.Transfers.{transfer}
use Rattle.bankgen.specs.Script.{numbers, dealt}
use Rattle.bankgen.proofs.script.dealt.Given as goal

-- the lane's transfers so far
abbrev pub invariant-loop-k : goal.invariant-loop-k
invariant-loop-k l = (seed accounts calls : ℕ) → l.drawn ≡ map (transfer seed accounts) (numbers calls) → l.own.items ≡ map (transfer seed accounts) (dealt l.k l.lanes l.lane)
