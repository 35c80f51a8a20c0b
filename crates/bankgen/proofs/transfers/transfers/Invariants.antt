use Rattle.std.proofs.Common.{◌≡◌, ◌*◌, map}
use Rattle.bankgen.specs.Transfers.{after, transfer}
use Rattle.bankgen.specs.Script.{numbers}
use Rattle.bankgen.proofs.transfers.transfers.Given as goal

-- the transfers so far; each took three draws
abbrev pub invariant-loop-k : goal.invariant-loop-k
invariant-loop-k l = (l.drawn.items ≡ map (transfer l.seed l.accounts) (numbers l._k)) × (l.state ≡ after l.seed (3 * l._k))
