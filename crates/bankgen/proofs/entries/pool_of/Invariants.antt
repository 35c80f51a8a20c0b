use Rattle.std.proofs.Common.{◌≡◌, map, length, take}
use Rattle.bankgen.specs.Entries.{constant_of}
use Rattle.bankgen.proofs.entries.pool_of.Given as goal

-- the entries so far
abbrev pub invariant-loop-entry : goal.invariant-loop-entry
invariant-loop-entry l = (l.constants.items ≡ map constant_of (take l.entry-index l.entries)) × (length l.constants.items ≡ l.entry-index)
