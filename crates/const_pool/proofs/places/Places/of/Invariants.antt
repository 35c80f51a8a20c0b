use Rattle.std.proofs.Common.{◌≡◌, map, take}
use Rattle.const_pool.specs.Places.{entry_places}
use Rattle.const_pool.proofs.places.Places.of.Given as goal

-- those of the entries so far
abbrev pub invariant-loop-entry : goal.invariant-loop-entry
invariant-loop-entry l = l.counts.items ≡ map entry_places (take l.entry-index l.entries)
