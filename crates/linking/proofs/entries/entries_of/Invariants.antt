use Rattle.std.proofs.Common.{◌≡◌, drop}
use Rattle.objects.specs.linking.Each.{each}
use Rattle.objects.specs.linking.Decoding.{catch_of}
use Rattle.hierarchy.proofs.Each.{with_front}
use Rattle.linking.proofs.entries.entries_of.Given as goal

-- what was collected, and what is still collected
abbrev pub invariant-loop-entry : goal.invariant-loop-entry
invariant-loop-entry l = with_front l.catches.items (each (catch_of l.pool l.code l.len) (drop l.entry-index l.entries)) ≡ each (catch_of l.pool l.code l.len) l.entries
