use Rattle.std.proofs.Common.{◌≡◌, drop}
use Rattle.objects.specs.linking.Each.{each}
use Rattle.objects.specs.linking.Decoding.{op_of}
use Rattle.hierarchy.proofs.Each.{with_front}
use Rattle.linking.proofs.meaning.ops_of.Given as goal

-- what was collected, and what is still collected
abbrev pub invariant-loop-i : goal.invariant-loop-i
invariant-loop-i l = with_front l.ops.items (each (op_of l.symbols l.code) (drop l.i-index l.list)) ≡ each (op_of l.symbols l.code) l.list
