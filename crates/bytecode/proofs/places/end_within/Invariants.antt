use Rattle.std.proofs.Common.{◌≡◌, ◌≤◌, drop}
use Rattle.jmodel.specs.format.Relocation.{behind, all_instrs, end_of}
use Rattle.bytecode.proofs.places.end_within.Given as goal

abbrev pub invariant-loop-b : goal.invariant-loop-b
invariant-loop-b l = record { small : l.end ≤ 65535; so_far : behind l.end (all_instrs (drop l.b-index l.blocks)) ≡ end_of l.blocks }
