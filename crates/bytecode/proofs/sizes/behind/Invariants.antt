use Rattle.std.proofs.Common.{◌≡◌, ◌≤◌, drop}
use Rattle.jmodel.specs.format.Relocation.{behind}
use Rattle.bytecode.proofs.sizes.behind.Given as goal

abbrev pub invariant-loop-i : goal.invariant-loop-i
invariant-loop-i l = record { small : l.at ≤ 65535; so_far : behind l.at (drop l.i-index l.instrs) ≡ behind l.start l.instrs }
