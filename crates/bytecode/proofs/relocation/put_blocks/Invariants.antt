use Rattle.std.proofs.Common.{◌≡◌, ◌++◌, [], length, drop}
use Rattle.jmodel.specs.format.Relocation.{all_instrs, behind}
use Rattle.bytecode.specs.Places.{place_in, with_blocks}
use Rattle.bytecode.proofs.relocation.put_blocks.Given as goal

abbrev pub invariant-loop-b : goal.invariant-loop-b
invariant-loop-b l = record {
  fits : behind (length l.out) (all_instrs (drop l.b-index l.blocks) ++ l.stub) ≡ behind 0 (all_instrs l.blocks ++ l.stub);
  so_far : with_blocks (place_in l.places) l.out (drop l.b-index l.blocks) ≡ with_blocks (place_in l.places) [] l.blocks;
}
