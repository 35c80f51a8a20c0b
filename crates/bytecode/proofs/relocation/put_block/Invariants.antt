use Rattle.std.proofs.Common.{◌≡◌, length, drop}
use Rattle.jmodel.specs.format.Relocation.{behind}
use Rattle.bytecode.specs.Places.{place_in, with_block}
use Rattle.bytecode.proofs.relocation.put_block.Given as goal

abbrev pub invariant-loop-i : goal.invariant-loop-i
invariant-loop-i l = record {
  fits : behind (length l.out) (drop l.i-index l.instrs) ≡ behind (length l.fn.out) l.instrs;
  so_far : with_block (place_in l.places) l.pc l.out (drop l.i-index l.instrs) ≡ with_block (place_in l.places) l.pc l.fn.out l.instrs;
}
