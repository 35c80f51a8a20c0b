use Rattle.std.proofs.Common.{sym, ◌∙◌, ap, subst, arith, length, ℕ, List, [], ◌++◌, ◌≤◌}
use Rattle.jmodel.specs.declared.instruction.Instr.{Instr}
use Rattle.jmodel.specs.format.Relocation.{all_instrs, behind}
use Rattle.bytecode.specs.Places.{place_in, with_block, with_blocks}
use Rattle.bytecode.proofs.PutLaws.{block_fits, fits_on, blocks_on, stub_left}
use Rattle.bytecode.proofs.relocation.put_blocks.Goals as goal

pub put_block-requires-clause-fits : goal.put_block-requires-clause-fits
put_block-requires-clause-fits c =
    let l = c.loop-b in
    let fits = block_fits (place_in c.args.places.now) c.args.blocks.now c.args.stub.now l.b-index c.b-item.result l.out (behind 0 (all_instrs c.args.blocks.now ++ c.args.stub.now)) (omega arith) c.b-item.is l.invariant.fits c.requires.fits in
    subst (λ (is : List Instr). behind (length l.out) is ≤ 65535) (sym c.instrs.ensures) fits

pub loop-b-preserved : goal.loop-b-preserved
loop-b-preserved c =
    let place = place_in c.args.places.now in
    let blocks = c.args.blocks.now in
    let stub = c.args.stub.now in
    let l = c.loop-b in
    let after = c.put_block.new.out in
    let put = ap (λ (n : ℕ). with_block place n l.out c.b-item.result.instrs) (sym c.pc.ensures) ∙ ap (with_block place c.pc.result l.out) (sym c.instrs.ensures) ∙ c.in_ok-put_block.ensures in
    record {
      fits = fits_on place blocks stub l.b-index c.b-item.result l.out (behind 0 (all_instrs blocks ++ stub)) after (omega arith) c.b-item.is put l.invariant.fits;
      so_far = blocks_on place blocks stub l.b-index c.b-item.result l.out (with_blocks place [] blocks) after (omega arith) c.b-item.is put l.invariant.so_far;
    }

pub returns : goal.returns
returns c =
    let l = c.loop-b in
    stub_left (place_in c.args.places.now) c.args.blocks.now c.args.stub.now l.b-index l.out c.loop-b-test.false l.invariant.so_far ∙ c.in_ok-put_block-2.ensures
