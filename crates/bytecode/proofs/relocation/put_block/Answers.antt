use Rattle.std.proofs.Common.{sym, ◌∙◌, ap, subst, arith, drop, length, ◌++◌}
use Rattle.jmodel.specs.declared.instruction.Instr.{Instr}
use Rattle.jmodel.specs.declared.instruction.Operands.TheVariants.{Nothing}
use Rattle.jmodel.specs.format.Instruction.{IsInstr, text}
use Rattle.jmodel.specs.format.Relocation.{behind, IsShaped, reaches, put_at, retargeted}
use Rattle.bytecode.specs.Places.{place_in, LeadsInside, with_block}
use Rattle.bytecode.proofs.SizeLaws.{behind_over, behind_on, drop_each}
use Rattle.bytecode.proofs.MovedLaws.{moved_is_instr}
use Rattle.bytecode.proofs.PutLaws.{longer, block_next, block_halts, block_ends}
use Rattle.bytecode.proofs.relocation.put_block.Goals as goal

pub overflow_cast-len : goal.overflow_cast-len
overflow_cast-len c = omega (arith, behind_over (length c.loop-i.out) (drop c.loop-i.i-index c.args.instrs.now))

pub put_instr-requires : goal.put_instr-requires
put_instr-requires c =
    let place = place_in c.args.places.now in
    let i = c.i-item.result in
    let says = c.in_ok-moved.ensures.says in
    let shaped = drop_each IsShaped c.args.instrs.now c.loop-i.i-index i (omega arith) c.i-item.is c.requires.each in
    let inside = subst (λ (x : Instr). LeadsInside x.operands) says c.in_ok-moved.ensures.inside in
    let reach = ap reaches (sym says) ∙ sym c.if-not-reaches.ensures in
    subst IsInstr (sym says) (moved_is_instr place c.len.result i (omega (arith, behind_over (length c.loop-i.out) (drop c.loop-i.i-index c.args.instrs.now))) shaped inside reach)

pub loop-i-preserved : goal.loop-i-preserved
loop-i-preserved c =
    let place = place_in c.args.places.now in
    let instrs = c.args.instrs.now in
    let i = c.i-item.result in
    let l = c.loop-i in
    let says = c.in_ok-moved.ensures.says ∙ ap (λ n. retargeted place (put_at n i)) c.len.ensures in
    let put = c.in_ok-put_instr.ensures ∙ ap (λ (x : Instr). l.out ++ text x) says in
    let reach = ap reaches (sym says) ∙ sym c.if-not-reaches.ensures in
    record {
      fits = behind_on (length l.out) instrs l.i-index i (length c.put_instr.new.out) (behind (length c.args.out.now) instrs) (omega arith) c.i-item.is (longer place l.out c.put_instr.new.out i put) l.invariant.fits;
      so_far = block_next place c.args.pc l.out instrs l.i-index i (with_block place c.args.pc c.args.out.now instrs) c.put_instr.new.out (omega arith) c.i-item.is reach put l.invariant.so_far;
    }

pub returns-then-not-reaches : goal.returns-then-not-reaches
returns-then-not-reaches c =
    let place = place_in c.args.places.now in
    let i = c.i-item.result in
    let l = c.loop-i in
    let says = c.in_ok-moved.ensures.says ∙ ap (λ n. retargeted place (put_at n i)) c.len.ensures in
    let far = ap reaches (sym says) ∙ sym c.reaches.ensures ∙ c.if-not-reaches.true in
    rw c.branch_too_far.ensures (block_halts place c.args.pc l.out c.args.instrs.now l.i-index i (with_block place c.args.pc c.args.out.now c.args.instrs.now) (omega arith) c.i-item.is far l.invariant.so_far)

pub returns : goal.returns
returns c =
    let place = place_in c.args.places.now in
    let l = c.loop-i in
    block_ends place c.args.pc l.out c.args.instrs.now l.i-index (record { pc = 0; op = 0; operands = Nothing }) (with_block place c.args.pc c.args.out.now c.args.instrs.now) c.loop-i-test.false l.invariant.so_far
