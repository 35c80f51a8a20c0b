use Rattle.std.proofs.Common.{◌+◌, ◌∙◌, ap, sym, arith, ℕ, drop, subst, List, ◌≡◌}
use Rattle.jmodel.specs.declared.instruction.Instr.{Instr}
use Rattle.jmodel.specs.format.Relocation.{all_instrs, behind, end_of}
use Rattle.bytecode.specs.Within.{within}
use Rattle.bytecode.proofs.BlockLaws.{within_some, within_none, end_on, end_over, end_last, blocks_too_large, stub_too_large, both_fit}
use Rattle.bytecode.proofs.places.end_within.Goals as goal

pub returns-in_default : goal.returns-in_default
returns-in_default c =
    let blocks = c.args.blocks.now in
    let b = c.b-item.result in
    let none = c.in_default.ensures ∙ ap (λ (is : List Instr). within (behind c.loop-b.end is)) c.instrs.ensures in
    let over = end_over blocks c.loop-b.b-index b c.loop-b.end (end_of blocks) (omega arith) c.b-item.is c.loop-b.invariant.so_far in
    blocks_too_large blocks c.args.stub.now (behind c.loop-b.end b.instrs) over (within_none (behind c.loop-b.end b.instrs) none)

pub loop-b-preserved : goal.loop-b-preserved
loop-b-preserved c =
    let blocks = c.args.blocks.now in
    let b = c.b-item.result in
    let some = within_some c.in-Some.after (behind c.loop-b.end b.instrs) (c.in-Some.ensures ∙ ap (λ (is : List Instr). within (behind c.loop-b.end is)) c.instrs.ensures) in
    let on = end_on blocks c.loop-b.b-index b c.loop-b.end (end_of blocks) (omega arith) c.b-item.is c.loop-b.invariant.so_far in
    record { small = omega (arith, some.0, some.1); so_far = subst (λ (n : ℕ). behind n (all_instrs (drop (c.loop-b.b-index + 1) blocks)) ≡ end_of blocks) (sym some.0) on }

pub returns-in-Some-behind : goal.returns-in-Some-behind
returns-in-Some-behind c =
    let last = end_last c.args.blocks.now c.loop-b.b-index c.loop-b.end (end_of c.args.blocks.now) (omega arith) c.loop-b.invariant.so_far in
    both_fit c.args.blocks.now c.args.stub.now c.loop-b.end c.in-Some-behind.field-0 last c.in-Some-behind.ensures

pub returns-in-None : goal.returns-in-None
returns-in-None c =
    let last = end_last c.args.blocks.now c.loop-b.b-index c.loop-b.end (end_of c.args.blocks.now) (omega arith) c.loop-b.invariant.so_far in
    stub_too_large c.args.blocks.now c.args.stub.now c.loop-b.end last c.in-None.ensures
