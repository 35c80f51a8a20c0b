use Rattle.std.proofs.Common.{List, ◌∙◌, ap, subst, arith}
use Rattle.jmodel.specs.declared.instruction.Instr.{Instr}
use Rattle.jmodel.specs.format.Relocation.{Block, behind}
use Rattle.bytecode.specs.Within.{within}
use Rattle.std.proofs.lemmas.List.{drop_all}
use Rattle.bytecode.proofs.TableLaws.{IsFilled, filled_next, filled_last}
use Rattle.bytecode.proofs.places.places_of.Goals as goal

pub loop-b-preserved : goal.loop-b-preserved
loop-b-preserved c =
    let blocks = c.args.blocks.now in
    let b = c.b-item.result in
    let l = c.loop-b in
    let after = c.behind.ensures ∙ ap (λ (is : List Instr). within (behind l.at is)) c.instrs.ensures in
    rw c.unwrap_or-at.ensures (filled_next blocks l.b-index b l.starts.items c.args.end l.at c.from.result c.behind.result (omega arith) c.b-item.is (omega arith) (c.from.ensures ∙ c.pc.ensures) after l.invariant)

pub returns : goal.returns
returns c =
    let blocks = c.args.blocks.now in
    let l = c.loop-b in
    let filled = subst (λ (rest : List Block). IsFilled blocks rest l.starts.items c.args.end l.at) (drop_all l.b-index blocks c.loop-b-test.false) l.invariant in
    record { place = filled_last blocks l.starts.items c.args.end l.at filled; end = c.requires.end }
