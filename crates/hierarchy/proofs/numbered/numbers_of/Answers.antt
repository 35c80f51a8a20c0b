use Rattle.std.proofs.Common.{arith}
use Rattle.hierarchy.proofs.Numbering.{numbers_more}
use Rattle.hierarchy.proofs.numbered.numbers_of.Goals as goal

pub loop-number-preserved : goal.loop-number-preserved
loop-number-preserved c =
    numbers_more c.loop-number.numbers.items c.note.new.numbers.items c.args.instrs.now c.loop-number.number c.index-instrs-number.result c.loop-number-test.true c.index-instrs-number.is c.loop-number.invariant
    c.in_ok-note.ensures

pub note-requires : goal.note-requires
note-requires c = omega arith
