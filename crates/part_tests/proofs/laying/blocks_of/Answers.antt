use Rattle.std.proofs.Common.{arith}
use Rattle.part_tests.proofs.GrownLaws.{grown_next, grown_end, grown_blocks}
use Rattle.part_tests.proofs.laying.blocks_of.Goals as goal

pub loop-i-preserved : goal.loop-i-preserved
loop-i-preserved c =
    grown_next c.loop-i.blocks.items c.push.new.self.items c.deref-i-items.result.now c.loop-i.i-index c.in_ok-block_of.field-0 c.i-item.result (omega arith) c.i-item.is c.in_ok-push.ensures.items c.loop-i.invariant
    (record { pc = c.in_ok-block_of.ensures.pc; nops = c.if-i-grown.nops; instrs = c.in_ok-block_of.ensures.instrs })

pub returns : goal.returns
returns c =
    let all = c.in_ok-instrs.instrs.items in
    let grown = grown_end c.loop-i.blocks.items c.deref-i-items.result.now all c.loop-i.i-index (omega arith) c.deref-i-items.ensures.value c.loop-i.invariant in
    grown_blocks c.in_ok-pool.pool c.args.handlers.now c.in_ok-code.code all c.loop-i.blocks.items c.args.first c.args.stub.now c.in_ok-instrs.ensures.found grown c.requires.room c.requires.each_last c.requires.leads_nowhere
