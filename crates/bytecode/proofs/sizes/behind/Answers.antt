use Rattle.std.proofs.Common.{◌+◌, arith, sym, drop}
use Rattle.jmodel.specs.format.Relocation.{behind}
use Rattle.bytecode.proofs.SizeLaws.{behind_over, behind_on, too_far}
use Rattle.bytecode.proofs.sizes.behind.Goals as goal

pub returns-then-next-gt65535 : goal.returns-then-next-gt65535
returns-then-next-gt65535 c =
    let instrs = c.args.instrs.now in
    let next = c.from.result + c.size_at.result in
    let on = behind_on c.loop-i.at instrs c.loop-i.i-index c.i-item.result next (behind c.args.start instrs) (omega arith) (c.i-item.is) (omega arith) c.loop-i.invariant.so_far in
    sym (too_far (behind c.args.start instrs) (omega (arith, on, behind_over next (drop (c.loop-i.i-index + 1) instrs))))
