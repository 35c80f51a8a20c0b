use Rattle.std.proofs.Common.{option_copied}
use Rattle.program_rewriter.specs.Places.{start_of}
use Rattle.program_rewriter.proofs.Rests.{access_rest}
use Rattle.program_rewriter.proofs.Pairs.{behind}
use Rattle.program_rewriter.proofs.blocks.push_access.Goals as goal

pub returns-in_ok-push-in_default : goal.returns-in_ok-push-in_default
returns-in_ok-push-in_default c =
    let b = c.args.blocks.now in
    let one = access_rest b.program.now b.context b.locals (start_of b.starts.now) (option_copied c.args.types) c.args.op.now c.in_default.not-GetStatic c.in_default.not-GetField c.in_default.not-PutStatic c.in_default.not-PutField c.in_default.not-LoadElement c.in_default.not-StoreElement in
    behind c.args.ops.now.items c.push.new.self.items _ _ _ c.in_ok-push-in_default.ensures.items c.in_ok-moved_one-in_default.ensures one
