use Rattle.std.proofs.Common.{◌≡◌, ◌++◌, drop}
use Rattle.program_rewriter.specs.Places.{start_of}
use Rattle.program_rewriter.specs.Blocks.{blocks_from}
use Rattle.program_rewriter.proofs.duplicates.ops_of.Given as goal

-- the blocks so far, and those that still follow
abbrev pub invariant-loop-pc : goal.invariant-loop-pc
invariant-loop-pc l = l.ops.items ++ blocks_from l.blocks.program.now l.blocks.context l.blocks.locals (start_of l.blocks.starts.now) l.typing l.pc (drop l.pc l.method.ops) ≡ blocks_from l.blocks.program.now l.blocks.context l.blocks.locals (start_of l.blocks.starts.now) l.typing 0 l.method.ops
