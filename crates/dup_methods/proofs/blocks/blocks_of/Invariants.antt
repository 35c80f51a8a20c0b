use Rattle.std.proofs.Common.{◌≡◌, drop}
use Rattle.member_code.specs.Growing.{grow_from}
use Rattle.member_code.proofs.Grow.{with_front}
use Rattle.dup_methods.specs.Duplicates.{numbered_block}
use Rattle.dup_methods.proofs.blocks.blocks_of.Given as goal

-- what was put so far, and what is still put
abbrev pub invariant-loop-n : goal.invariant-loop-n
invariant-loop-n l = with_front l.blocks.items (grow_from (numbered_block l.original) l.n (drop l.n l.instrs) l.pool) ≡ grow_from (numbered_block l.original) 0 l.instrs l.initial.pool
