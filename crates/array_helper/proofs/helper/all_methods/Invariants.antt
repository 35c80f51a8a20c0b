use Rattle.std.proofs.Common.{◌≡◌, drop}
use Rattle.member_code.specs.Growing.{grow_from}
use Rattle.member_code.proofs.Grow.{with_front}
use Rattle.array_helper.specs.Helper.{element_methods}
use Rattle.array_helper.proofs.helper.all_methods.Given as goal

-- what was put so far, and what is still put
abbrev pub invariant-loop-word : goal.invariant-loop-word
invariant-loop-word l = with_front l.methods.items (grow_from (λ n t. element_methods t) l.word-index (drop l.word-index l.words) l.pool) ≡ grow_from (λ n t. element_methods t) 0 l.words l.initial.pool
