use Rattle.std.proofs.Common.{◌≡◌, ◌++◌, drop}
use Rattle.objects.specs.rewriting.Rewriting.{load_all}
use Rattle.program_rewriter.proofs.wrappers.push_loads.Given as goal

-- what was put so far, and what is still put
abbrev pub invariant-loop-local : goal.invariant-loop-local
invariant-loop-local l = l.ops.items ++ load_all l.local (drop l.local l.parameters) ≡ l.initial.ops.items ++ load_all 0 l.parameters
