use Rattle.std.proofs.Common.{◌≡◌, ℕ, List, [], length, take}
use Rattle.std.specs.Prelude.{bytes_eq, filter}
use Rattle.objects.specs.semantics.Program.{Method}
use Rattle.hierarchy.specs.Names.{named, count_of}
use Rattle.linking.proofs.rewritten.method_counts.Given as goal

-- the methods of each class so far
abbrev pub invariant-loop-method : goal.invariant-loop-method
invariant-loop-method l = (name : List ℕ) → count_of l.counts (named name [] []) ≡ length (filter (λ (k : Method). bytes_eq k.name.class name) (take l.method-index l.method-items))
