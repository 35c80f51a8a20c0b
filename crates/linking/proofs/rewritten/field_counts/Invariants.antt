use Rattle.std.proofs.Common.{◌≡◌, ℕ, List, [], length, take}
use Rattle.std.specs.Prelude.{bytes_eq, filter}
use Rattle.objects.specs.semantics.Program.{Field}
use Rattle.hierarchy.specs.Names.{named, count_of}
use Rattle.linking.proofs.rewritten.field_counts.Given as goal

-- the fields of each class so far
abbrev pub invariant-loop-field : goal.invariant-loop-field
invariant-loop-field l = (name : List ℕ) → count_of l.counts (named name [] []) ≡ length (filter (λ (f : Field). bytes_eq f.class name) (take l.field-index l.field-items))
