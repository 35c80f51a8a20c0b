use Rattle.std.proofs.Common.{◌≡◌, map, take}
use Rattle.hierarchy.specs.Names.{number_of}
use Rattle.hierarchy.specs.Selecting.{group_key}
use Rattle.hierarchy.proofs.selection.groups_of.Given as goal

-- the numbers of the groups of the methods so far
abbrev pub invariant-loop-method : goal.invariant-loop-method
invariant-loop-method l = l.numbers.items ≡ map (λ k. number_of l.groups (group_key k)) (take l.method-index l.methods)
