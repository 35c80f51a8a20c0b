use Rattle.std.proofs.Common.{◌≡◌, drop}
use Rattle.hierarchy.specs.Selecting.{first_upward}
use Rattle.hierarchy.proofs.selection.first_upward.Given as goal

-- the classes before this one have no number
abbrev pub invariant-loop-class : goal.invariant-loop-class
invariant-loop-class l = first_upward l.numbers (drop l.class-index l.classes) ≡ first_upward l.numbers l.classes
