-- The class files so far have other paths.
use Rattle.std.proofs.Common.{take}
use Rattle.std.specs.List.{AllByRecursion}
use Rattle.deuce.proofs.HelperPath.{IsElsewhere}
use Rattle.deuce.proofs.reserved.place_of_helper.Given as goal

abbrev pub invariant-loop-number : goal.invariant-loop-number
invariant-loop-number l = AllByRecursion IsElsewhere (take l.number l.inputs)
