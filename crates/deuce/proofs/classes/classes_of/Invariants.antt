-- The class files so far are good.
use Rattle.std.proofs.Common.{take}
use Rattle.std.specs.List.{AllByRecursion}
use Rattle.rewriter.specs.Asked.{AreFiled}
use Rattle.deuce.specs.Ending.{AreClassesOf}
use Rattle.deuce.proofs.classes.classes_of.Given as goal

abbrev pub invariant-loop-input : goal.invariant-loop-input
invariant-loop-input l = record {
  good : AreClassesOf (take l.input-index l.inputs) l.classes.items;
  filed : AllByRecursion AreFiled l.classes.items;
}
