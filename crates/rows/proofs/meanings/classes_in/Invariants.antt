-- The classes so far keep the rules of class files, and their attributes hold bytes.
use Rattle.std.specs.List.{AllByRecursion}
use Rattle.jmodel.specs.format.ClassRules.{IsClassFile}
use Rattle.rewriter.specs.Asked.{AreFiled}
use Rattle.rows.proofs.meanings.classes_in.Given as goal

abbrev pub invariant-loop-path : goal.invariant-loop-path
invariant-loop-path g l = record {
  form : AllByRecursion IsClassFile l.classes.items;
  filed : AllByRecursion AreFiled l.classes.items;
}
