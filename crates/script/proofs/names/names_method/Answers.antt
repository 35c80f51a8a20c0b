use Rattle.std.proofs.Common.{sym, ◌∙◌}
use Rattle.script.proofs.Named.{none_more, one_has}
use Rattle.script.proofs.names.names_method.Goals as goal

pub returns-then-branch : goal.returns-then-branch
returns-then-branch c =
    sym (one_has c.args.text.now c.args.classes.now c.loop-class.class-index c.class-item.result c.loop-class-test.true c.class-item.is (sym c.in_ok-names_method_of_class.ensures ∙ c.if-branch.true))

pub loop-class-preserved : goal.loop-class-preserved
loop-class-preserved c =
    none_more c.args.text.now c.args.classes.now c.loop-class.class-index c.class-item.result c.loop-class-test.true c.class-item.is (sym c.in_ok-names_method_of_class.ensures ∙ c.if-branch.false) c.loop-class.invariant
