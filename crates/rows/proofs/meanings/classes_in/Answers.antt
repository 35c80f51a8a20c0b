use Rattle.jmodel.specs.format.ClassRules.{IsClassFile}
use Rattle.rewriter.specs.Asked.{AreFiled}
use Rattle.deuce.proofs.Lists.{all_pushed}
use Rattle.rows.proofs.meanings.classes_in.Goals as goal

pub loop-path-preserved : goal.loop-path-preserved
loop-path-preserved g c = record {
  form = rw c.in_ok-push.ensures.items (all_pushed IsClassFile c.loop-path.classes.items c.in_ok-class_at.field-0 c.loop-path.invariant.form c.in_ok-class_at.ensures.form);
  filed = rw c.in_ok-push.ensures.items (all_pushed AreFiled c.loop-path.classes.items c.in_ok-class_at.field-0 c.loop-path.invariant.filed c.in_ok-class_at.ensures.filed);
}
