use Rattle.std.proofs.Common.{List, length, ap, ◌∙◌, arith}
use Rattle.std.specs.Prelude.{filter}
use Rattle.std.specs.Int.{from_bool}
use Rattle.std.proofs.lemmas.List.{take_all}
use Rattle.objects.specs.history.Journal.{is_marked}
use Rattle.objects.specs.semantics.Program.{Method}
use Rattle.deuce.proofs.Marked.{marked_more, one_more}
use Rattle.deuce.proofs.rewriting.count_marked.Goals as goal

pub loop-method-preserved : goal.loop-method-preserved
loop-method-preserved c =
    let one = one_more c.is_marked.result c.from-count.result c.from-count.ensures in (
      marked_more c.args.methods.now c.loop-method.method-index c.loop-method.count c.from-count.result c.method-item.result c.loop-method-test.true c.method-item.is c.loop-method.invariant.0
          (c.from-count.ensures ∙ ap from_bool c.is_marked.ensures),
      omega (arith, one, c.loop-method.invariant.1),
    )

pub returns : goal.returns
returns c = c.loop-method.invariant.0 ∙ ap (λ (ks : List Method). length (filter is_marked ks)) (take_all c.loop-method.method-index c.args.methods.now c.loop-method-test.false)
