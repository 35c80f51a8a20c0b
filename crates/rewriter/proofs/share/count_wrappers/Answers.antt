use Rattle.std.proofs.Common.{ap, ◌∙◌, arith}
use Rattle.std.specs.Int.{from_bool}
use Rattle.std.proofs.lemmas.List.{take_all}
use Rattle.rewriter.specs.Part.{wrapper_count}
use Rattle.rewriter.proofs.Splits.{wrappers_more}
use Rattle.rewriter.proofs.Wrapping.{one_more}
use Rattle.rewriter.proofs.share.count_wrappers.Goals as goal

pub loop-method-preserved : goal.loop-method-preserved
loop-method-preserved c =
    let one = one_more c.is_wrapped.result c.from-count.result c.from-count.ensures in (
      wrappers_more c.args.methods.now c.loop-method.method-index c.loop-method.count c.from-count.result c.method-item.result c.loop-method-test.true c.method-item.is c.loop-method.invariant.0 (c.from-count.ensures ∙ ap from_bool c.is_wrapped.ensures),
      omega (arith, one, c.loop-method.invariant.1),
    )

pub returns : goal.returns
returns c = c.loop-method.invariant.0 ∙ ap wrapper_count (take_all c.loop-method.method-index c.args.methods.now c.loop-method-test.false)
