use Rattle.std.proofs.Common.{◌∙◌, ap, sym}
use Rattle.std.specs.Prelude.{option_copied}
use Rattle.verifier.proofs.Placed.{none_taken, not_taken, taken_step}
use Rattle.verifier.proofs.led.are_taken.Goals as goal

pub returns-in_default : goal.returns-in_default
returns-in_default c =
    sym (c.loop-place.invariant ∙ not_taken c.args.program.now c.loop-place.place c.args.wants.now c.args.stack.now c.index-wants-place.result c.loop-place-test.true c.index-wants-place.is c.in-Some.item.now c.in-Some.ensures (sym c.is_within.ensures ∙ c.if-is_within.false))

pub returns-in_default-2 : goal.returns-in_default-2
returns-in_default-2 c =
    sym (c.loop-place.invariant ∙ none_taken c.args.program.now c.loop-place.place c.args.wants.now c.args.stack.now c.index-wants-place.result c.loop-place-test.true c.index-wants-place.is (ap option_copied (sym c.in_default.is) ∙ c.get.ensures))

pub loop-place-preserved : goal.loop-place-preserved
loop-place-preserved c =
    c.loop-place.invariant ∙ taken_step c.args.program.now c.loop-place.place c.args.wants.now c.args.stack.now c.index-wants-place.result c.loop-place-test.true c.index-wants-place.is c.in-Some.item.now c.in-Some.ensures (sym c.is_within.ensures ∙ c.if-is_within.true)
