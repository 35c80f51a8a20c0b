use Rattle.std.proofs.Common.{sym}
use Rattle.std.specs.Prelude.{pos}
use Rattle.std.proofs.lemmas.Result.{IfOk-from_err}
use Rattle.objects.specs.linking.Each.{each}
use Rattle.objects.specs.linking.Code.{numbered_case}
use Rattle.hierarchy.specs.declared.outcome.BuildEnd.TheVariants.{NotBuilt}
use Rattle.hierarchy.proofs.Each.{starts, goes_on, ends, is_done, item_at}
use Rattle.linking.proofs.jumps.numbered_cases.Goals as goal

pub returns-in-None : goal.returns-in-None
returns-in-None c =
    let f = numbered_case c.args.code.now in
    let item = item_at c.args.cases.now c.loop-case.case-index (pos 0, 0) c.loop-case-test.true in
    sym (ends f NotBuilt c.loop-case.numbered.items c.args.cases.now c.loop-case.case-index _ (each f c.args.cases.now) item (sym c.in-None.ensures) c.loop-case.invariant)

pub loop-case-preserved : goal.loop-case-preserved
loop-case-preserved c =
    let f = numbered_case c.args.code.now in
    let item = item_at c.args.cases.now c.loop-case.case-index (pos 0, 0) c.loop-case-test.true in
    rw c.in_ok-push-in-Some.ensures.items (goes_on f c.loop-case.numbered.items c.args.cases.now c.loop-case.case-index _ c.in-Some.found (each f c.args.cases.now) item (sym c.in-Some.ensures) c.loop-case.invariant)

pub loop-case-init : goal.loop-case-init
loop-case-init c = rw c.new-numbered.ensures.items (starts (numbered_case c.args.code.now) c.args.cases.now)

pub returns-in_err-push-in-Some : goal.returns-in_err-push-in-Some
returns-in_err-push-in-Some c = IfOk-from_err _ _ c.from_residual.ensures.0

pub returns : goal.returns
returns c =
    let f = numbered_case c.args.code.now in
    sym (is_done f c.loop-case.numbered.items c.args.cases.now c.loop-case.case-index (each f c.args.cases.now) c.loop-case-test.false c.loop-case.invariant)
