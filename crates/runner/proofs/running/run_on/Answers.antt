use Rattle.std.proofs.Common.{◌≡◌, ◌∙◌, List, map, Ok, Some, ap, sym, subst}
use Rattle.jmodel.specs.format.ClassFile.{ClassFile}
use Rattle.objects.specs.linking.Linking.{linking}
use Rattle.objects.specs.laws.LinkingLaw.{AreRead}
use Rattle.runner.specs.Faults.{EndsScript, EndsRun}
use Rattle.runner.specs.Telling.{TellsKept}
use Rattle.runner.proofs.Lists.{err_is}
use Rattle.runner.proofs.Readying.{of_preparing}
use Rattle.runner.proofs.Together.{of_script}
use Rattle.runner.proofs.running.run_on.Goals as goal

pub run_script-requires-clause-read : goal.run_script-requires-clause-read
run_script-requires-clause-read g c = λ κs lives.
    subst AreRead (sym (ap (map (λ k. k.now)) c.as_slice.ensures.value ∙ c.in_ok-prepared.ensures.order)) c.in_ok-prepared.ensures.linked.read

pub run_script-requires-clause-links : goal.run_script-requires-clause-links
run_script-requires-clause-links g c = λ κs lives.
    subst (λ (cs : List ClassFile). linking cs ≡ Ok (Some c.in_ok-prepared.prepared.original)) (sym (ap (map (λ k. k.now)) c.as_slice.ensures.value ∙ c.in_ok-prepared.ensures.order)) c.in_ok-prepared.ensures.linked.linked

pub returns-in_err-prepared-clause-cause : goal.returns-in_err-prepared-clause-cause
returns-in_err-prepared-clause-cause g c =
    err_is c.from_residual.result c.in_err-prepared.field-0.0 (EndsRun c.args.files.now c.args.script.now) c.from_residual.ensures.1
    (of_preparing c.args.files.now c.args.script.now c.in_err-prepared.field-0.0 c.in_err-prepared.ensures.cause)

pub returns-in_err-calls-clause-cause : goal.returns-in_err-calls-clause-cause
returns-in_err-calls-clause-cause g c =
    let files = c.args.files.now in
    let order = ap (map (λ k. k.now)) c.as_slice.ensures.value ∙ c.in_ok-prepared.ensures.order in
    let e = c.in_err-calls.field-0.0 in
    let Ends : List ClassFile → Type 0 = λ ds. EndsScript c.in_ok-prepared.prepared.original ds c.args.script.now e in
    err_is c.from_residual-in_err-calls.result e (EndsRun files c.args.script.now) c.from_residual-in_err-calls.ensures.1
    (of_script c.in_ok-prepared.prepared.original files c.args.script.now e c.in_ok-prepared.ensures.runnable (subst Ends order c.in_err-calls.ensures.cause))

pub returns-clause-run : goal.returns-clause-run
returns-clause-run g c =
    c.in_ok-calls.ensures.run c.args.files.now (sym (ap (map (λ k. k.now)) c.as_slice.ensures.value ∙ c.in_ok-prepared.ensures.order)) c.in_ok-prepared.ensures.runnable

pub returns-clause-told : goal.returns-clause-told
returns-clause-told g c =
    let order = ap (map (λ k. k.now)) c.as_slice.ensures.value ∙ c.in_ok-prepared.ensures.order in
    let x = map g.G.Gate.told c.args.gates.now.items in
    let y = map g.G.Gate.told c.run_script.new.gates.items in
    subst (λ (cs : List ClassFile). TellsKept cs c.args.script.now c.in_ok-prepared.prepared.original c.in_ok-calls.calls x y) order c.in_ok-calls.ensures.told
