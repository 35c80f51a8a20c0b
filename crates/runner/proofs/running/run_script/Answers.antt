use Rattle.std.proofs.Common.{◌≡◌, ◌∙◌, ℕ, ap, sym, subst, List}
use Rattle.std.specs.Prelude.{map}
use Rattle.objects.specs.linking.Layout.{opening_state}
use Rattle.jmodel.specs.format.ClassFile.{ClassFile}
use Rattle.objects.specs.semantics.Opening.{Opening}
use Rattle.objects.specs.linking.Linking.{initialisers_in}
use Rattle.objects.proofs.Links.{links}
use Rattle.jmodel.specs.history.Schedule.{ScriptPhase}
use Rattle.script.specs.Script.{Script, IsScript}
use Rattle.driver.specs.Runs.{AreScripted}
use Rattle.driver.specs.Telling.{TellsScript}
use Rattle.runner.proofs.Scripted.{scripted, few_attempts, region_fits, lanes_fit}
use Rattle.runner.specs.Faults.{EndsScript}
use Rattle.runner.proofs.Lists.{err_is}
use Rattle.runner.proofs.Together.{of_run, of_opening}
use Rattle.runner.proofs.running.run_script.Goals as goal

pub run_gated-requires-clause-scripted : goal.run_gated-requires-clause-scripted
run_gated-requires-clause-scripted g c = λ κs lives.
    let phases : c.as_slice.result.now ≡ c.in_ok-wanted.wanted.phases = c.as_slice.ensures.value ∙ ap (λ (s : Script). s.phases) c.wanted.view_is in
    subst (λ (ks : List ScriptPhase). AreScripted c.args.original.now ks) (sym phases)
    (scripted (map (λ k. k.now) c.args.classes.now) c.args.original.now c.in_ok-wanted.wanted c.args.script.now (links (map (λ k. k.now) c.args.classes.now) c.args.original.now c.requires.links) c.in_ok-wanted.ensures.script)

pub run_gated-requires-clause-size : goal.run_gated-requires-clause-size
run_gated-requires-clause-size g c = λ κs lives. c.in_ok-memory.ensures.size

pub run_gated-requires-clause-attempts : goal.run_gated-requires-clause-attempts
run_gated-requires-clause-attempts g c = λ κs lives.
    let attempts : c.wanted.inside.attempts ≡ c.in_ok-wanted.wanted.attempts = ap (λ (s : Script). s.attempts) c.wanted.view_is in
    rw attempts (few_attempts (map (λ k. k.now) c.args.classes.now) c.args.original.now c.in_ok-wanted.wanted c.args.script.now c.in_ok-wanted.ensures.script)

pub run_gated-requires-clause-room_size : goal.run_gated-requires-clause-room_size
run_gated-requires-clause-room_size g c = λ κs lives.
    let size : c.wanted.inside.region ≡ c.in_ok-wanted.wanted.region = ap (λ (s : Script). s.region) c.wanted.view_is in
    rw size (region_fits (map (λ k. k.now) c.args.classes.now) c.args.original.now c.in_ok-wanted.wanted c.args.script.now c.in_ok-wanted.ensures.script).1

pub opened-requires-clause-room : goal.opened-requires-clause-room
opened-requires-clause-room g c =
    let size : c.wanted.inside.region ≡ c.in_ok-wanted.wanted.region = ap (λ (s : Script). s.region) c.wanted.view_is in
    rw size (region_fits (map (λ k. k.now) c.args.classes.now) c.args.original.now c.in_ok-wanted.wanted c.args.script.now c.in_ok-wanted.ensures.script)

pub opened-requires-clause-lanes : goal.opened-requires-clause-lanes
opened-requires-clause-lanes g c =
    let lanes : c.wanted.inside.lanes ≡ c.in_ok-wanted.wanted.lanes = ap (λ (s : Script). s.lanes) c.wanted.view_is in
    rw lanes (lanes_fit (map (λ k. k.now) c.args.classes.now) c.args.original.now c.in_ok-wanted.wanted c.args.script.now c.in_ok-wanted.ensures.script)

pub opened-requires-clause-attempts : goal.opened-requires-clause-attempts
opened-requires-clause-attempts g c =
    let attempts : c.wanted.inside.attempts ≡ c.in_ok-wanted.wanted.attempts = ap (λ (s : Script). s.attempts) c.wanted.view_is in
    rw attempts (few_attempts (map (λ k. k.now) c.args.classes.now) c.args.original.now c.in_ok-wanted.wanted c.args.script.now c.in_ok-wanted.ensures.script)

pub returns-in_err-memory-clause-cause : goal.returns-in_err-memory-clause-cause
returns-in_err-memory-clause-cause g c =
    let size : c.wanted.inside.region ≡ c.in_ok-wanted.wanted.region = ap (λ (s : Script). s.region) c.wanted.view_is in
    let budget : c.wanted.inside.budget ≡ c.in_ok-wanted.wanted.budget = ap (λ (s : Script). s.budget) c.wanted.view_is in
    err_is c.from_residual-in_err-memory.result c.in_err-memory.field-0.0 (EndsScript c.args.original.now (map (λ k. k.now) c.args.classes.now) c.args.script.now) c.from_residual-in_err-memory.ensures.1
    (of_opening (map (λ k. k.now) c.args.classes.now) c.args.original.now c.args.script.now c.in_ok-wanted.wanted c.wanted.inside.region c.wanted.inside.budget c.in_err-memory.field-0.0 c.in_ok-wanted.ensures.script size budget c.in_err-memory.ensures.cause)

pub returns-clause-run : goal.returns-clause-run
returns-clause-run g c = λ files order is.
    let P = c.args.original.now in
    let cs = map (λ k. k.now) c.args.classes.now in
    let wanted = c.in_ok-wanted.wanted in
    let phases : c.as_slice.result.now ≡ wanted.phases = c.as_slice.ensures.value ∙ ap (λ (s : Script). s.phases) c.wanted.view_is in
    let size : c.wanted.inside.region ≡ wanted.region = ap (λ (s : Script). s.region) c.wanted.view_is in
    let budget : c.wanted.inside.budget ≡ wanted.budget = ap (λ (s : Script). s.budget) c.wanted.view_is in
    let opened = c.in_ok-memory.ensures.opens in
    let Ordered : List ClassFile → Type 0 = λ ds. Opening P c.wanted.inside.region c.wanted.inside.budget (opening_state ds) (initialisers_in ds P) opened.0 in
    let Scripts : List ClassFile → Type 0 = λ ds. IsScript ds P c.args.script.now wanted in
    of_run c.args.script.now files P wanted c.as_slice.result.now c.wanted.inside.region c.wanted.inside.budget c.in_ok-memory.memory c.in_ok-run_gated.field-0 is (subst Scripts (sym order) c.in_ok-wanted.ensures.script)
    phases size budget opened.0 (subst Ordered (sym order) opened.1) c.in_ok-run_gated.ensures.run opened.2

pub returns-clause-told : goal.returns-clause-told
returns-clause-told g c =
    let wanted = c.in_ok-wanted.wanted in
    let Q = c.args.rewritten.now in
    let phases : c.as_slice.result.now ≡ wanted.phases = c.as_slice.ensures.value ∙ ap (λ (s : Script). s.phases) c.wanted.view_is in
    let budget : c.wanted.inside.budget ≡ wanted.budget = ap (λ (s : Script). s.budget) c.wanted.view_is in
    let attempts : c.wanted.inside.attempts ≡ wanted.attempts = ap (λ (s : Script). s.attempts) c.wanted.view_is in
    let size : c.wanted.inside.region ≡ wanted.region = ap (λ (s : Script). s.region) c.wanted.view_is in
    let placed = c.in_ok-run_gated.field-0.placed.items in
    let x = map g.G.Gate.told c.args.gates.now.items in
    let y = map g.G.Gate.told c.run_gated.new.gates.items in
    let Told : ℕ → ℕ → ℕ → List ScriptPhase → Type 0 = λ b a r ps. TellsScript Q (record { budget = b; attempts = a; size = r }) ps placed x y in
    let all = subst (Told c.wanted.inside.budget c.wanted.inside.attempts c.wanted.inside.region) phases c.in_ok-run_gated.ensures.told in
    record {
      script = wanted;
      is_script = c.in_ok-wanted.ensures.script;
      rewriting = Q;
      ready = c.requires.ready;
      told = subst (λ (r : ℕ). Told wanted.budget wanted.attempts r wanted.phases) size
          (subst (λ (a : ℕ). Told wanted.budget a c.wanted.inside.region wanted.phases) attempts
          (subst (λ (b : ℕ). Told b c.wanted.inside.attempts c.wanted.inside.region wanted.phases) budget all));
    }
