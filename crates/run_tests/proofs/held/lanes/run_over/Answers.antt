use Rattle.std.proofs.Common.{◌≡◌, suc, [], length, sym, ap, ◌∙◌, subst, arith}
use Rattle.tx_table.specs.declared.shared.Pass.{Pass}
use Rattle.tx_table.specs.Passes.{book}
use Rattle.machine.specs.declared.machine.Limits.{Limits}
use Rattle.session.specs.Engines.{pass_of, named_by}
use Rattle.session.specs.Adds.{call_of}
use Rattle.driver.specs.Passing.{used_of, first_of, MayGoOn}
use Rattle.driver.proofs.States.{over_lane}
use Rattle.run_tests.proofs.Fresh.{call_in, awaits_first}
use Rattle.run_tests.proofs.held.lanes.run_over.Goals as goal

pub lines_of-requires-clause-states : goal.lines_of-requires-clause-states
lines_of-requires-clause-states g c = rw c.open-session.ensures.making (
    let region = ap (λ (l : Limits). l.room.region) c.in_region.ensures in
    over_lane c.args.runner.original.now c.args.runner.limits.size c.args.runner.limits.budget g.K.Keeping.words g.K.Keeping.used g.K.Keeping.rule _ c.in_region.result c.args.start.lane c.requires.states
    (ap (λ (l : Limits). l.room.size) c.in_region.ensures) (ap (λ (l : Limits). l.budget) c.in_region.ensures) (omega (arith, region, c.from.ensures)))

pub lines_of-requires-clause-fresh : goal.lines_of-requires-clause-fresh
lines_of-requires-clause-fresh g c = rw (c.open-session.ensures.engine, c.new.ensures) (
    let start = c.args.start in
    let lane = start.lane in
    let size = c.args.runner.limits.size in
    let call = c.args.call.now in
    let at = first_of 0 lane in
    let r = c.engine_of-engine.result in
    let v = c.of-named.result.value in
    let n = named_by r in
    let number = ap (λ (l : Limits). l.room.region) c.in_region.ensures in
    let region : c.in_region.result.room.region ≡ suc lane = omega (arith, number, c.from.ensures) in
    let shape : call_of v.room v.at v.call.now ≡ call_of c.in_region.result.room at call = cc (c.of-named.ensures.room, c.of-named.ensures.at, c.of-named.ensures.call) in
    let own : call_of c.in_region.result.room at call ≡ call_of (record { region = suc lane; size = size; used = start.used }) at call = call_in c.in_region.result.room (record { region = suc lane; size = size; used = start.used }) at call region in
    let is : n ≡ v = c.engine_of-engine.ensures.call in
    let same : g.X.Expecting.call ≡ call_of n.room n.at n.call.now = c.requires.expects.0 ∙ sym own ∙ sym shape ∙ ap (λ m. call_of m.room m.at m.call.now) (sym is) in
    let pass : pass_of r ≡ start.pass = c.engine_of-engine.ensures.pass in
    let goes = subst (λ (p : Pass). MayGoOn at (book p)) (sym pass) c.requires.pass.begins in
    let kept : g.X.Expecting.used ≡ used_of (book (pass_of r)) lane = c.requires.expects.1 ∙ c.requires.used ∙ ap (λ (p : Pass). used_of (book p) lane) (sym pass) in (
      length (book start.pass).lost,
      (
        c.engine_of-engine.ensures.stands [] c.requires.pass.entries (λ t b none. absurd none),
        λ first. awaits_first _ _ (book (pass_of r)) lane _ start.used size call same c.requires.expects.0 kept goes,
      ),
    ))
