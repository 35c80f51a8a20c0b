use Rattle.std.proofs.Common.{◌≡◌, ◌<◌, ◌+◌, ℕ, suc, List, [], length, map, take, replicate, slice_index, refl, sym, ◌∙◌, subst, arith}
use Rattle.std.specs.List.{AllByRecursion}
use Rattle.std.proofs.lemmas.List.{length-take-le, take_all, get_or-replicate}
use Rattle.tx_table.specs.Rule.{Ends}
use Rattle.jmodel.specs.history.Schedule.{ScriptPhase, lists_in}
use Rattle.tx_table.specs.Passes.{book}
use Rattle.session.specs.Rule.{IsCallOf, IsState}
use Rattle.session.proofs.Marked.{explained}
use Rattle.driver.specs.Memory.{used_at_first}
use Rattle.driver.specs.Runs.{HasLanes}
use Rattle.driver.specs.Stories.{story_of}
use Rattle.driver.specs.Over.{AddsPhase}
use Rattle.driver.specs.Passing.{call_count, IsWhole}
use Rattle.driver.proofs.Lists.{all_here}
use Rattle.driver.proofs.Places.{IsFew, few_in_script, few_in_phases}
use Rattle.driver.proofs.More.{lanes_more}
use Rattle.driver.proofs.Over.{HasRunOver, run_none, over_more, run_over}
use Rattle.driver.proofs.Spending.{room_for, ticks_next}
use Rattle.std.specs.Prelude.{slice_get, Some}
use Rattle.std.proofs.lemmas.List.{length-map}
use Rattle.std.proofs.lemmas.Option.{slice_get_read}
use Rattle.std.proofs.lemmas.Result.{IfOk-from_err}
use Rattle.driver.specs.Telling.{TellsPhase}
use Rattle.driver.proofs.ToldRuns.{ToldTo, told_to_first, told_to_next}
use Rattle.driver.proofs.run.Runner.run_over.Goals as goal

-- no word of any lane's region is used at first
none_anywhere : (lane : ℕ) → lane < 16 → slice_index (replicate 16 0) lane ≡ 0
none_anywhere lane low = get_or-replicate 16 lane 0 0 low

pub loop-number-init : goal.loop-number-init
loop-number-init g c =
    let opened = c.in_ok-shared.ensures.pass in
    let unused = opened.1 in
    record {
      whole = opened.0;
      fresh = omega (arith, unused.fresh);
      few = omega (arith, unused.fresh);
      ticks = omega (arith, unused.ticks);
      used = λ lane low. none_anywhere lane low ∙ sym (c.in_ok-shared.ensures.unused lane low);
      over = run_none (book c.in_ok-shared.pass) c.new-records.result unused.entries c.new-records.ensures.placed c.new-records.ensures.unplaced;
      told =
          let x = map g.G.Gate.told c.args.gates.now.items in
          let first = told_to_first c.args.self.now.rewritten.now c.args.self.now.limits c.args.phases.now c.new-records.result.placed.items x c.new-records.ensures.placed in
          subst (λ gs. ToldTo c.args.self.now.rewritten.now c.args.self.now.limits c.args.phases.now [] c.new-records.result.placed.items x (map g.G.Gate.told gs.items)) (sym c.replace.ensures.value) first;
    }

pub run_phase-requires-clause-calls : goal.run_phase-requires-clause-calls
run_phase-requires-clause-calls g c = λ κs lives.
    all_here (λ (p : ScriptPhase). AllByRecursion (AllByRecursion (IsCallOf c.args.self.now.original.now)) (lists_in p)) c.args.phases.now c.loop-number.number
    c.index-phases-number.result c.requires.scripted.calls c.loop-number-test.true c.index-phases-number.is

pub run_phase-requires-clause-few : goal.run_phase-requires-clause-few
run_phase-requires-clause-few g c = λ κs lives.
    all_here (λ (p : ScriptPhase). AllByRecursion IsFew (lists_in p)) c.args.phases.now c.loop-number.number c.index-phases-number.result
    (few_in_phases c.args.phases.now (few_in_script 0 (map lists_in c.args.phases.now) c.requires.scripted.few_calls)) c.loop-number-test.true
    c.index-phases-number.is

pub run_phase-requires-clause-lanes : goal.run_phase-requires-clause-lanes
run_phase-requires-clause-lanes g c = λ κs lives.
    all_here HasLanes c.args.phases.now c.loop-number.number c.index-phases-number.result c.requires.scripted.lanes c.loop-number-test.true
    c.index-phases-number.is

pub run_phase-requires-clause-room : goal.run_phase-requires-clause-room
run_phase-requires-clause-room g c = λ κs lives.
    let i = c.loop-number.invariant in
    room_for c.loop-number.number c.args.phases.now c.index-phases-number.result (book c.loop-number.pass) c.loop-number-test.true c.index-phases-number.is i.ticks
    c.requires.scripted.few_phases c.requires.scripted.few_calls i.fresh i.few

pub run_phase-requires-clause-states : goal.run_phase-requires-clause-states
run_phase-requires-clause-states g c = λ κs lives.
    let P = c.args.self.now.original.now in
    let size = c.args.self.now.limits.size in
    let σ = c.requires.stands.0 in
    let Words : List ℕ → Type 0 = λ words. IsState P size words (used_at_first c.args.memory.used) σ in
    let Used : ℕ → Type 0 = λ used. IsState P size g.K.Keeping.words (used_at_first used) σ in
    record {
      state = σ;
      stands = subst Used c.requires.used (subst Words c.requires.words c.requires.stands.1);
      explained = λ e r. explained P c.args.self.now.rewritten.now size c.args.self.now.limits.budget c.args.self.now.limits.attempts e (c.requires.ruled e r);
    }

pub loop-number-preserved : goal.loop-number-preserved
loop-number-preserved g c =
    let i = c.loop-number.invariant in
    let n = c.loop-number.number in
    let phases = c.args.phases.now in
    let phase = c.index-phases-number.result in
    let b = book c.loop-number.pass in
    let left = c.in_ok-pass.pass in
    let count = call_count (lists_in phase) in
    let adds = c.in_ok-pass.ensures.adds in
    let added = adds.adds in
    let below = c.loop-number-test.true in
    let long : length (take n phases) ≡ n = length-take-le n phases (omega arith) in
    let up : suc n ≡ n + 1 = omega arith in
    let Adds : ℕ → Type 0 = λ k. AddsPhase k count phase b (book left) c.loop-number.records c.run_phase.new.journal in
    record {
      whole = subst (λ (k : ℕ). IsWhole c.in_ok-shared.shared.table.shared.table_id k left) up c.in_ok-pass.ensures.whole;
      fresh = omega (arith, i.fresh, added.fresh);
      few = omega (arith, i.few, added.few);
      ticks = ticks_next n phases phase b below c.index-phases-number.is i.ticks (book left) added.ticks;
      used = c.in_ok-pass.ensures.used;
      over = subst (λ (ps : List ScriptPhase). HasRunOver ps (book left) c.run_phase.new.journal) (lanes_more phases n phase below c.index-phases-number.is)
          (over_more (take n phases) phase count b (book left) c.loop-number.records c.run_phase.new.journal i.over (subst Adds (sym long) adds));
      told =
          let Q = c.args.self.now.rewritten.now in
          let limits = c.args.self.now.limits in
          let first = take n phases in
          let there : slice_get phases (length first) ≡ Some phase = subst (λ (k : ℕ). slice_get phases k ≡ Some phase) (sym long) (slice_get_read phases (length phases) n phase refl below c.index-phases-number.is) in
          let x = map g.G.Gate.told c.args.gates.now.items in
          let y = map g.G.Gate.told c.loop-number.kept.gates.items in
          let z = map g.G.Gate.told c.run_phase.new.kept.gates.items in
          let old = c.loop-number.records.placed.items in
          let new = c.run_phase.new.journal.placed.items in
          let tells = subst (λ (k : ℕ). TellsPhase Q limits k phase old new y z) (sym long) c.in_ok-pass.ensures.told in
          subst (λ (ps : List ScriptPhase). ToldTo Q limits phases ps new x z) (lanes_more phases n phase below c.index-phases-number.is)
          (told_to_next Q limits phases first phase there old new x y z i.told tells);
    }

pub returns-clause-run : goal.returns-clause-run
returns-clause-run g c =
    let phases = c.args.phases.now in
    let n = c.loop-number.number in
    let done = c.loop-number-test.false in
    let all : take n phases ≡ phases = take_all n phases (omega arith) in
    let b = book c.loop-number.pass in
    let rule = g.K.Keeping.rule in
    let memory = c.args.memory in
    let after = c.in-Ok.words.items in
    let Words : List ℕ → Type 0 = λ words. Ends (story_of rule words g.K.Keeping.used) b after in
    let Used : ℕ → Type 0 = λ used. Ends (story_of rule memory.words.items used) b after in
    let ends = subst Used (sym c.requires.used) (subst Words (sym c.requires.words) c.in-Ok.ensures.ok) in
    run_over c.args.self.now.original.now c.args.self.now.rewritten.now c.args.self.now.limits.size c.args.self.now.limits.budget c.args.self.now.limits.attempts memory after rule c.requires.ruled b phases c.loop-number.records
    (subst (λ (ps : List ScriptPhase). HasRunOver ps b c.loop-number.records) all c.loop-number.invariant.over) ends
    c.loop-number.kept.used n c.loop-number.invariant.used c.loop-number.invariant.whole.begins _ refl refl refl c.in_ok-used.ensures.used c.in_ok-used.ensures.len

pub run_phase-requires-clause-gates : goal.run_phase-requires-clause-gates
run_phase-requires-clause-gates g c = λ κs lives.
    let gs = c.loop-number.kept.gates.items in
    omega (arith, c.loop-number.invariant.told.script.len, length-map gs g.G.Gate.told, length-map c.args.gates.now.items g.G.Gate.told, c.requires.gates)

pub returns-clause-told : goal.returns-clause-told
returns-clause-told g c = c.loop-number.invariant.told.script

pub run_phase-requires-clause-ready : goal.run_phase-requires-clause-ready
run_phase-requires-clause-ready g c = λ κs lives. c.requires.ready

pub run_phase-requires-clause-attempts : goal.run_phase-requires-clause-attempts
run_phase-requires-clause-attempts g c = λ κs lives. c.requires.attempts

pub run_phase-requires-clause-room_size : goal.run_phase-requires-clause-room_size
run_phase-requires-clause-room_size g c = λ κs lives. c.requires.room_size

pub run_phase-requires-clause-rule : goal.run_phase-requires-clause-rule
run_phase-requires-clause-rule g c = λ κs lives. c.requires.rule

pub run_phase-requires-clause-used : goal.run_phase-requires-clause-used
run_phase-requires-clause-used g c = λ κs lives. c.loop-number.invariant.used

pub returns-in_err-shared : goal.returns-in_err-shared
returns-in_err-shared g c =
    let none = c.from_residual.ensures.0 in
    record {
      run = IfOk-from_err _ _ none;
      told = IfOk-from_err _ _ none;
    }

pub returns-in_err-pass : goal.returns-in_err-pass
returns-in_err-pass g c =
    let none = c.from_residual-in_err-pass.ensures.0 in
    record {
      run = IfOk-from_err _ _ none;
      told = IfOk-from_err _ _ none;
    }

pub returns-in_err-used : goal.returns-in_err-used
returns-in_err-used g c =
    let none = c.from_residual-in_err-used.ensures.0 in
    record {
      run = IfOk-from_err _ _ none;
      told = IfOk-from_err _ _ none;
    }
