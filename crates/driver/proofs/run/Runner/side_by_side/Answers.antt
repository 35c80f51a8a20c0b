use Rattle.std.proofs.Common.{◌≡◌, length, map, refl, sym, ◌∙◌, arith}
use Rattle.std.proofs.lemmas.List.{length-map}
use Rattle.std.proofs.lemmas.List.Folds.{flat_map-map}
use Rattle.std.specs.List.{flat_map}
use Rattle.jmodel.specs.history.Schedule.{Lanes}
use Rattle.driver.specs.Telling.{kept_of, AreTold, IsCallAt}
use Rattle.driver.proofs.Told.{told_side}
use Rattle.tx_table.specs.Passes.{book}
use Rattle.driver.specs.Passing.{call_count, IsJoining, IsMidway}
use Rattle.driver.proofs.Lists.{on_ok}
use Rattle.driver.proofs.Midway.{room_within, ending_of, midway_of}
use Rattle.std.proofs.lemmas.Result.{IfOk-from_err}
use Rattle.driver.proofs.run.Runner.side_by_side.Goals as goal

pub start_lanes-requires-clause-pass : goal.start_lanes-requires-clause-pass
start_lanes-requires-clause-pass g c = (c.args.phase, c.requires.pass)

pub start_lanes-requires-clause-room : goal.start_lanes-requires-clause-room
start_lanes-requires-clause-room g c = room_within 0 (call_count c.args.lanes.now) (book c.args.pass.now) (omega arith) c.requires.room

pub run_all-requires-clause-starts : goal.run_all-requires-clause-starts
run_all-requires-clause-starts g c = λ κs lives. ((book c.args.pass.now).seen, c.in_ok-starts.ensures.starts c.args.phase c.requires.pass)

pub gather-requires-clause-ending : goal.gather-requires-clause-ending
gather-requires-clause-ending g c =
    let t = c.args.shared.now.table.shared.table_id in
    let b = book c.args.pass.now in
    let lanes = c.args.lanes.now in
    let ended = c.in_ok-ends.ensures.ended b.seen (c.in_ok-starts.ensures.starts c.args.phase c.requires.pass) in (
      b,
      c.args.phase,
      lanes,
      ending_of t b c.args.phase (length lanes) lanes c.in_ok-ends.ends.items c.start_lanes.new.pass c.requires.room refl c.in_ok-starts.ensures.pass ended,
    )

pub run_all-requires-clause-gates : goal.run_all-requires-clause-gates
run_all-requires-clause-gates g c = λ κs lives. omega (arith, c.requires.gates, c.requires.lanes)

pub run_all-requires-clause-ready : goal.run_all-requires-clause-ready
run_all-requires-clause-ready g c = λ κs lives. c.requires.ready

pub run_all-requires-clause-calls : goal.run_all-requires-clause-calls
run_all-requires-clause-calls g c = λ κs lives. c.requires.calls

pub run_all-requires-clause-few : goal.run_all-requires-clause-few
run_all-requires-clause-few g c = λ κs lives. c.requires.few

pub run_all-requires-clause-attempts : goal.run_all-requires-clause-attempts
run_all-requires-clause-attempts g c = λ κs lives. c.requires.attempts

pub run_all-requires-clause-room_size : goal.run_all-requires-clause-room_size
run_all-requires-clause-room_size g c = λ κs lives. c.requires.room_size

pub run_all-requires-clause-rule : goal.run_all-requires-clause-rule
run_all-requires-clause-rule g c = λ κs lives. c.requires.rule

pub run_all-requires-clause-states : goal.run_all-requires-clause-states
run_all-requires-clause-states g c = λ κs lives. c.requires.states

pub returns-in_err-starts : goal.returns-in_err-starts
returns-in_err-starts g c =
    let none = c.from_residual.ensures.0 in
    record {
      midway = IfOk-from_err _ _ none;
      used = IfOk-from_err _ _ none;
      told = IfOk-from_err _ _ none;
    }

pub returns-in_err-ends : goal.returns-in_err-ends
returns-in_err-ends g c =
    let none = c.from_residual-in_err-ends.ensures.0 in
    record {
      midway = IfOk-from_err _ _ none;
      used = IfOk-from_err _ _ none;
      told = IfOk-from_err _ _ none;
    }

pub gather-requires-clause-few : goal.gather-requires-clause-few
gather-requires-clause-few g c =
    let ended = c.in_ok-ends.ensures.ended (book c.args.pass.now).seen (c.in_ok-starts.ensures.starts c.args.phase c.requires.pass) in
    omega (arith, ended.len, c.requires.lanes)

pub returns-clause-midway : goal.returns-clause-midway
returns-clause-midway g c =
    let t = c.args.shared.now.table.shared.table_id in
    let p = c.args.pass.now in
    let q = c.gather.new.pass in
    let b = book p in
    let lanes = c.args.lanes.now in
    let ended = c.in_ok-ends.ensures.ended b.seen (c.in_ok-starts.ensures.starts c.args.phase c.requires.pass) in
    let ending =
    ending_of t b c.args.phase (length lanes) lanes c.in_ok-ends.ends.items c.start_lanes.new.pass c.requires.room refl c.in_ok-starts.ensures.pass ended in
    on_ok c.gather.result (λ side. IsJoining t b c.args.phase (length lanes) (call_count lanes) lanes side.placed.items side.parts.items q)
    (λ side. IsMidway t b c.args.phase lanes side q) (λ side j. midway_of t c.args.phase lanes side p q c.requires.pass c.requires.room j)
    (c.gather.ensures.joining b c.args.phase lanes ending)

pub returns-clause-used : goal.returns-clause-used
returns-clause-used g c =
    let t = c.args.shared.now.table.shared.table_id in
    let b = book c.args.pass.now in
    let lanes = c.args.lanes.now in
    let ended = c.in_ok-ends.ensures.ended b.seen (c.in_ok-starts.ensures.starts c.args.phase c.requires.pass) in
    let ending =
    ending_of t b c.args.phase (length lanes) lanes c.in_ok-ends.ends.items c.start_lanes.new.pass c.requires.room refl c.in_ok-starts.ensures.pass ended in
    c.gather.ensures.used b c.args.phase lanes ending c.requires.used

pub returns-clause-told : goal.returns-clause-told
returns-clause-told g c =
    let Q = c.args.self.now.rewritten.now in
    let limits = c.args.self.now.limits in
    let lanes = c.args.lanes.now in
    let ends = c.in_ok-ends.ends.items in
    let b = book c.args.pass.now in
    let x = map g.G.Gate.told c.args.kept.now.gates.items in
    let y = map g.G.Gate.told c.run_all.new.gates.items in
    let ended = c.in_ok-ends.ensures.ended b.seen (c.in_ok-starts.ensures.starts c.args.phase c.requires.pass) in
    let many : length (map kept_of ends) ≡ length lanes = length-map ends kept_of ∙ ended.len in
    on_ok c.gather.result (λ side. side.placed.items ≡ flat_map kept_of ends)
    (λ side. AreTold Q limits (IsCallAt c.args.phase (Lanes lanes)) (length lanes) side.placed.items x y)
    (λ side placed. told_side Q limits c.args.phase lanes (map kept_of ends) side.placed.items (length lanes) x y c.in_ok-ends.ensures.told
    (placed ∙ sym (flat_map-map (λ rs. rs) kept_of ends)) many) c.gather.ensures.placed
