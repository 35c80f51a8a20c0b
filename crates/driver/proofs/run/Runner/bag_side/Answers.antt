use Rattle.std.proofs.Common.{ℕ, ◌≡◌, ◌≤◌, length, map, sym, ◌∙◌, subst, arith}
use Rattle.std.proofs.lemmas.List.{length-map}
use Rattle.std.proofs.lemmas.List.Folds.{flat_map-map}
use Rattle.driver.specs.Telling.{kept_of}
use Rattle.driver.proofs.Told.{told_side}
use Rattle.tx_table.specs.Passes.{book}
use Rattle.driver.specs.Bags.{lists, as_lanes}
use Rattle.driver.specs.Passing.{HasRoom}
use Rattle.driver.proofs.Bags.{count_in_bag}
use Rattle.driver.proofs.Midway.{room_within, ending_of, midway_of}
use Rattle.driver.proofs.Working.{lanes_long}
use Rattle.std.proofs.lemmas.Result.{IfOk-from_err}
use Rattle.driver.proofs.run.Runner.bag_side.Goals as goal

pub start_lanes-requires-clause-pass : goal.start_lanes-requires-clause-pass
start_lanes-requires-clause-pass g c = (c.args.phase, c.requires.pass)

pub start_lanes-requires-clause-room : goal.start_lanes-requires-clause-room
start_lanes-requires-clause-room g c = room_within 0 (length c.args.calls.now) (book c.args.pass.now) (omega arith) c.requires.room

pub run_workers-requires-clause-starts : goal.run_workers-requires-clause-starts
run_workers-requires-clause-starts g c = λ κs lives. ((book c.args.pass.now).seen, c.in_ok-starts.ensures.starts c.args.phase c.requires.pass)

pub gather-requires-clause-ending : goal.gather-requires-clause-ending
gather-requires-clause-ending g c =
    let t = c.args.shared.now.table.shared.table_id in
    let b = book c.args.pass.now in
    let taken = lists c.in_ok-ends.taken.items in
    let lanes = as_lanes c.args.calls.now taken in
    let ended = c.in_ok-ends.ensures.ended b.seen (c.in_ok-starts.ensures.starts c.args.phase c.requires.pass) in
    let room = subst (λ (n : ℕ). HasRoom n b) (sym (count_in_bag c.args.calls.now taken c.in_ok-ends.ensures.taken)) c.requires.room in
    let long = lanes_long c.args.calls.now c.in_ok-ends.taken.items in
    let whole : c.args.workers ≡ length lanes = omega (arith, long, c.in_ok-ends.ensures.len, c.in_ok-starts.ensures.len) in (
      b,
      c.args.phase,
      lanes,
      ending_of t b c.args.phase c.args.workers lanes c.in_ok-ends.ends.items c.start_lanes.new.pass room whole c.in_ok-starts.ensures.pass ended,
    )

pub returns-clause-midway : goal.returns-clause-midway
returns-clause-midway g c =
    let t = c.args.shared.now.table.shared.table_id in
    let p = c.args.pass.now in
    let b = book p in
    let taken = lists c.in_ok-ends.taken.items in
    let lanes = as_lanes c.args.calls.now taken in
    let ended = c.in_ok-ends.ensures.ended b.seen (c.in_ok-starts.ensures.starts c.args.phase c.requires.pass) in
    let room = subst (λ (n : ℕ). HasRoom n b) (sym (count_in_bag c.args.calls.now taken c.in_ok-ends.ensures.taken)) c.requires.room in
    let long = lanes_long c.args.calls.now c.in_ok-ends.taken.items in
    let whole : c.args.workers ≡ length lanes = omega (arith, long, c.in_ok-ends.ensures.len, c.in_ok-starts.ensures.len) in
    let ending =
    ending_of t b c.args.phase c.args.workers lanes c.in_ok-ends.ends.items c.start_lanes.new.pass room whole c.in_ok-starts.ensures.pass ended in
    midway_of t c.args.phase lanes c.in_ok-side.side p c.gather.new.pass c.requires.pass room (c.in_ok-side.ensures.joining b c.args.phase lanes ending)

pub returns-clause-told : goal.returns-clause-told
returns-clause-told g c =
    let Q = c.args.self.now.rewritten.now in
    let limits = c.args.self.now.limits in
    let taken = lists c.in_ok-ends.taken.items in
    let lanes = as_lanes c.args.calls.now taken in
    let ends = c.in_ok-ends.ends.items in
    let b = book c.args.pass.now in
    let ended = c.in_ok-ends.ensures.ended b.seen (c.in_ok-starts.ensures.starts c.args.phase c.requires.pass) in
    let long = lanes_long c.args.calls.now c.in_ok-ends.taken.items in
    let many : length (map kept_of ends) ≡ c.args.workers = length-map ends kept_of ∙ ended.len ∙ long ∙ c.in_ok-ends.ensures.len ∙ c.in_ok-starts.ensures.len in
    told_side Q limits c.args.phase lanes (map kept_of ends) c.in_ok-side.side.placed.items c.args.workers _ _ c.in_ok-ends.ensures.told
    (c.in_ok-side.ensures.placed ∙ sym (flat_map-map (λ rs. rs) kept_of ends)) many

pub run_workers-requires-clause-ready : goal.run_workers-requires-clause-ready
run_workers-requires-clause-ready g c = λ κs lives. c.requires.ready

pub run_workers-requires-clause-calls : goal.run_workers-requires-clause-calls
run_workers-requires-clause-calls g c = λ κs lives. c.requires.calls

pub run_workers-requires-clause-few : goal.run_workers-requires-clause-few
run_workers-requires-clause-few g c = λ κs lives. c.requires.few

pub run_workers-requires-clause-attempts : goal.run_workers-requires-clause-attempts
run_workers-requires-clause-attempts g c = λ κs lives. c.requires.attempts

pub run_workers-requires-clause-room_size : goal.run_workers-requires-clause-room_size
run_workers-requires-clause-room_size g c = λ κs lives. c.requires.room_size

pub run_workers-requires-clause-rule : goal.run_workers-requires-clause-rule
run_workers-requires-clause-rule g c = λ κs lives. c.requires.rule

pub run_workers-requires-clause-states : goal.run_workers-requires-clause-states
run_workers-requires-clause-states g c = λ κs lives. c.requires.states

pub run_workers-requires-clause-some : goal.run_workers-requires-clause-some
run_workers-requires-clause-some g c = λ κs lives.
    subst (λ (n : ℕ). (1 ≤ n) × (n ≤ 16)) (sym c.in_ok-starts.ensures.len) c.requires.workers

pub run_workers-requires-clause-gates : goal.run_workers-requires-clause-gates
run_workers-requires-clause-gates g c = λ κs lives. omega (arith, c.in_ok-starts.ensures.len, c.requires.workers.1, c.requires.gates)

pub returns-clause-len : goal.returns-clause-len
returns-clause-len g c = c.in_ok-ends.ensures.len ∙ c.in_ok-starts.ensures.len

pub returns-clause-taken : goal.returns-clause-taken
returns-clause-taken g c = c.in_ok-ends.ensures.taken

pub returns-in_err-starts : goal.returns-in_err-starts
returns-in_err-starts g c =
    let none = c.from_residual.ensures.0 in
    record {
      len = IfOk-from_err _ _ none;
      taken = IfOk-from_err _ _ none;
      midway = IfOk-from_err _ _ none;
      used = IfOk-from_err _ _ none;
      told = IfOk-from_err _ _ none;
    }

pub returns-in_err-ends : goal.returns-in_err-ends
returns-in_err-ends g c =
    let none = c.from_residual-in_err-ends.ensures.0 in
    record {
      len = IfOk-from_err _ _ none;
      taken = IfOk-from_err _ _ none;
      midway = IfOk-from_err _ _ none;
      used = IfOk-from_err _ _ none;
      told = IfOk-from_err _ _ none;
    }

pub returns-in_err-side : goal.returns-in_err-side
returns-in_err-side g c =
    let none = c.from_residual-in_err-side.ensures.0 in
    record {
      len = IfOk-from_err _ _ none;
      taken = IfOk-from_err _ _ none;
      midway = IfOk-from_err _ _ none;
      used = IfOk-from_err _ _ none;
      told = IfOk-from_err _ _ none;
    }

pub gather-requires-clause-few : goal.gather-requires-clause-few
gather-requires-clause-few g c =
    let b = book c.args.pass.now in
    let ended = c.in_ok-ends.ensures.ended b.seen (c.in_ok-starts.ensures.starts c.args.phase c.requires.pass) in
    let long = lanes_long c.args.calls.now c.in_ok-ends.taken.items in
    omega (arith, ended.len, long, c.in_ok-ends.ensures.len, c.in_ok-starts.ensures.len, c.requires.workers.1)

pub returns-clause-used : goal.returns-clause-used
returns-clause-used g c =
    let t = c.args.shared.now.table.shared.table_id in
    let b = book c.args.pass.now in
    let taken = lists c.in_ok-ends.taken.items in
    let lanes = as_lanes c.args.calls.now taken in
    let ended = c.in_ok-ends.ensures.ended b.seen (c.in_ok-starts.ensures.starts c.args.phase c.requires.pass) in
    let long = lanes_long c.args.calls.now c.in_ok-ends.taken.items in
    let room = subst (λ (n : ℕ). HasRoom n b) (sym (count_in_bag c.args.calls.now taken c.in_ok-ends.ensures.taken)) c.requires.room in
    let whole : c.args.workers ≡ length lanes = omega (arith, long, c.in_ok-ends.ensures.len, c.in_ok-starts.ensures.len) in
    let ending =
    ending_of t b c.args.phase c.args.workers lanes c.in_ok-ends.ends.items c.start_lanes.new.pass room whole c.in_ok-starts.ensures.pass ended in
    c.in_ok-side.ensures.used b c.args.phase lanes ending c.requires.used
