use Rattle.std.proofs.Common.{arith}
use Rattle.std.proofs.lemmas.List.{length-map}
use Rattle.tx_table.specs.Passes.{book}
use Rattle.std.proofs.lemmas.Result.{IfOk-from_err}
use Rattle.driver.proofs.run.Runner.run_lanes.Goals as goal

pub add_rest-requires-clause-side : goal.add_rest-requires-clause-side
add_rest-requires-clause-side g c = (book c.args.pass, c.in_ok-first.ensures.midway)

pub returns-clause-adds : goal.returns-clause-adds
returns-clause-adds g c = c.add_rest.ensures.adds (book c.args.pass) c.in_ok-first.ensures.midway

pub returns-clause-told : goal.returns-clause-told
returns-clause-told g c = c.add_rest.ensures.told (book c.args.pass) _ c.in_ok-first.ensures.midway c.in_ok-first.ensures.told

pub add_rest-requires-clause-ready : goal.add_rest-requires-clause-ready
add_rest-requires-clause-ready g c = c.requires.ready

pub add_rest-requires-clause-calls : goal.add_rest-requires-clause-calls
add_rest-requires-clause-calls g c = c.requires.calls

pub add_rest-requires-clause-few : goal.add_rest-requires-clause-few
add_rest-requires-clause-few g c = c.requires.few

pub add_rest-requires-clause-lanes : goal.add_rest-requires-clause-lanes
add_rest-requires-clause-lanes g c = c.requires.lanes

pub add_rest-requires-clause-attempts : goal.add_rest-requires-clause-attempts
add_rest-requires-clause-attempts g c = c.requires.attempts

pub add_rest-requires-clause-room_size : goal.add_rest-requires-clause-room_size
add_rest-requires-clause-room_size g c = c.requires.room_size

pub add_rest-requires-clause-rule : goal.add_rest-requires-clause-rule
add_rest-requires-clause-rule g c = c.requires.rule

pub add_rest-requires-clause-states : goal.add_rest-requires-clause-states
add_rest-requires-clause-states g c = c.requires.states

pub returns-clause-whole : goal.returns-clause-whole
returns-clause-whole g c = c.add_rest.ensures.whole

pub returns-clause-used : goal.returns-clause-used
returns-clause-used g c = c.add_rest.ensures.used

pub first_side-requires-clause-ready : goal.first_side-requires-clause-ready
first_side-requires-clause-ready g c = λ κs lives. c.requires.ready

pub first_side-requires-clause-calls : goal.first_side-requires-clause-calls
first_side-requires-clause-calls g c = λ κs lives. c.requires.calls

pub first_side-requires-clause-few : goal.first_side-requires-clause-few
first_side-requires-clause-few g c = λ κs lives. c.requires.few

pub first_side-requires-clause-lanes : goal.first_side-requires-clause-lanes
first_side-requires-clause-lanes g c = λ κs lives. c.requires.lanes

pub first_side-requires-clause-attempts : goal.first_side-requires-clause-attempts
first_side-requires-clause-attempts g c = λ κs lives. c.requires.attempts

pub first_side-requires-clause-room_size : goal.first_side-requires-clause-room_size
first_side-requires-clause-room_size g c = λ κs lives. c.requires.room_size

pub first_side-requires-clause-rule : goal.first_side-requires-clause-rule
first_side-requires-clause-rule g c = λ κs lives. c.requires.rule

pub first_side-requires-clause-states : goal.first_side-requires-clause-states
first_side-requires-clause-states g c = λ κs lives. c.requires.states

pub first_side-requires-clause-pass : goal.first_side-requires-clause-pass
first_side-requires-clause-pass g c = λ κs lives. c.requires.pass

pub first_side-requires-clause-room : goal.first_side-requires-clause-room
first_side-requires-clause-room g c = λ κs lives. c.requires.room

pub first_side-requires-clause-used : goal.first_side-requires-clause-used
first_side-requires-clause-used g c = λ κs lives. c.requires.used

pub first_side-requires-clause-gates : goal.first_side-requires-clause-gates
first_side-requires-clause-gates g c = λ κs lives. c.requires.gates

pub add_rest-requires-clause-used : goal.add_rest-requires-clause-used
add_rest-requires-clause-used g c = c.in_ok-first.ensures.used

pub add_rest-requires-clause-gates : goal.add_rest-requires-clause-gates
add_rest-requires-clause-gates g c =
    let T = g.G.Gate.told in
    omega (arith, c.in_ok-first.ensures.told.len, length-map c.first_side.new.kept.gates.items T, length-map c.args.kept.now.gates.items T, c.requires.gates)

pub returns-in_err-first : goal.returns-in_err-first
returns-in_err-first g c =
    let none = c.from_residual.ensures.0 in
    record {
      whole = IfOk-from_err _ _ none;
      used = IfOk-from_err _ _ none;
      adds = IfOk-from_err _ _ none;
      told = IfOk-from_err _ _ none;
    }
