use Rattle.std.proofs.Common.{◌≡◌, [], length, map}
use Rattle.jmodel.specs.history.Schedule.{Lanes}
use Rattle.driver.specs.Telling.{AreTold, IsCallAt}
use Rattle.driver.proofs.Lists.{on_ok}
use Rattle.driver.proofs.Told.{told_nothing}
use Rattle.driver.proofs.run.Runner.first_side.Goals as goal

pub returns-else-has_several-clause-told : goal.returns-else-has_several-clause-told
returns-else-has_several-clause-told g c =
    let Q = c.args.self.now.rewritten.now in
    let limits = c.args.self.now.limits in
    let lanes = c.args.lanes.now in
    let C = IsCallAt c.args.phase (Lanes lanes) in
    let x = map g.G.Gate.told c.args.kept.now.gates.items in
    on_ok c.untouched.result (λ side. side.placed.items ≡ []) (λ side. AreTold Q limits C (length lanes) side.placed.items x x)
    (λ side none. told_nothing Q limits C (length lanes) side.placed.items x none) c.untouched.ensures.none

pub side_by_side-requires-clause-ready : goal.side_by_side-requires-clause-ready
side_by_side-requires-clause-ready g c = λ κs lives. c.requires.ready

pub side_by_side-requires-clause-calls : goal.side_by_side-requires-clause-calls
side_by_side-requires-clause-calls g c = λ κs lives. c.requires.calls

pub side_by_side-requires-clause-few : goal.side_by_side-requires-clause-few
side_by_side-requires-clause-few g c = λ κs lives. c.requires.few

pub side_by_side-requires-clause-lanes : goal.side_by_side-requires-clause-lanes
side_by_side-requires-clause-lanes g c = λ κs lives. c.requires.lanes

pub side_by_side-requires-clause-attempts : goal.side_by_side-requires-clause-attempts
side_by_side-requires-clause-attempts g c = λ κs lives. c.requires.attempts

pub side_by_side-requires-clause-room_size : goal.side_by_side-requires-clause-room_size
side_by_side-requires-clause-room_size g c = λ κs lives. c.requires.room_size

pub side_by_side-requires-clause-rule : goal.side_by_side-requires-clause-rule
side_by_side-requires-clause-rule g c = λ κs lives. c.requires.rule

pub side_by_side-requires-clause-states : goal.side_by_side-requires-clause-states
side_by_side-requires-clause-states g c = λ κs lives. c.requires.states

pub side_by_side-requires-clause-pass : goal.side_by_side-requires-clause-pass
side_by_side-requires-clause-pass g c = λ κs lives. c.requires.pass

pub side_by_side-requires-clause-room : goal.side_by_side-requires-clause-room
side_by_side-requires-clause-room g c = λ κs lives. c.requires.room

pub side_by_side-requires-clause-used : goal.side_by_side-requires-clause-used
side_by_side-requires-clause-used g c = λ κs lives. c.requires.used

pub side_by_side-requires-clause-gates : goal.side_by_side-requires-clause-gates
side_by_side-requires-clause-gates g c = λ κs lives. c.requires.gates

pub returns-then-has_several-clause-midway : goal.returns-then-has_several-clause-midway
returns-then-has_several-clause-midway g c = c.side_by_side.ensures.midway

pub returns-then-has_several-clause-used : goal.returns-then-has_several-clause-used
returns-then-has_several-clause-used g c = c.side_by_side.ensures.used

pub returns-then-has_several-clause-told : goal.returns-then-has_several-clause-told
returns-then-has_several-clause-told g c = c.side_by_side.ensures.told

pub returns-else-has_several-clause-midway : goal.returns-else-has_several-clause-midway
returns-else-has_several-clause-midway g c =
    c.untouched.ensures.midway c.args.shared.now.table.shared.table_id c.args.phase c.args.pass.now c.requires.pass c.requires.room c.requires.used
