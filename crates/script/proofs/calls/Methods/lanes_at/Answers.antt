use Rattle.std.proofs.lemmas.Result.{err_from_is_err_and}
use Rattle.script.specs.Script.{lane_in}
use Rattle.script.specs.Seen.{values}
use Rattle.script.proofs.Each.{next, fails}
use Rattle.script.proofs.calls.Methods.lanes_at.Goals as goal

pub returns-in_err-lane_of : goal.returns-in_err-lane_of
returns-in_err-lane_of c =
    let p = err_from_is_err_and c.from_residual.result c.from_residual.ensures.1 in
    rw (p.1, p.2) (fails (lane_in c.args.self.now.classes c.args.self.now.program c.args.path.now) values c.args.lists.now c.loop-lane.lane c.index-lists-lane.result c.in_err-lane_of.field-0.0 c.loop-lane.lanes.items _
    c.loop-lane-test.true c.index-lists-lane.is c.in_err-lane_of.ensures c.loop-lane.invariant)

pub loop-lane-preserved : goal.loop-lane-preserved
loop-lane-preserved c =
    next (lane_in c.args.self.now.classes c.args.self.now.program c.args.path.now) values c.args.lists.now c.loop-lane.lane c.index-lists-lane.result c.loop-lane.lanes.items c.push.new.self.items c.in_ok-lane_of.field-0 _
    c.loop-lane-test.true c.index-lists-lane.is c.in_ok-lane_of.ensures c.in_ok-push.ensures.items c.loop-lane.invariant
