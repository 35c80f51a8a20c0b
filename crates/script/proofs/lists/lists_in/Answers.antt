use Rattle.std.proofs.Common.{◌∙◌, map, ap}
use Rattle.std.proofs.lemmas.Result.{err_from_is_err_and}
use Rattle.std.proofs.lemmas.List.{map-append}
use Rattle.script.specs.Script.{list_in}
use Rattle.script.specs.Seen.{seen, values}
use Rattle.script.proofs.Each.{next, fails}
use Rattle.script.proofs.lists.lists_in.Goals as goal

pub returns-in_err-calls_at : goal.returns-in_err-calls_at
returns-in_err-calls_at c =
    let p = err_from_is_err_and c.from_residual.result c.from_residual.ensures.1 in
    rw (p.1, p.2) (fails (list_in c.args.path.now) seen c.args.values.now c.loop-lane.lane c.index-values-lane.result c.in_err-calls_at.field-0.0 (map values c.loop-lane.lanes.items) _
    c.loop-lane-test.true c.index-values-lane.is c.in_err-calls_at.ensures c.loop-lane.invariant)

pub loop-lane-preserved : goal.loop-lane-preserved
loop-lane-preserved c =
    next (list_in c.args.path.now) seen c.args.values.now c.loop-lane.lane c.index-values-lane.result (map values c.loop-lane.lanes.items) (map values c.push.new.self.items) (values c.in_ok-calls_at.field-0) _
    c.loop-lane-test.true c.index-values-lane.is c.in_ok-calls_at.ensures (ap (map values) c.in_ok-push.ensures.items ∙ map-append values _ _) c.loop-lane.invariant
