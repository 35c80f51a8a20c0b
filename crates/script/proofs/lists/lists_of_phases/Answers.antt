use Rattle.std.proofs.Common.{◌∙◌, map, ap}
use Rattle.std.proofs.lemmas.Result.{err_from_is_err_and}
use Rattle.std.proofs.lemmas.List.{map-append}
use Rattle.script.specs.Script.{lists_of_phase}
use Rattle.script.specs.Seen.{seen, lists}
use Rattle.script.proofs.Each.{next, fails}
use Rattle.script.proofs.lists.lists_of_phases.Goals as goal

pub returns-in_err-lists_of_phase : goal.returns-in_err-lists_of_phase
returns-in_err-lists_of_phase c =
    let p = err_from_is_err_and c.from_residual.result c.from_residual.ensures.1 in
    rw (p.1, p.2) (fails (lists_of_phase c.args.head.lanes) seen c.args.values.now c.loop-index.index c.index-values-index.result c.in_err-lists_of_phase.field-0.0 (map lists c.loop-index.phases.items) _
    c.loop-index-test.true c.index-values-index.is c.in_err-lists_of_phase.ensures c.loop-index.invariant)

pub loop-index-preserved : goal.loop-index-preserved
loop-index-preserved c =
    next (lists_of_phase c.args.head.lanes) seen c.args.values.now c.loop-index.index c.index-values-index.result (map lists c.loop-index.phases.items) (map lists c.push.new.self.items) (lists c.in_ok-lists_of_phase.field-0) _
    c.loop-index-test.true c.index-values-index.is c.in_ok-lists_of_phase.ensures (ap (map lists) c.in_ok-push.ensures.items ∙ map-append lists _ _) c.loop-index.invariant
