use Rattle.std.proofs.Common.{◌≡◌, map, rules}
use Rattle.std.specs.Prelude.{unsigned_abs}
use Rattle.std.proofs.lemmas.Result.{err_from_is_err_and}
use Rattle.script.proofs.Made.{limit_passed, phase_fails, made}
use Rattle.script.proofs.reading.script_of.Goals as goal

pub returns-in_err-limits_of : goal.returns-in_err-limits_of
returns-in_err-limits_of c =
    let p = err_from_is_err_and c.from_residual.result c.from_residual.ensures.1 in
    rw (p.1, p.2) (limit_passed (map (λ k. k.now) c.args.classes.now) c.args.program.now c.args.head c.args.lists.now c.args.fixed c.requires c.in_err-limits_of.field-0.0 c.in_err-limits_of.ensures)

pub returns-in_err-phases : goal.returns-in_err-phases
returns-in_err-phases c =
    let p = err_from_is_err_and c.from_residual-in_err-phases.result c.from_residual-in_err-phases.ensures.1 in
    let lanes_are : c.unsigned_abs.result ≡ unsigned_abs c.args.head.lanes = search rules in
    rw (p.1, p.2) (phase_fails (map (λ k. k.now) c.args.classes.now) c.args.program.now c.args.head c.args.lists.now c.args.fixed c.requires c.in_ok-methods.methods c.unsigned_abs.result c.in_ok-methods.ensures lanes_are c.in_err-phases.field-0.0 c.in_ok-limits_of.ensures c.in_err-phases.ensures)

pub returns : goal.returns
returns c =
    let lanes_are : c.unsigned_abs.result ≡ unsigned_abs c.args.head.lanes = search rules in
    made (map (λ k. k.now) c.args.classes.now) c.args.program.now c.args.head c.args.lists.now c.args.fixed c.requires c.in_ok-methods.methods c.unsigned_abs.result c.in_ok-methods.ensures lanes_are c.in_ok-phases.phases.items c.script_with.result c.in_ok-limits_of.ensures c.in_ok-phases.ensures c.script_with.ensures
