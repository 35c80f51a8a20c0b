use Rattle.std.proofs.lemmas.Result.{err_from_is_err_and}
use Rattle.bytecode.proofs.BlockLaws.{fit_both}
use Rattle.bytecode.proofs.RelocationLaws.{too_large, relocate_ok, relocate_fails}
use Rattle.bytecode.proofs.relocation.relocate.Goals as goal

pub returns-in_default : goal.returns-in_default
returns-in_default c = rw c.code_too_large.ensures (too_large c.args.blocks.now c.args.handlers.now c.args.first c.args.stub.now c.in_default.ensures)

pub returns-in_err-code : goal.returns-in_err-code
returns-in_err-code c =
    let fit = fit_both c.args.blocks.now c.args.stub.now c.in-Some.end c.in-Some.ensures in
    let p = err_from_is_err_and c.from_residual-in_err-code.result c.from_residual-in_err-code.ensures.1 in
    rw (p.1, p.2) (relocate_fails c.args.blocks.now c.args.handlers.now c.args.first c.args.stub.now c.in_ok-places.places c.in_ok-places.ensures c.requires.last_leads_nowhere fit.1 c.in_err-code.field-0.0 c.in_err-code.ensures)

pub returns : goal.returns
returns c =
    let fit = fit_both c.args.blocks.now c.args.stub.now c.in-Some.end c.in-Some.ensures in
    relocate_ok c.args.blocks.now c.args.handlers.now c.args.first c.args.stub.now c.in_ok-places.places c.in_ok-places.ensures c.requires.last_leads_nowhere fit.1 c.in_ok-code.code c.in_ok-handlers.handlers.items c.in_ok-code.ensures c.in_ok-handlers.ensures
