use Rattle.std.proofs.lemmas.Result.{err_from_is_err_and}
use Rattle.jmodel.specs.format.PoolReading.{all_fit}
use Rattle.const_pool.proofs.Uses.{fits_on, fits_not, fits_all}
use Rattle.const_pool.proofs.references.all_fit.Goals as goal

pub returns-in_err-constant_fits : goal.returns-in_err-constant_fits
returns-in_err-constant_fits c =
    let pool = c.args.pool.now in
    let p = err_from_is_err_and c.from_residual-in_err-constant_fits.result c.from_residual-in_err-constant_fits.ensures.1 in
    rw (p.1, p.2) (fits_not pool c.entries-entry-items.result.now c.loop-entry.entry-index c.entry-item.result (all_fit pool pool) c.loop-entry-test.true c.entry-item.is c.loop-entry.invariant c.in_err-constant_fits.field-0.0 c.in_err-constant_fits.ensures)

pub loop-entry-preserved : goal.loop-entry-preserved
loop-entry-preserved c =
    let pool = c.args.pool.now in
    fits_on pool c.entries-entry-items.result.now c.loop-entry.entry-index c.entry-item.result (all_fit pool pool) c.loop-entry-test.true c.entry-item.is c.loop-entry.invariant c.in_ok-constant_fits.field-0 c.in_ok-constant_fits.ensures

pub returns : goal.returns
returns c =
    let pool = c.args.pool.now in
    fits_all pool c.entries-entry-items.result.now c.loop-entry.entry-index (all_fit pool pool) c.loop-entry-test.false c.loop-entry.invariant
