use Rattle.std.proofs.Common.{◌≡◌, drop}
use Rattle.jmodel.specs.format.PoolReading.{all_fit}
use Rattle.const_pool.proofs.references.all_fit.Given as goal

abbrev pub invariant-loop-entry : goal.invariant-loop-entry
invariant-loop-entry l = all_fit l.pool (drop l.entry-index l.entry-items) ≡ all_fit l.pool l.pool
