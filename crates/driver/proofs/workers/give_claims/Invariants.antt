use Rattle.std.proofs.Common.{ℕ, ◌≡◌, length}
use Rattle.atomic_table.specs.Seated.{TableId}
use Rattle.driver.specs.Passing.{AreStarting}
use Rattle.driver.specs.Workers.{AreWorkers}
use Rattle.driver.proofs.Working.{Handed}
use Rattle.driver.proofs.workers.give_claims.Given as goal

abbrev pub invariant-loop-start : goal.invariant-loop-start
invariant-loop-start l = record {
  handed : Handed l.bag l.bag.length (length l.yielded) l.claims;
  len : length l.workers.items ≡ length l.yielded;
  workers : (t : TableId) (seen phase : ℕ) → AreStarting t seen phase l.fn.starts.items → AreWorkers t seen phase l.bag l.bag.length l.workers.items;
}
