use Rattle.std.proofs.Common.{◌≡◌, ◌++◌, map, take, drop}
use Rattle.driver.specs.Bags.{numbered, lists}
use Rattle.driver.proofs.taken.number.Given as goal

abbrev pub invariant-loop-record : goal.invariant-loop-record
invariant-loop-record l = l.record-items ≡ map (numbered (lists l.taken)) (take l.record-index l.fn.records) ++ drop l.record-index l.fn.records
