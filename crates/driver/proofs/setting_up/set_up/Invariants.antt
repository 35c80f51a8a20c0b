use Rattle.std.proofs.Common.{◌≡◌, length, take}
use Rattle.driver.specs.SetUp.{OpensTo}
use Rattle.driver.proofs.setting_up.set_up.Given as goal

-- the initialisers so far returned
abbrev pub invariant-loop-number : goal.invariant-loop-number
invariant-loop-number l = record {
  opens : OpensTo l.original l.limits.size l.limits.budget l.fn.memory (take l.number-index l.initialisers) l.memory;
  size : length l.memory.words.items ≡ length l.fn.memory.words.items;
}
