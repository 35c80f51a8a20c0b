use Rattle.session.specs.Rule.{IsRuled}
use Rattle.driver.specs.Memory.{used_at_first}
use Rattle.driver.proofs.setting_up.call_alone.Given as goal

abbrev pub ghosts-call_over : goal.ghosts-call_over
ghosts-call_over a = record { first = a.memory.words.items; opened = used_at_first a.memory.used; rule = IsRuled a.original.now a.rewritten.now a.limits.size a.limits.budget a.limits.attempts }
