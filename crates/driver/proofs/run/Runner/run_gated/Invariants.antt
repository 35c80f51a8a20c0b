use Rattle.session.specs.Rule.{IsRuled}
use Rattle.driver.proofs.run.Runner.run_gated.Given as goal

abbrev pub ghosts-run_over : goal.ghosts-run_over
ghosts-run_over g a = record { words = a.memory.words.items; used = a.memory.used; rule = IsRuled a.self.now.original.now a.self.now.rewritten.now a.self.now.limits.size a.self.now.limits.budget a.self.now.limits.attempts }
