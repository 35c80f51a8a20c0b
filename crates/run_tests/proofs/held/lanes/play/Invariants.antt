use Rattle.session.specs.Rule.{IsRuled}
use Rattle.run_tests.proofs.held.lanes.play.Given as goal

abbrev pub ghosts-play_over : goal.ghosts-play_over
ghosts-play_over g a = record {
  words = a.memory.words.items;
  used = a.memory.used;
  rule = IsRuled a.runner.original.now a.runner.rewritten.now a.runner.limits.size a.runner.limits.budget a.runner.limits.attempts;
}
