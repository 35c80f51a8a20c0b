use Rattle.tx_table.specs.Rule.{Snapshot}
use Rattle.tx_table.proofs.shared.Pass.recheck.Given as goal

abbrev pub ghosts-recheck_as : goal.ghosts-recheck_as
ghosts-recheck_as g a = record { says = Snapshot (g.T.Story.story a.s.now.table.shared.key.story.value) }
