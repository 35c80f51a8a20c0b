use Rattle.tx_table.specs.Rule.{Snapshot}
use Rattle.tx_table.proofs.shared.Pass.begin.Given as goal

abbrev pub ghosts-begin_as : goal.ghosts-begin_as
ghosts-begin_as g a = record { call = g.call; says = Snapshot (g.T.Story.story a.s.now.table.shared.key.story.value) }
