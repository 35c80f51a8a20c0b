use Rattle.tx_table.specs.Rule.{Snapshot}
use Rattle.tx_table.proofs.shared.Pass.load_own.Given as goal

abbrev pub ghosts-load_own_as : goal.ghosts-load_own_as
ghosts-load_own_as g a = record { says = Snapshot (g.T.Story.story a.s.now.table.shared.key.story.value) }
