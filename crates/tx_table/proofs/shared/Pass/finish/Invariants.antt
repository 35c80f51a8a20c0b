use Rattle.tx_table.proofs.shared.Pass.finish.Given as goal

abbrev pub ghosts-finish_as : goal.ghosts-finish_as
ghosts-finish_as g a = record { entry = g.entry }
