use Rattle.tx_table.proofs.shared.Pass.release_old.Given as goal

abbrev pub ghosts-release_old_as : goal.ghosts-release_old_as
ghosts-release_old_as g a = record { kept = g.kept }
