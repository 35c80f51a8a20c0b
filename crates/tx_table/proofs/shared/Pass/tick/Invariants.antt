use Rattle.tx_table.proofs.shared.Pass.tick.Given as goal

abbrev pub ghosts-tick_as : goal.ghosts-tick_as
ghosts-tick_as g a = record { due = g.due }
