use Rattle.tx_table.proofs.shared.Pass.decide.Given as goal

abbrev pub ghosts-decide_as : goal.ghosts-decide_as
ghosts-decide_as g a = record { entry = g.entry }
