use Rattle.tx_table.proofs.shared.Pass.take.Given as goal

abbrev pub ghosts-take_as : goal.ghosts-take_as
ghosts-take_as g a = record { address = a.a }
