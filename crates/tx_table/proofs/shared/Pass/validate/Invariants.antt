use Rattle.tx_table.proofs.shared.Pass.validate.Given as goal

abbrev pub ghosts-validate_as : goal.ghosts-validate_as
ghosts-validate_as g a = record { address = a.a; last = g.last }
