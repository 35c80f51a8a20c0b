use Rattle.tx_table.proofs.shared.Pass.extend.Given as goal

abbrev pub ghosts-extend_as : goal.ghosts-extend_as
ghosts-extend_as g a = record { whole = g.whole }
