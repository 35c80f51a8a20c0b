use Rattle.tx_table.proofs.shared.Pass.split.Given as goal

abbrev pub ghosts-split_as : goal.ghosts-split_as
ghosts-split_as g a = record { given = g.given }
