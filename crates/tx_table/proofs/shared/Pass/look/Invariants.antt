use Rattle.tx_table.proofs.shared.Pass.look.Given as goal

abbrev pub ghosts-look_as : goal.ghosts-look_as
ghosts-look_as g a = record { address = a.a; newer = a.newer }
