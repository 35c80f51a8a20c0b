use Rattle.lsa.proofs.extension.open_over.Given as goal

abbrev pub ghost-extend : goal.ghost-extend
ghost-extend g a = g.whole
