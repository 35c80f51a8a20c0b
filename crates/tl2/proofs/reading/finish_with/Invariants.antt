use Rattle.tl2.proofs.reading.finish_with.Given as goal

abbrev pub ghost-finish : goal.ghost-finish
ghost-finish g a = g.entry
