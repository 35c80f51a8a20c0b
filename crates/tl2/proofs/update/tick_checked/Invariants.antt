use Rattle.tl2.proofs.update.tick_checked.Given as goal

abbrev pub ghost-tick : goal.ghost-tick
ghost-tick g a = g.due
