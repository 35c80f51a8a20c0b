use Rattle.type_lists.proofs.tree.+set_in_run.Given as goal

abbrev pub decreases-set_in_run : goal.decreases-set_in_run
decreases-set_in_run l = l.len
