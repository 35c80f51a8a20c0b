use Rattle.part_tests.proofs.attempts.transfers.split_lane.Given as goal

abbrev pub ghost-split : goal.ghost-split
ghost-split g a = g.given
