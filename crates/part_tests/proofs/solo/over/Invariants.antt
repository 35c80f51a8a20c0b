use Rattle.part_tests.proofs.solo.over.Given as goal

abbrev pub ghosts-new : goal.ghosts-new
ghosts-new a = record { first = a.words.items; opened = λ region. 0; rule = λ e. Unit {0} }
