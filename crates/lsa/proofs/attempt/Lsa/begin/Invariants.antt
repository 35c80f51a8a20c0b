use Rattle.lsa.proofs.attempt.Lsa.begin.Given as goal

abbrev pub ghost-begin_at : goal.ghost-begin_at
ghost-begin_at g a = g.C.Calling.call a._call.now.value
