use Rattle.tl2.proofs.reading.begin_at.Given as goal

abbrev pub ghost-begin : goal.ghost-begin
ghost-begin g a = g.told
