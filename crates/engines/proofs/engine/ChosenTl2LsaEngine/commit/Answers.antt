use Rattle.engines.proofs.engine.ChosenTl2LsaEngine.commit.Goals as goal

pub returns-in-Tl2-clause-run : goal.returns-in-Tl2-clause-run
returns-in-Tl2-clause-run g c = rw c.in-Tl2.is c.commit.ensures.run

pub returns-in-Lsa-clause-run : goal.returns-in-Lsa-clause-run
returns-in-Lsa-clause-run g c = rw c.in-Lsa.is c.commit-in-Lsa.ensures.run
