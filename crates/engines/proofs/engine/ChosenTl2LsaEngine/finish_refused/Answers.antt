use Rattle.engines.proofs.engine.ChosenTl2LsaEngine.finish_refused.Goals as goal

pub returns-in-Tl2-clause-run : goal.returns-in-Tl2-clause-run
returns-in-Tl2-clause-run g c = rw c.in-Tl2.is c.finish_refused.ensures.run
