use Rattle.engines.proofs.engine.ChosenTl2LsaEngine.on_write.Goals as goal

pub returns-in-Tl2-clause-awaits : goal.returns-in-Tl2-clause-awaits
returns-in-Tl2-clause-awaits g c = rw c.in-Tl2.is c.on_write.ensures.awaits

pub returns-in-Lsa-clause-awaits : goal.returns-in-Lsa-clause-awaits
returns-in-Lsa-clause-awaits g c = rw c.in-Lsa.is c.on_write-in-Lsa.ensures.awaits
