use Rattle.engines.proofs.engine.ChosenTl2LsaEngine.rollback.Goals as goal

pub returns-in-Tl2-clause-run : goal.returns-in-Tl2-clause-run
returns-in-Tl2-clause-run g c = rw c.in-Tl2.is c.rollback.ensures.run

pub returns-in-Tl2-clause-awaits : goal.returns-in-Tl2-clause-awaits
returns-in-Tl2-clause-awaits g c = rw c.in-Tl2.is c.rollback.ensures.awaits

pub returns-in-Lsa-clause-awaits : goal.returns-in-Lsa-clause-awaits
returns-in-Lsa-clause-awaits g c = rw c.in-Lsa.is c.rollback-in-Lsa.ensures.awaits
