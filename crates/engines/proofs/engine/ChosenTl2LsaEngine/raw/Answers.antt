use Rattle.engines.proofs.engine.ChosenTl2LsaEngine.raw.Goals as goal

pub returns-in-Tl2-clause-run : goal.returns-in-Tl2-clause-run
returns-in-Tl2-clause-run g c = rw c.in-Tl2.is c.raw.ensures.run

pub returns-in-Tl2-clause-awaits : goal.returns-in-Tl2-clause-awaits
returns-in-Tl2-clause-awaits g c = rw c.in-Tl2.is c.raw.ensures.awaits

pub returns-in-Lsa-clause-awaits : goal.returns-in-Lsa-clause-awaits
returns-in-Lsa-clause-awaits g c = rw c.in-Lsa.is c.raw-in-Lsa.ensures.awaits
