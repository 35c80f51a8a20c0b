use Rattle.engines.proofs.engine.ChosenTl2LsaEngine.before_read.Goals as goal

pub returns-in-Tl2-clause-awaits : goal.returns-in-Tl2-clause-awaits
returns-in-Tl2-clause-awaits g c = rw c.in-Tl2.is c.before_read.ensures.awaits

pub returns-in-Lsa-clause-awaits : goal.returns-in-Lsa-clause-awaits
returns-in-Lsa-clause-awaits g c = rw c.in-Lsa.is c.before_read-in-Lsa.ensures.awaits
