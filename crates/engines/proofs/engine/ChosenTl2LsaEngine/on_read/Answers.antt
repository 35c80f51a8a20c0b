use Rattle.engines.proofs.engine.ChosenTl2LsaEngine.on_read.Goals as goal

pub returns-in-Tl2-clause-awaits : goal.returns-in-Tl2-clause-awaits
returns-in-Tl2-clause-awaits g c = rw c.in-Tl2.is c.on_read.ensures.awaits

pub returns-in-Lsa-clause-awaits : goal.returns-in-Lsa-clause-awaits
returns-in-Lsa-clause-awaits g c = rw c.in-Lsa.is c.on_read-in-Lsa.ensures.awaits

pub returns-in-Tl2-clause-conflict : goal.returns-in-Tl2-clause-conflict
returns-in-Tl2-clause-conflict g c = λ e q. (c.on_read.ensures.seen e q).0

pub returns-in-Lsa-clause-conflict : goal.returns-in-Lsa-clause-conflict
returns-in-Lsa-clause-conflict g c = λ e q. (c.on_read-in-Lsa.ensures.seen e q).0
