use Rattle.lsa.proofs.engine.LsaEngine.on_read.Goals as goal

pub returns-clause-conflict : goal.returns-clause-conflict
returns-clause-conflict g c = λ e q. (c.on_read.ensures.seen e q).0
