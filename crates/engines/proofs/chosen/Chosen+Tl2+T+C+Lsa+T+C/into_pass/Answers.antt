use Rattle.engines.proofs.chosen.Chosen+Tl2+T+C+Lsa+T+C.into_pass.Goals as goal

pub returns-in-Lsa-clause-keeps : goal.returns-in-Lsa-clause-keeps
returns-in-Lsa-clause-keeps g c = rw c.in-Lsa.is c.into_pass-in-Lsa.ensures.keeps
