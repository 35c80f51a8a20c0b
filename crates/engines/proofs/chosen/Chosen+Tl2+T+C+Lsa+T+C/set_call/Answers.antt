use Rattle.engines.proofs.chosen.Chosen+Tl2+T+C+Lsa+T+C.set_call.Goals as goal

pub returns-in-Tl2-clause-stands : goal.returns-in-Tl2-clause-stands
returns-in-Tl2-clause-stands g c = rw c.in-Tl2.is c.set_call.ensures.stands
