use Rattle.machine.proofs.told.stored.Goals as goal

pub returns-in-Load-clause-step : goal.returns-in-Load-clause-step
returns-in-Load-clause-step c = λ fs. rw c.in-Load.is (c.accesses.ensures.step fs)

pub returns-in-Look-clause-step : goal.returns-in-Look-clause-step
returns-in-Look-clause-step c = λ fs. rw c.in-Look.is (c.accesses-in-Look.ensures.step fs)
