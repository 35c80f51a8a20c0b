use Rattle.machine.proofs.running.Running.settle_made.Goals as goal

pub returns-in-Pushed-clause-run : goal.returns-in-Pushed-clause-run
returns-in-Pushed-clause-run c = λ B w r. rw c.in-Pushed.is (rw c.requires.stage at (c.resume.ensures.run B r w))

pub returns-in-Raised-clause-run : goal.returns-in-Raised-clause-run
returns-in-Raised-clause-run c = λ B w r. rw c.in-Raised.is (c.throw.ensures.run B w r)
