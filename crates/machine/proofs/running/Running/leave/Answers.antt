use Rattle.machine.proofs.running.Running.leave.Goals as goal

pub returns-then-not-matches-clause-run : goal.returns-then-not-matches-clause-run
returns-then-not-matches-clause-run g c = λ h n s.
    record { conflicts = s.conflicts; later = s.later; stands = c.rollback.ensures.run h s.conflicts s.reads s.writes s.stands }
