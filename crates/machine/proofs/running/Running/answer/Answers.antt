use Rattle.std.proofs.Common.{[], refl}
use Rattle.objects.specs.rewriting.Attempt.{Gives}
use Rattle.machine.specs.Machine.{bounds_of}
use Rattle.machine.specs.Running.{phase_of, frames, meter}
use Rattle.machine.proofs.Ways.{grows_same}
use Rattle.machine.proofs.Turning.{turn_of, lands_as, turned_entered, answer_early}
use Rattle.machine.proofs.running.Running.answer.Goals as goal

pub returns-in-Go-clause-run : goal.returns-in-Go-clause-run
returns-in-Go-clause-run g c = λ h n r w k used a s. rw c.in-Go.is (r, w, s, (Gives 0, refl, ([], refl, tt, grows_same (g.G.Gate.told c.args.gate.now))))

pub returns-in-Turn-clause-run : goal.returns-in-Turn-clause-run
returns-in-Turn-clause-run g c = λ h n r w k used a s.
    rw c.in-Turn.is (turn_of (bounds_of c.args.limits) _ _ _ _ _ _ r w (Gives 0) (rw (c.count.ensures.stage, c.count.ensures.tried) s)
    (lands_as (bounds_of c.args.limits) _ _ c.count.new.self c.count.result r w (turned_entered (bounds_of c.args.limits) (phase_of c.args.self.now.stage) (frames c.args.self.now) (meter c.args.self.now) w r) (c.count.ensures.run (bounds_of c.args.limits) r w)) ([], refl, tt, grows_same (g.G.Gate.told c.args.gate.now)))

pub returns-in-Enter-clause-run : goal.returns-in-Enter-clause-run
returns-in-Enter-clause-run g c = λ h n r w k used a s.
    rw c.in-Enter.is (turn_of (bounds_of c.args.limits) _ _ _ _ _ _ r w (Gives 0) (rw (c.count-in-Enter.ensures.stage, c.count-in-Enter.ensures.tried) s) (c.count-in-Enter.ensures.run (bounds_of c.args.limits) r w) ([], refl, tt, grows_same (g.G.Gate.told c.args.gate.now)))

pub returns-in-Raise : goal.returns-in-Raise
returns-in-Raise g c = record {
  run = λ h n r w k used a s. rw c.in-Raise.is (c.raise.ensures.run h n r w k used a s (bounds_of c.args.limits));
  moves = c.raise.ensures.moves;
  attempts = c.raise.ensures.attempts;
  ticks = λ t i. c.raise.ensures.ticks t c.args.limits.attempts i;
  «open» = λ q. absurd (c.raise.ensures.no_commit q);
  next = λ q. absurd (c.raise.ensures.no_commit q);
  spent = λ q. absurd (c.raise.ensures.not_spent q);
  begun = c.raise.ensures.begun;
  awaits = c.raise.ensures.awaits;
  refuse = c.raise.ensures.refuse;
}

pub returns-in-Make : goal.returns-in-Make
returns-in-Make g c = record {
  run = λ h n r w k used a s. rw c.in-Make.is (c.take.ensures.run h n r w k used a s);
  moves = c.take.ensures.moves;
  attempts = c.take.ensures.attempts;
  ticks = λ t i. c.take.ensures.ticks t c.args.limits.attempts i;
  «open» = λ q. absurd (c.take.ensures.no_commit q);
  next = λ q. absurd (c.take.ensures.no_commit q);
  spent = λ q. absurd (c.take.ensures.not_spent q);
  begun = c.take.ensures.begun;
  awaits = c.take.ensures.awaits;
  refuse = c.take.ensures.refuse;
}

pub returns-in-Ask : goal.returns-in-Ask
returns-in-Ask g c = record {
  run = λ h n r w k used a s. rw c.in-Ask.is (c.serve.ensures.run h n r w k used a s);
  moves = c.serve.ensures.moves;
  attempts = c.serve.ensures.attempts;
  ticks = c.serve.ensures.ticks;
  «open» = c.serve.ensures.«open»;
  next = c.serve.ensures.next;
  spent = c.serve.ensures.spent;
  begun = c.serve.ensures.begun;
  awaits = c.serve.ensures.awaits;
  refuse = c.serve.ensures.refuse;
}

pub returns-in-Return-clause-run : goal.returns-in-Return-clause-run
returns-in-Return-clause-run g c = λ h n r w k used a s.
    answer_early c.args.program.now (bounds_of c.args.limits) c.args.self.now c.args.asking w r _ _ c.in-Return.is c.requires.other (grows_same (g.G.Gate.told c.args.gate.now)) s
