use Rattle.std.proofs.Common.{[], refl, sym, rules, w32}
use mir.Val.{SFits}
use Rattle.std.proofs.lemmas.Int.{to_z-of_z}
use Rattle.objects.specs.rewriting.Attempt.{Gives}
use Rattle.machine.specs.Machine.{bounds_of}
use Rattle.objects.specs.rewriting.Events.{Grows}
use Rattle.machine.specs.Running.{Holds, Saw}
use Rattle.machine.proofs.Moving.{goes_uncommitted, goes_unrefused, goes_unspent, if_ok_any, moves_if}
use Rattle.machine.proofs.Ways.{grows_same}
use Rattle.machine.proofs.Turning.{IsUnserved, turn_of, unserved_turn}
use Rattle.machine.proofs.running.Running.serve.Goals as goal

pub returns-in-Begin-Ready : goal.returns-in-Begin-Ready
returns-in-Begin-Ready g c = record {
  run = λ h n r w k used a s.
      let f : SFits w32 c.in-Begin-Ready.retries = search rules in
      rw (c.in-Begin-Ready.is-0, c.in-Begin-Ready.is-1) (simp to_z-of_z at (c.begin.ensures.run h n r w k used a (rw c.in-Begin-Ready.is-1 at s) c.args.program.now));
  moves = moves_if c.begin.result _ _ _ _ _ _ (sym c.in-Begin-Ready.is-1) refl c.begin.ensures.moves;
  attempts = c.begin.ensures.attempts;
  ticks = c.begin.ensures.ticks;
  «open» = λ e. absurd (c.begin.ensures.no_commit e);
  next = λ e. absurd (c.begin.ensures.no_commit e);
  spent = c.begin.ensures.spent;
  begun = c.begin.ensures.«open»;
  awaits = c.begin.ensures.awaits;
  refuse = c.begin.ensures.refuse;
}

pub returns-in-Get-Open : goal.returns-in-Get-Open
returns-in-Get-Open g c = record {
  run = λ h n r w k used a s.
      rw (c.in-Get-Open.is-0, c.in-Get-Open.is-1) (turn_of (bounds_of c.args.limits) _ _ _ _ _ _ r w (Gives 0)
      (rw (c.resume.ensures.stage, c.resume.ensures.tried) s)
      (rw c.in-Get-Open.is-1 at (c.resume.ensures.run (bounds_of c.args.limits) r w)) ([], refl, tt, grows_same (g.G.Gate.told c.args.gate.now)));
  moves = if_ok_any c.resume.result _ (rw (c.resume.ensures.stage, c.in-Get-Open.is-1) c.resume.ensures.tried);
  attempts = λ k a. rw c.resume.ensures.tried a;
  ticks = λ t i. rw (c.resume.ensures.stage, c.resume.ensures.tried) i;
  «open» = λ e. absurd (goes_uncommitted c.resume.result c.resume.ensures.go e);
  next = λ e. absurd (goes_uncommitted c.resume.result c.resume.ensures.go e);
  spent = λ e. absurd (goes_unspent c.resume.result c.resume.ensures.go e);
  begun = if_ok_any c.resume.result _ (λ e. c.requires.begun (rw c.resume.ensures.stage at e));
  awaits = λ k used a. a;
  refuse = λ l e. absurd (goes_unrefused c.resume.result l c.resume.ensures.go e);
}

pub returns-in-Look-Open : goal.returns-in-Look-Open
returns-in-Look-Open g c = record {
  run = λ h n r w k used a s.
      rw (c.in-Look-Open.is-0, c.in-Look-Open.is-1) (c.look.ensures.run h n r w k used a (rw c.in-Look-Open.is-1 at s) (bounds_of c.args.limits));
  moves = moves_if c.look.result _ _ _ _ _ _ (sym c.in-Look-Open.is-1) refl c.look.ensures.moves;
  attempts = c.look.ensures.attempts;
  ticks = λ t i. c.look.ensures.ticks t c.args.limits.attempts i;
  «open» = λ e. absurd (goes_uncommitted c.look.result c.look.ensures.go e);
  next = λ e. absurd (goes_uncommitted c.look.result c.look.ensures.go e);
  spent = λ e. absurd (goes_unspent c.look.result c.look.ensures.go e);
  begun = c.look.ensures.«open»;
  awaits = c.look.ensures.awaits;
  refuse = λ l e. absurd (goes_unrefused c.look.result l c.look.ensures.go e);
}

pub returns-in-Read-Open : goal.returns-in-Read-Open
returns-in-Read-Open g c = record {
  run = λ h n r w k used a s.
      rw (c.in-Read-Open.is-0, c.in-Read-Open.is-1) (c.read.ensures.run h n r w k used a (rw c.in-Read-Open.is-1 at s) (bounds_of c.args.limits));
  moves = moves_if c.read.result _ _ _ _ _ _ (sym c.in-Read-Open.is-1) refl c.read.ensures.moves;
  attempts = c.read.ensures.attempts;
  ticks = λ t i. c.read.ensures.ticks t c.args.limits.attempts i;
  «open» = λ e. absurd (goes_uncommitted c.read.result c.read.ensures.go e);
  next = λ e. absurd (goes_uncommitted c.read.result c.read.ensures.go e);
  spent = λ e. absurd (goes_unspent c.read.result c.read.ensures.go e);
  begun = c.read.ensures.«open»;
  awaits = c.read.ensures.awaits;
  refuse = λ l e. absurd (goes_unrefused c.read.result l c.read.ensures.go e);
}

pub returns-in-Write-Open : goal.returns-in-Write-Open
returns-in-Write-Open g c = record {
  run = λ h n r w k used a s.
      rw (c.in-Write-Open.is-0, c.in-Write-Open.is-1) (c.write.ensures.run h n r w k used a (rw c.in-Write-Open.is-1 at s) (bounds_of c.args.limits));
  moves = moves_if c.write.result _ _ _ _ _ _ (sym c.in-Write-Open.is-1) refl c.write.ensures.moves;
  attempts = c.write.ensures.attempts;
  ticks = λ t i. c.write.ensures.ticks t c.args.limits.attempts i;
  «open» = λ e. absurd (goes_uncommitted c.write.result c.write.ensures.go e);
  next = λ e. absurd (goes_uncommitted c.write.result c.write.ensures.go e);
  spent = λ e. absurd (goes_unspent c.write.result c.write.ensures.go e);
  begun = c.write.ensures.«open»;
  awaits = c.write.ensures.awaits;
  refuse = λ l e. absurd (goes_unrefused c.write.result l c.write.ensures.go e);
}

pub returns-in-Rollback-Doomed : goal.returns-in-Rollback-Doomed
returns-in-Rollback-Doomed g c = record {
  run = λ h n r w k used a s.
      rw (c.in-Rollback-Doomed.is-0, c.in-Rollback-Doomed.is-1) (c.rollback.ensures.run h n r w k used a (rw c.in-Rollback-Doomed.is-1 at s) c.args.program.now (g.G.Gate.told c.args.gate.now));
  moves = moves_if c.rollback.result _ _ _ _ _ _ (sym c.in-Rollback-Doomed.is-1) refl c.rollback.ensures.moves;
  attempts = c.rollback.ensures.attempts;
  ticks = λ t i. c.rollback.ensures.ticks t c.args.limits.attempts i;
  «open» = λ e. absurd (goes_uncommitted c.rollback.result c.rollback.ensures.go e);
  next = λ e. absurd (goes_uncommitted c.rollback.result c.rollback.ensures.go e);
  spent = λ e. absurd (goes_unspent c.rollback.result c.rollback.ensures.go e);
  begun = c.rollback.ensures.«open»;
  awaits = c.rollback.ensures.awaits;
  refuse = λ l e. absurd (goes_unrefused c.rollback.result l c.rollback.ensures.go e);
}

pub returns-in_default-clause-run : goal.returns-in_default-clause-run
returns-in_default-clause-run g c = λ h n r w k used a s.
    let out : IsUnserved c.args.request c.args.self.now.stage = rw c.in_default.is-0 c.in_default.not-Ready-1 in
    unserved_turn c.args.program.now (bounds_of c.args.limits) c.args.request c.args.self.now (Grows (g.G.Gate.told c.args.gate.now) (g.G.Gate.told c.args.gate.now)) (Holds (g.E.Engine.stands c.args.engine.now h) (Saw g.E.Engine.is_shared g.E.Engine.begins g.E.Engine.allows h k used) n c.args.self.now.stage c.args.self.now.tried) w r out (grows_same (g.G.Gate.told c.args.gate.now)) s

pub returns-in_default-2-clause-run : goal.returns-in_default-2-clause-run
returns-in_default-2-clause-run g c = λ h n r w k used a s.
    let out : IsUnserved c.args.request c.args.self.now.stage = rw c.in_default.is-0 c.in_default.not-Open-1 in
    unserved_turn c.args.program.now (bounds_of c.args.limits) c.args.request c.args.self.now (Grows (g.G.Gate.told c.args.gate.now) (g.G.Gate.told c.args.gate.now)) (Holds (g.E.Engine.stands c.args.engine.now h) (Saw g.E.Engine.is_shared g.E.Engine.begins g.E.Engine.allows h k used) n c.args.self.now.stage c.args.self.now.tried) w r out (grows_same (g.G.Gate.told c.args.gate.now)) s

pub returns-in_default-3-clause-run : goal.returns-in_default-3-clause-run
returns-in_default-3-clause-run g c = λ h n r w k used a s.
    let out : IsUnserved c.args.request c.args.self.now.stage = rw c.in_default.is-0 c.in_default.not-Open-1 in
    unserved_turn c.args.program.now (bounds_of c.args.limits) c.args.request c.args.self.now (Grows (g.G.Gate.told c.args.gate.now) (g.G.Gate.told c.args.gate.now)) (Holds (g.E.Engine.stands c.args.engine.now h) (Saw g.E.Engine.is_shared g.E.Engine.begins g.E.Engine.allows h k used) n c.args.self.now.stage c.args.self.now.tried) w r out (grows_same (g.G.Gate.told c.args.gate.now)) s

pub returns-in_default-4-clause-run : goal.returns-in_default-4-clause-run
returns-in_default-4-clause-run g c = λ h n r w k used a s.
    let out : IsUnserved c.args.request c.args.self.now.stage = rw c.in_default.is-0 c.in_default.not-Open-1 in
    unserved_turn c.args.program.now (bounds_of c.args.limits) c.args.request c.args.self.now (Grows (g.G.Gate.told c.args.gate.now) (g.G.Gate.told c.args.gate.now)) (Holds (g.E.Engine.stands c.args.engine.now h) (Saw g.E.Engine.is_shared g.E.Engine.begins g.E.Engine.allows h k used) n c.args.self.now.stage c.args.self.now.tried) w r out (grows_same (g.G.Gate.told c.args.gate.now)) s

pub returns-in_default-5-clause-run : goal.returns-in_default-5-clause-run
returns-in_default-5-clause-run g c = λ h n r w k used a s.
    let out : IsUnserved c.args.request c.args.self.now.stage = rw c.in_default.is-0 c.in_default.not-Open-1 in
    unserved_turn c.args.program.now (bounds_of c.args.limits) c.args.request c.args.self.now (Grows (g.G.Gate.told c.args.gate.now) (g.G.Gate.told c.args.gate.now)) (Holds (g.E.Engine.stands c.args.engine.now h) (Saw g.E.Engine.is_shared g.E.Engine.begins g.E.Engine.allows h k used) n c.args.self.now.stage c.args.self.now.tried) w r out (grows_same (g.G.Gate.told c.args.gate.now)) s

pub returns-in_default-6-clause-run : goal.returns-in_default-6-clause-run
returns-in_default-6-clause-run g c = λ h n r w k used a s.
    let out : IsUnserved c.args.request c.args.self.now.stage = rw c.in_default.is-0 c.in_default.not-Open-1 in
    unserved_turn c.args.program.now (bounds_of c.args.limits) c.args.request c.args.self.now (Grows (g.G.Gate.told c.args.gate.now) (g.G.Gate.told c.args.gate.now)) (Holds (g.E.Engine.stands c.args.engine.now h) (Saw g.E.Engine.is_shared g.E.Engine.begins g.E.Engine.allows h k used) n c.args.self.now.stage c.args.self.now.tried) w r out (grows_same (g.G.Gate.told c.args.gate.now)) s

pub returns-in_default-7-clause-run : goal.returns-in_default-7-clause-run
returns-in_default-7-clause-run g c = λ h n r w k used a s.
    let out : IsUnserved c.args.request c.args.self.now.stage = rw c.in_default.is-0 c.in_default.not-Doomed-1 in
    unserved_turn c.args.program.now (bounds_of c.args.limits) c.args.request c.args.self.now (Grows (g.G.Gate.told c.args.gate.now) (g.G.Gate.told c.args.gate.now)) (Holds (g.E.Engine.stands c.args.engine.now h) (Saw g.E.Engine.is_shared g.E.Engine.begins g.E.Engine.allows h k used) n c.args.self.now.stage c.args.self.now.tried) w r out (grows_same (g.G.Gate.told c.args.gate.now)) s

pub returns-in_default-8-clause-run : goal.returns-in_default-8-clause-run
returns-in_default-8-clause-run g c = λ h n r w k used a s.
    let out : IsUnserved c.args.request c.args.self.now.stage = rw c.in_default.is-0 tt in
    unserved_turn c.args.program.now (bounds_of c.args.limits) c.args.request c.args.self.now (Grows (g.G.Gate.told c.args.gate.now) (g.G.Gate.told c.args.gate.now)) (Holds (g.E.Engine.stands c.args.engine.now h) (Saw g.E.Engine.is_shared g.E.Engine.begins g.E.Engine.allows h k used) n c.args.self.now.stage c.args.self.now.tried) w r out (grows_same (g.G.Gate.told c.args.gate.now)) s
