use Rattle.std.proofs.Common.{◌≡◌, ℕ, ◌+◌, List}
use Rattle.jmodel.specs.history.History.{Call, Entry}
use Rattle.objects.specs.rewriting.Attempt.{Log, Run}
use Rattle.objects.specs.rewriting.Events.{Grows}
use Rattle.machine.specs.declared.running.Stage.TheVariants.{Open}
use Rattle.machine.specs.Machine.{bounds_of}
use Rattle.machine.specs.Meets.{CanAsk}
use Rattle.machine.specs.Running.{Saw, Holds, IsWithin, Waits, Following}
use Rattle.machine.proofs.running.Running.follow.Given as goal

abbrev pub invariant-loop : goal.invariant-loop
invariant-loop g l = record {
  can : CanAsk l.asking l.self.frame;
  same : (l.self.stage ≡ l.initial.self.stage) × (l.self.tried ≡ l.initial.self.tried);
  begun : l.self.stage ≡ Open → g.E.Engine.is_open l.engine;
  awaits : (c : Call) (used : ℕ) → g.E.Engine.awaits l.initial.engine c used → g.E.Engine.awaits l.engine c used;
  attempts : (k : ℕ) → g.E.Engine.attempts l.initial.engine (k + l.initial.self.tried) → g.E.Engine.attempts l.engine (k + l.self.tried);
  ticks : (t : ℕ) → IsWithin t l.limits.attempts (g.E.Engine.clock l.initial.engine) l.initial.self.stage l.initial.self.tried → IsWithin t l.limits.attempts (g.E.Engine.clock l.engine) l.self.stage l.self.tried;
  run : (h : List Entry) (n : ℕ) (r w : Log) (k : Call) (used : ℕ) → g.E.Engine.awaits l.initial.engine k used
      → Holds (g.E.Engine.stands l.initial.engine h) (Saw g.E.Engine.is_shared g.E.Engine.begins g.E.Engine.allows h k used) n l.initial.self.stage l.initial.self.tried r w
      → (c : Run) → Waits l.program (bounds_of l.limits) l.initial.asking l.initial.self w r c
      → Following l.program (bounds_of l.limits) (Grows (g.G.Gate.told l.initial.gate) (g.G.Gate.told l.gate)) (Holds (g.E.Engine.stands l.engine h) (Saw g.E.Engine.is_shared g.E.Engine.begins g.E.Engine.allows h k used) n l.self.stage l.self.tried) c l.asking l.self;
}
