use Rattle.std.proofs.Common.{◌≡◌, ℕ, ◌+◌, List, []}
use Rattle.jmodel.specs.history.History.{Call, Entry}
use Rattle.objects.specs.rewriting.Events.{Grows}
use Rattle.machine.specs.declared.running.Stage.TheVariants.{Open}
use Rattle.machine.specs.Machine.{bounds_of}
use Rattle.machine.specs.Running.{at, IsWithin, Saw, OnWay}
use Rattle.machine.proofs.running.Running.run.Given as goal

abbrev pub invariant-loop : goal.invariant-loop
invariant-loop g l =
    IsWithin (g.E.Engine.clock l.initial.tx) l.limits.attempts (g.E.Engine.clock l.tx) l.self.stage l.self.tried
    × (l.self.stage ≡ Open → g.E.Engine.is_open l.tx)
    × ((c : Call) (used : ℕ) → g.E.Engine.awaits l.initial.tx c used → g.E.Engine.awaits l.tx c used)
    × ((h : List Entry) (n : ℕ) (k : Call) → g.E.Engine.stands l.initial.tx h n [] [] → g.E.Engine.awaits l.initial.tx k l.limits.room.used
    → OnWay l.program (bounds_of l.limits) (at l.initial.self [] []) (Grows (g.G.Gate.told l.initial.gate) (g.G.Gate.told l.gate)) (g.E.Engine.stands l.tx h) (Saw g.E.Engine.is_shared g.E.Engine.begins g.E.Engine.allows h k l.limits.room.used) n l.self)
    × ((k : ℕ) → g.E.Engine.attempts l.initial.tx k → g.E.Engine.attempts l.tx (k + l.self.tried))
