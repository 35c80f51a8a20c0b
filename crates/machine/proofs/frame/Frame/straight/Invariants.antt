use Rattle.std.proofs.Common.{◌≡◌, ◌<◌, length, ◌-◌}
use Rattle.objects.specs.semantics.Program.{Program}
use Rattle.machine.specs.Meets.{HasOps}
use Rattle.machine.specs.Running.{Reaches}
use Rattle.machine.proofs.frame.Frame.straight.Given as goal

abbrev pub invariant-loop-self : goal.invariant-loop-self
invariant-loop-self l = record {
  method : l.self.method ≡ l.initial.self.method;
  within : l.self.pc < length l.ops;
  reaches : (P : Program) → HasOps P l.initial.self.method l.ops → Reaches P l.initial.self l.self;
}

abbrev pub decreases-loop-self : goal.decreases-loop-self
decreases-loop-self l = length l.ops - l.self.pc
