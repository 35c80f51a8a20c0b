use Rattle.std.proofs.Common.{◌≡◌, ◌≤◌, ◌<◌, length, ◌-◌}
use Rattle.objects.specs.semantics.Program.{Program}
use Rattle.machine.specs.Meets.{HasOps, with_int}
use Rattle.machine.specs.Running.{Reaches}
use Rattle.machine.proofs.frame.Frame.straight_over.Given as goal

abbrev pub invariant-loop-x : goal.invariant-loop-x
invariant-loop-x l = record {
  method : l.self.method ≡ l.initial.self.method;
  onward : l.initial.self.pc ≤ l.self.pc;
  within : l.self.pc < length l.ops;
  reaches : (P : Program) → HasOps P l.initial.self.method l.ops → Reaches P (with_int l.held l.initial.self) (with_int l.top l.self);
}

abbrev pub decreases-loop-x : goal.decreases-loop-x
decreases-loop-x l = length l.ops - l.self.pc
