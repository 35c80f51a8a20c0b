use Rattle.std.proofs.Common.{◌≡◌, ◌≤◌, ◌<◌, length, ◌-◌}
use Rattle.objects.specs.semantics.Program.{Program}
use Rattle.machine.specs.Meets.{HasOps, with_int}
use Rattle.machine.specs.Running.{Reaches}
use Rattle.machine.proofs.frame.Frame.straight_over_two.Given as goal

abbrev pub invariant-loop-z : goal.invariant-loop-z
invariant-loop-z l = record {
  method : l.self.method ≡ l.initial.self.method;
  onward : l.initial.self.pc ≤ l.self.pc;
  within : l.self.pc < length l.ops;
  reaches : (P : Program) → HasOps P l.initial.self.method l.ops → Reaches P (with_int l.upper (with_int l.lower l.initial.self)) (with_int l.y (with_int l.x l.self));
}

abbrev pub decreases-loop-z : goal.decreases-loop-z
decreases-loop-z l = length l.ops - l.self.pc
