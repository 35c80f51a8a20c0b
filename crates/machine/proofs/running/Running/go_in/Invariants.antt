use Rattle.std.proofs.Common.{◌≡◌, ◌<◌, [], Some, length}
use Rattle.objects.specs.semantics.Program.{Program, method_at}
use Rattle.objects.specs.rewriting.Attempt.{Log, Bounds}
use Rattle.machine.specs.Running.{at, Way}
use Rattle.machine.proofs.running.Running.go_in.Given as goal

abbrev pub invariant-loop : goal.invariant-loop
invariant-loop l = record {
  method : l.frame.method ≡ l.initial.frame.method;
  stage : l.self.stage ≡ l.initial.self.stage;
  tried : l.self.tried ≡ l.initial.self.tried;
  within : l.frame.pc < length l.method.ops;
  comes : (P : Program) → method_at P l.initial.frame.method ≡ Some l.method
      → (B : Bounds) (w r : Log) → Way P B (at (record l.initial.self { frame = l.initial.frame }) w r) [] (at (record l.self { frame = l.frame }) w r);
}
