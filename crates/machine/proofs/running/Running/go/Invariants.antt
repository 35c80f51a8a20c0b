use Rattle.std.proofs.Common.{◌≡◌, []}
use Rattle.objects.specs.rewriting.Attempt.{Log, Bounds}
use Rattle.machine.specs.Running.{at, Way}
use Rattle.machine.proofs.running.Running.go.Given as goal

abbrev pub invariant-loop : goal.invariant-loop
invariant-loop l = record {
  method : l.self.frame.method ≡ l.initial.self.frame.method;
  stage : l.self.stage ≡ l.initial.self.stage;
  tried : l.self.tried ≡ l.initial.self.tried;
  comes : (B : Bounds) (w r : Log) → Way l.program B (at l.initial.self w r) [] (at l.self w r);
}
