use Rattle.std.proofs.Common.{◌≡◌, drop}
use Rattle.verifier.specs.Rules.{are_taken}
use Rattle.verifier.proofs.led.are_taken.Given as goal

abbrev pub invariant-loop-place : goal.invariant-loop-place
invariant-loop-place l = are_taken l.program l.wants l.stack ≡ are_taken l.program (drop l.place l.wants) (drop l.place l.stack)
