use Rattle.std.proofs.Common.{◌≡◌, drop}
use Rattle.objects.specs.linking.Faults.{first_fault}
use Rattle.objects.specs.linking.ClassesFaults.{circle_fault}
use Rattle.resolution.proofs.circles.first_circle_fault.Given as goal

-- the classes before have no fault
abbrev pub invariant-loop-place : goal.invariant-loop-place
invariant-loop-place l = first_fault (circle_fault l.ways) (drop l.place l.ways) ≡ first_fault (circle_fault l.ways) l.ways
