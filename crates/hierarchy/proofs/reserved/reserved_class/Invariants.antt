use Rattle.std.proofs.Common.{◌≡◌, drop}
use Rattle.objects.specs.linking.Faults.{first_fault}
use Rattle.objects.specs.linking.ClassesFaults.{reserved_fault}
use Rattle.hierarchy.proofs.reserved.reserved_class.Given as goal

-- the files before have no fault
abbrev pub invariant-loop-file : goal.invariant-loop-file
invariant-loop-file l = first_fault reserved_fault (drop l.file-index l.files) ≡ first_fault reserved_fault l.files
