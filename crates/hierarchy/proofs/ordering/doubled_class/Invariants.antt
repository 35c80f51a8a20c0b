use Rattle.std.proofs.Common.{◌≡◌, ◌++◌, map, drop}
use Rattle.objects.specs.linking.Library.{library}
use Rattle.objects.specs.linking.Classes.{doubled_among, doubled_class}
use Rattle.hierarchy.proofs.ordering.doubled_class.Given as goal

-- the names so far, and the files that are still to come
abbrev pub invariant-loop-file : goal.invariant-loop-file
invariant-loop-file l = doubled_among (library ++ map (λ k. k.now) l.names.keys) (drop l.file-index l.files) ≡ doubled_class l.files
