use Rattle.std.proofs.Common.{◌≡◌, ◌++◌, drop}
use Rattle.objects.specs.linking.Layout.{descriptor_read}
use Rattle.heap_layout.proofs.reading.descriptor_read.Given as goal

-- the bytes so far, and those that are still read
abbrev pub invariant-loop-i : goal.invariant-loop-i
invariant-loop-i l = l.bytes ++ descriptor_read l.folder (drop l.i l.descriptor) ≡ descriptor_read l.folder l.descriptor
