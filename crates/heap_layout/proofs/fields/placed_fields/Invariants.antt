use Rattle.std.proofs.Common.{◌≡◌, ◌++◌, drop}
use Rattle.objects.specs.linking.StaticBases.{base_of}
use Rattle.objects.specs.linking.Layout.{fields_from, fields_of}
use Rattle.hierarchy.proofs.InOrder.{seen}
use Rattle.heap_layout.proofs.fields.placed_fields.Given as goal

-- the fields of the classes so far, and where the next base lies
abbrev pub invariant-loop-class : goal.invariant-loop-class
invariant-loop-class l = record {
  so_far : l.fields.items ++ fields_from l.folder l.class-index (seen (drop l.class-index l.class-items)) ≡ fields_of l.folder;
  base : l.base ≡ base_of l.folder l.class-index;
}
