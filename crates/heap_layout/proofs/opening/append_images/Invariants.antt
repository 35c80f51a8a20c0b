use Rattle.std.proofs.Common.{◌≡◌, ◌++◌, drop}
use Rattle.objects.specs.linking.StaticBases.{base_type}
use Rattle.objects.specs.linking.Layout.{base_images}
use Rattle.hierarchy.proofs.InOrder.{seen}
use Rattle.heap_layout.proofs.opening.append_images.Given as goal

-- the words of the classes so far, and the type of the next base
abbrev pub invariant-loop-class : goal.invariant-loop-class
invariant-loop-class l = record {
  so_far : l.words.items ++ base_images (seen l.classes) l.class-index (seen (drop l.class-index l.classes)) ≡ l.fn.words.items ++ base_images (seen l.classes) 0 (seen l.classes);
  type : l.number ≡ base_type (seen l.classes) l.class-index;
}
