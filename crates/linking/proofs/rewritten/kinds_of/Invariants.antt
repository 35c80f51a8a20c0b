use Rattle.std.proofs.Common.{◌≡◌, false, true, map, take}
use Rattle.objects.specs.rewriting.Relinking.{is_counted_old, all_old, all_accessors, all_duplicates, helper_members}
use Rattle.hierarchy.proofs.InOrder.{seen}
use Rattle.linking.proofs.rewritten.kinds_of.Given as goal

-- the methods of the classes so far
abbrev pub invariant-loop-class : goal.invariant-loop-class
invariant-loop-class l = record {
  originals : l.methods.originals.items ≡ map (λ k. (k, is_counted_old k)) (all_old l.original (seen (take l.class-index l.classes)));
  accessors : l.methods.accessors.items ≡ map (λ k. (k, false)) (all_accessors l.original (seen (take l.class-index l.classes)));
  duplicates : l.methods.duplicates.items ≡ map (λ k. (k, true)) (all_duplicates l.original (seen (take l.class-index l.classes)));
  helper : l.methods.helper.items ≡ map (λ k. (k, false)) (helper_members (seen (take l.class-index l.classes)));
}
