use Rattle.std.proofs.Common.{◌≡◌, length, take}
use Rattle.std.specs.List.{flat_map}
use Rattle.objects.specs.linking.Layout.{own_words}
use Rattle.heap_layout.proofs.words.count_upward.Given as goal

-- how many words the classes so far have
abbrev pub invariant-loop-class : goal.invariant-loop-class
invariant-loop-class l = l.count ≡ length (flat_map (λ c. own_words l.folder c.now) (take l.class-index l.class-items))
