use Rattle.std.proofs.Common.{◌≡◌, take}
use Rattle.std.specs.List.{flat_map}
use Rattle.objects.specs.linking.Layout.{own_words}
use Rattle.heap_layout.proofs.words.words_upward.Given as goal

-- the words of the classes so far
abbrev pub invariant-loop-class : goal.invariant-loop-class
invariant-loop-class l = l.words.items ≡ flat_map (λ c. own_words l.folder c.now) (take l.class-index l.class-items)
