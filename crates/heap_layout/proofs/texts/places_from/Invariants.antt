use Rattle.std.proofs.Common.{◌≡◌, ◌++◌, map, drop}
use Rattle.objects.specs.linking.Layout.{places_from}
use Rattle.heap_layout.proofs.texts.places_from.Given as goal

-- the addresses so far, and those that are still to come
abbrev pub invariant-loop-text : goal.invariant-loop-text
invariant-loop-text l = l.places.items ++ places_from l.place (map (λ t. t.now) (drop l._text-index l.texts)) ≡ places_from l.from (map (λ t. t.now) l.texts)
