use Rattle.std.proofs.Common.{◌≡◌, map, reverse}
use Rattle.objects.specs.linking.Layout.{in_text_order}
use Rattle.hierarchy.proofs.InOrder.{texts}
use Rattle.heap_layout.proofs.texts.set_of.Given as goal

-- the texts so far, of which the last one comes first
abbrev pub invariant-loop-text : goal.invariant-loop-text
invariant-loop-text l = texts l.set.keys ≡ in_text_order (texts (reverse (map (λ t. t.now) l.yielded)))
