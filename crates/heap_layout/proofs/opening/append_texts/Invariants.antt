use Rattle.std.proofs.Common.{◌≡◌, ◌++◌, map, take}
use Rattle.objects.specs.semantics.State.{header}
use Rattle.objects.specs.linking.Layout.{text_object}
use Rattle.heap_layout.proofs.opening.append_texts.Given as goal

-- a header for each of the texts so far
abbrev pub invariant-loop-text : goal.invariant-loop-text
invariant-loop-text l = l.words.items ≡ l.fn.words.items ++ map (λ t. header text_object) (map (λ t. t.now) (take l._text-index l.texts))
