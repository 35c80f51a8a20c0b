use Rattle.std.proofs.Common.{◌≡◌, ◌++◌, map, drop}
use Rattle.std.specs.List.{flat_map}
use Rattle.jmodel.specs.format.Pool.{string_in}
use Rattle.objects.specs.linking.Layout.{some_text}
use Rattle.heap_layout.specs.Texts.{pool_texts}
use Rattle.heap_layout.proofs.texts.push_texts.Given as goal

-- the texts so far, and those that are still put
abbrev pub invariant-loop-entry : goal.invariant-loop-entry
invariant-loop-entry l =
    map (λ t. t.now) l.texts.items ++ flat_map (λ k. some_text (string_in l.pool k)) (drop l.entry-index l.entry-items) ≡ map (λ t. t.now) l.fn.texts.items ++ pool_texts l.pool
