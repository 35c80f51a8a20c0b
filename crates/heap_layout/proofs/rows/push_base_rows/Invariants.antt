use Rattle.std.proofs.Common.{◌≡◌, ◌++◌, map, drop}
use Rattle.std.specs.Prelude.{filter}
use Rattle.objects.specs.linking.StaticBases.{has_base}
use Rattle.objects.specs.linking.Layout.{nameless, static_words, base_rows}
use Rattle.hierarchy.proofs.InOrder.{seen}
use Rattle.heap_layout.proofs.rows.push_base_rows.Given as goal

-- the types so far, and those that are still put
abbrev pub invariant-loop-class : goal.invariant-loop-class
invariant-loop-class l =
    l.rows.items ++ map (λ c. nameless (static_words l.hierarchy c)) (filter has_base (seen (drop l.class-index l.class-items))) ≡ l.fn.rows.items ++ base_rows l.hierarchy
