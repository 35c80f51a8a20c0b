use Rattle.std.proofs.Common.{◌≡◌, ◌≤◌, ◌<◌, ℕ, List, length, map, Some}
use Rattle.objects.specs.linking.Superclasses.{lineage}
use Rattle.hierarchy.specs.Places.{place_of}
use Rattle.resolution.specs.Ways.{IsWay, entry_at}
use Rattle.resolution.proofs.ways.all_lineages.Given as goal

-- the lineages of the classes so far
abbrev pub invariant-loop-class : goal.invariant-loop-class
invariant-loop-class l =
    (l.class-index ≤ length l.class-items) × (length (map (λ e. e.items) l.table.items) ≡ l.class-index)
    × ((name : List ℕ) (p : ℕ) → p < l.class-index → place_of l.places name ≡ Some p → IsWay l.places (entry_at (map (λ e. e.items) l.table.items) p) (lineage l.places name))
