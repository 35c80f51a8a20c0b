use Rattle.std.proofs.Common.{◌≡◌, drop}
use Rattle.std.specs.Prelude.{bytes_eq, slice_get}
use Rattle.std.specs.List.{list_any}
use Rattle.objects.specs.linking.Members.{own_name}
use Rattle.resolution.specs.Ways.{some_class}
use Rattle.resolution.proofs.ways.Ways.any_named.Given as goal

-- whether one of them has the name is whether one has that is still to come
abbrev pub invariant-loop-place : goal.invariant-loop-place
invariant-loop-place l = list_any (λ p. list_any (λ d. bytes_eq (own_name d) l.name) (some_class (slice_get l.self p))) (drop l.place-index l.way) ≡ list_any (λ p. list_any (λ d. bytes_eq (own_name d) l.name) (some_class (slice_get l.self p))) l.way
