use Rattle.std.proofs.Common.{◌≡◌, drop, map}
use Rattle.std.specs.Prelude.{bytes_eq}
use Rattle.std.specs.List.{list_any}
use Rattle.hierarchy.proofs.library.is_among.Given as goal

-- whether one of them is the name is whether one is that is still to come
abbrev pub invariant-loop-known : goal.invariant-loop-known
invariant-loop-known l = list_any (bytes_eq l.name) (map (λ b. b.now) (drop l.known-index l.names)) ≡ list_any (bytes_eq l.name) (map (λ b. b.now) l.names)
