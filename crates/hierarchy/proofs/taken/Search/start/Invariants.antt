use Rattle.std.proofs.Common.{◌≡◌, map, take}
use Rattle.std.specs.Prelude.{filter}
use Rattle.hierarchy.specs.Search.{is_root_of}
use Rattle.hierarchy.proofs.taken.Search.start.Given as goal

-- the marked methods and the static initialisers so far
abbrev pub invariant-loop-method : goal.invariant-loop-method
invariant-loop-method l = map (λ m. m.now) l.queue.items ≡ filter is_root_of (take l.method-index l.methods)
