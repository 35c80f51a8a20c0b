use Rattle.std.proofs.Common.{◌≡◌, ◌+◌, drop}
use Rattle.jmodel.specs.format.Descriptor.{places_of}
use Rattle.linking.proofs.functions.places_of.Given as goal

-- the places so far, and those of the types that are still to come
abbrev pub invariant-loop-t : goal.invariant-loop-t
invariant-loop-t l = l.count + places_of (drop l.t-index l.types) ≡ places_of l.types
