use Rattle.std.proofs.Common.{◌≡◌, ℕ, ℤ, map, take}
use Rattle.bytecode.specs.Places.{place_in}
use Rattle.bytecode.proofs.relocation.retarget_pairs.Given as goal

abbrev pub invariant-loop-pair : goal.invariant-loop-pair
invariant-loop-pair l = l.items.items ≡ map (λ (p : ℤ × ℕ). (p.0, place_in l.places p.1)) (take l.pair-index l.pairs)
