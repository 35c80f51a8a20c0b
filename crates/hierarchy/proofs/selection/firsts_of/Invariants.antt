use Rattle.std.proofs.Common.{◌≡◌, ℕ, take}
use Rattle.std.specs.Prelude.{position}
use Rattle.hierarchy.specs.Selecting.{first_at, is_place, place_in}
use Rattle.hierarchy.proofs.selection.firsts_of.Given as goal

-- the first of the methods so far
abbrev pub invariant-loop-number : goal.invariant-loop-number
invariant-loop-number l = (g c : ℕ) → first_at l.firsts g c ≡ position (λ k. is_place (place_in l.groups l.classes k) g c) (take l.number l.methods)
