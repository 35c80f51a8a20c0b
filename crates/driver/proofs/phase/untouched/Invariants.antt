use Rattle.std.proofs.Common.{◌≡◌, ◌<◌, ℕ, [], length, get_or, All}
use Rattle.std.specs.Prelude.{slice_index}
use Rattle.driver.specs.declared.side.Part.{Part}
use Rattle.driver.proofs.phase.untouched.Given as goal

abbrev pub invariant-loop-lane : goal.invariant-loop-lane
invariant-loop-lane l = record {
  as_many : length l.parts.items ≡ l.lane;
  used : (k : ℕ) (d : Part) → k < length l.parts.items → (get_or l.parts.items k d).used ≡ slice_index l.used k;
  none : All (λ (r : Part). (r.made ≡ 0) × (r.unplaced.items ≡ [])) l.parts.items;
}
