use Rattle.std.proofs.Common.{◌≡◌, ◌<◌, ◌≤◌, ℕ, slice_index, slice_index_or}
use Rattle.driver.specs.declared.side.Part.{Part as Kept}
use Rattle.driver.proofs.side.keep_used.Given as goal

-- the lanes so far have those of their parts, the others what they had
abbrev pub invariant-loop-lane : goal.invariant-loop-lane
invariant-loop-lane l = record {
  lanes : (k : ℕ) (d : Kept) → k < l.lane → slice_index l.used k ≡ (slice_index_or l.parts k d).used;
  others : (k : ℕ) → l.lane ≤ k → slice_index l.used k ≡ slice_index l.fn.used k;
}
