-- Counts that rise.
use Rattle.std.proofs.Common.{◌≤◌, ℕ, inl, inr, arith}
use Rattle.deuce_io.specs.Fault.{Rose}

-- what rose since a later moment rose since an earlier one
pub rose_since : (first before now : ℕ) → first ≤ before → Rose before now → Rose first now
rose_since first before now le (inl less) = inl (omega arith)
rose_since first before now le (inr last) = inr last
