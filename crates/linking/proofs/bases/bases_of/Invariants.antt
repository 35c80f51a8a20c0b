use Rattle.std.proofs.Common.{◌≡◌, ℕ, ◌<◌, length, get_or}
use Rattle.objects.specs.linking.StaticBases.{base_of}
use Rattle.hierarchy.proofs.InOrder.{seen}
use Rattle.linking.proofs.bases.bases_of.Given as goal

-- the addresses so far, and the next one
abbrev pub invariant-loop-class : goal.invariant-loop-class
invariant-loop-class l = record {
  next : l.base ≡ base_of (seen l.classes) l.class-index;
  many : length l.bases.items ≡ l.class-index;
  each : (n : ℕ) → n < l.class-index → get_or l.bases.items n 0 ≡ base_of (seen l.classes) n;
}
