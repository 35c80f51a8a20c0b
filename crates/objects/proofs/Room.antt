-- What a region has room for.
use Rattle.std.proofs.Common.{◌≡◌, ℕ, ◌+◌, ◌^◌, ◌<◌, ◌≤◌, true, arith}
use Rattle.std.proofs.lemmas.Bool.Decides.{nat_tests}
use Rattle.objects.specs.semantics.Region.{Region, next_reference, has_words}

-- a region has n words more
pub record HasWords (G : Region) (used n : ℕ) : Type 0 where
  pub past : 1 < next_reference G used
  pub fits : used + n ≤ G.size
  pub address : next_reference G used + n ≤ 2 ^ 64

pub words_there : (G : Region) (used n : ℕ) → has_words G used n ≡ true → HasWords G used n
words_there G used n h = record { past = grind (arith, nat_tests); fits = grind (arith, nat_tests); address = grind (arith, nat_tests) }
