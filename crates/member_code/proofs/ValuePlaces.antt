-- How many places values take.
use Rattle.std.proofs.Common.{ℕ, ◌<◌, arith}
use Rattle.objects.specs.declared.op.WordType.{WordType}
use Rattle.objects.specs.declared.op.WordType.TheVariants as word
use Rattle.objects.specs.rewriting.Rewriting.{word_places}

-- a value takes fewer than three places
pub few_places : (t : WordType) → word_places t < 3
few_places word.Long = omega arith
few_places word.Boolean = omega arith
few_places word.Byte = omega arith
few_places word.Char = omega arith
few_places word.Short = omega arith
few_places word.Int = omega arith
few_places word.Reference = omega arith
