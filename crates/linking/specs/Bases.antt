-- Where the objects of classes' static fields lie.
use Rattle.std.specs.Prelude.{◌≡◌, ℕ, ◌+◌, ◌≤◌, List, length, slice_index}
use Rattle.jmodel.specs.format.ClassFile.{ClassFile}
use Rattle.objects.specs.linking.StaticBases.{base_of}

-- the address for each class, and that behind all of them
pub record AreBases (bases : List ℕ) (cs : List ClassFile) : Type 0 where
  pub many : length bases ≡ length cs + 1
  pub each : (n : ℕ) → n ≤ length cs → slice_index bases n ≡ base_of cs n
