-- What a list of types is made of.
use Rattle.std.specs.Prelude.{◌≡◌, ◌/◌, ◌<◌, List, [], ◌++◌, length, replicate}
use Rattle.jmodel.specs.declared.typing.VType.{VType}
use Rattle.type_lists.specs.declared.tree.Parts.{Parts}
use Rattle.type_lists.specs.declared.tree.Parts.TheVariants as parts

abbrev pub IsParted : List VType → Parts → Type 0
IsParted ts parts.Empty = ts ≡ []
IsParted ts (parts.Run item) = (ts ≡ replicate (length ts) item.now) × (0 < length ts)
IsParted ts (parts.Fork left right) = (ts ≡ left.now ++ right.now) × (0 < length left.now) × (0 < length right.now) × (length left.now ≡ length ts / 2)
