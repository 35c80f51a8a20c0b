-- What a tree of types keeps of itself.
use Rattle.std.specs.Prelude.{◌≡◌, ℕ, ◌/◌, ◌<◌, List, [], ◌++◌, length, replicate, Bool, true, false, Option}
use Rattle.jmodel.specs.declared.typing.VType.{VType}
use Rattle.type_lists.specs.Named.{are_named}
use Rattle.type_lists.specs.Stacks.{under_all}
use Rattle.type_lists.specs.declared.tree.Node.{Node}
use Rattle.type_lists.specs.declared.tree.Node.TheVariants.{Empty, Run, Fork}

abbrev pub types : ℕ → Node → List VType
types n Empty = []
types n (Run item) = replicate n item
types n (Fork left right) = left.value ++ right.value

-- a fork is of two halves, of which none is empty
abbrev pub HasParts : ℕ → Node → Type 0
HasParts n Empty = Unit {0}
HasParts n (Run item) = 0 < n
HasParts n (Fork left right) = (0 < length left.value) × (0 < length right.value) × (length left.value ≡ n / 2)

pub record IsTree (count : ℕ) (b : Bool) (p u : Option Bool) (node : Node) : Type 0 where
  pub len : count ≡ length (types count node)
  pub named : b ≡ are_named (types count node)
  pub plain : p ≡ under_all false (types count node)
  pub under : u ≡ under_all true (types count node)
  pub parts : HasParts count node
