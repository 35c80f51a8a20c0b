-- What a shared stack keeps of itself.
use Rattle.std.specs.Prelude.{◌≡◌, ◌<◌, ℕ, List, [], ◌++◌, length, Bool, true, false}
use Rattle.jmodel.specs.declared.typing.VType.{VType}
use Rattle.type_lists.specs.Stacks.{is_stack_under}
use Rattle.type_lists.specs.Named.{are_named}
use Rattle.type_lists.specs.declared.stack.Link.{Link}
use Rattle.type_lists.specs.declared.stack.Link.TheVariants.{Bottom, Part}

abbrev pub items : Link → List VType
items Bottom = []
items (Part part under) = part ++ under.value

-- no part is empty
abbrev pub HasPart : Link → Type 0
HasPart Bottom = Unit {0}
HasPart (Part part under) = 0 < length part

-- how many types there are, whether they may be those of a stack, or lie under the second place of a long, and whether one has a name
pub record IsKept (top : Link) (d : ℕ) (w u n : Bool) : Type 0 where
  pub depth : d ≡ length (items top)
  pub whole : w ≡ is_stack_under false (items top)
  pub under : u ≡ is_stack_under true (items top)
  pub named : n ≡ are_named (items top)
  pub part : HasPart top
