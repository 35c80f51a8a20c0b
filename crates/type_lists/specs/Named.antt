-- Types that have a name.
use Rattle.std.specs.Prelude.{List, Bool, true, false}
use Rattle.std.specs.List.{list_any}
use Rattle.jmodel.specs.declared.typing.VType.{VType}
use Rattle.jmodel.specs.declared.typing.VType.TheVariants.{Ref}

-- whether a type is that of a class or an array
abbrev pub is_named : VType → Bool
is_named (Ref n) = true
is_named t = false

abbrev pub are_named : List VType → Bool
are_named ts = list_any is_named ts
