-- The load of a parameter.
use Rattle.std.specs.Prelude.{ℕ, List, [], ◌∷◌}
use Rattle.jmodel.specs.declared.typing.VType.{VType}
use Rattle.jmodel.specs.declared.typing.VType.TheVariants as type
use Rattle.objects.specs.declared.op.Sort.TheVariants as sort
use Rattle.objects.specs.declared.op.Op.{Op}
use Rattle.objects.specs.declared.op.Op.TheVariants.{Load}

-- that of a place of the parameters: none for the second of a long
abbrev pub one_load : ℕ → VType → List Op
one_load i type.Int = Load sort.Int i ∷ []
one_load i type.Long = Load sort.Long i ∷ []
one_load i type.Second = []
one_load i t = Load sort.Reference i ∷ []
