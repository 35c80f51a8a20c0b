-- How a method is written.
use Rattle.std.specs.Prelude.{ℕ, List, ◌∷◌, ◌++◌}
use Rattle.jmodel.specs.declared.name.MethodName.{MethodName}

-- CLASS.NAMEDESCRIPTOR; 46 is the dot
abbrev pub printed : MethodName → List ℕ
printed m = m.class ++ 46 ∷ (m.name ++ m.descriptor)
