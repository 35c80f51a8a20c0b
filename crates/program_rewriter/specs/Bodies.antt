-- The code of a method, and its parameters.
use Rattle.std.specs.Prelude.{◌≡◌, length}
use Rattle.hierarchy.specs.declared.program.Body.{Body}
use Rattle.objects.specs.semantics.Program.{Method}

-- a method has this code
pub record HasBody (k : Method) (b : Body) : Type 0 where
  pub locals : b.locals ≡ k.locals
  pub max_stack : b.max_stack ≡ k.max_stack
  pub ops : b.ops.items ≡ k.ops
  pub catches : b.catches.items ≡ k.catches

-- the parameters of a method have as many places as it says
abbrev pub IsShaped : Method → Type 0
IsShaped k = length k.parameters ≡ k.places
