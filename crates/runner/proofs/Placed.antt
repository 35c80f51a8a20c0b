-- The places that faults of methods name are places of their code.
use Rattle.std.proofs.Common.{◌≡◌, ◌<◌, ◌+◌, ℕ, suc, List, [], ◌∷◌, length, Some, Bool, true, false, arith}
use Rattle.std.specs.Prelude.{if◌then◌else◌}
use Rattle.objects.specs.declared.op.Op.{Op}
use Rattle.objects.specs.semantics.Program.{Method, Program, is_code, has_code}
use Rattle.objects.specs.typing.Typing.{Table, types_at}
use Rattle.program_typing.specs.Early.{is_early, early_from, early_store}

some_ops : (os : List Op) → is_code os ≡ true → 0 < length os
some_ops [] e = cc
some_ops (o ∷ os) e = omega arith

-- a method that has code has an instruction
pub coded_some : (k : Method) → has_code (Some k) ≡ true → 0 < length k.ops
coded_some k e = some_ops k.ops e

from_inside : (P : Program) (T : Table) (pc : ℕ) (os : List Op) (place : ℕ) → early_from P T pc os ≡ Some place → place < pc + length os
from_inside P T pc [] place e = cc
from_inside P T pc (o ∷ os) place e = go (is_early P (types_at T pc) o) e (λ f. from_inside P T (suc pc) os place f)
  where
    go : (b : Bool) → (if b then Some pc else early_from P T (suc pc) os) ≡ Some place → (early_from P T (suc pc) os ≡ Some place → place < suc pc + length os) → place < pc + length (o ∷ os)
    go true e rest = let same : pc ≡ place = cc in omega (arith, same)
    go false e rest = let lt = rest e in omega (arith, lt)

-- the first early store is an instruction
pub early_inside : (P : Program) (k : Method) (T : Table) (place : ℕ) → early_store P k T ≡ Some place → place < length k.ops
early_inside P k T place e = let lt = from_inside P T 0 k.ops place e in omega (arith, lt)
