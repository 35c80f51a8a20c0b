-- What passes the tests of limits fits.
use Rattle.std.proofs.Common.{◌≡◌, ℕ, ◌<◌, ◌≤◌, Bool, true, false, ◌||◌, List, [], ◌∷◌, refl, arith}
use Rattle.std.specs.Prelude.{nat_lt}
use Rattle.std.specs.List.{list_any, AllByRecursion}
use Rattle.std.proofs.lemmas.Bool.Decides.{nat_tests}
use Rattle.jmodel.specs.declared.instruction.Instr.{Instr}
use Rattle.objects.specs.declared.op.Op.{Op}
use Rattle.objects.specs.semantics.Program.{Method}
use Rattle.dup_methods.specs.Limits.{count_of, counts_full, moved_local, is_far, AddsLittle, FitsOp, FitsCount}

-- what no item passes
none_first : (a b : Bool) → (a || b) ≡ false → (a ≡ false) × (b ≡ false)
none_first true b h = cc
none_first false b h = (refl, h)

not_more : (m n : ℕ) → nat_lt m n ≡ false → n ≤ m
not_more m n h = grind (arith, nat_tests)

-- each count can be one higher
pub counts_fit : (is : List Instr) → list_any counts_full is ≡ false → AllByRecursion FitsCount is
counts_fit [] h = tt
counts_fit (i ∷ is) h = let t = none_first (counts_full i) (list_any counts_full is) h in (omega (arith, not_more 254 (count_of i.operands) t.0), counts_fit is t.1)

-- a local that is moved has two bytes
abbrev pub IsNear : Method → Op → Type 0
IsNear k o = moved_local k o < 65536

pub all_near : (k : Method) (os : List Op) → list_any (is_far k) os ≡ false → AllByRecursion (IsNear k) os
all_near k [] h = tt
all_near k (o ∷ os) h = let t = none_first (is_far k o) (list_any (is_far k) os) h in (omega (arith, not_more 65535 (moved_local k o) t.0), all_near k os t.1)

pub all_fit : (k : Method) (os : List Op) → AllByRecursion (IsNear k) os → AllByRecursion AddsLittle os → AllByRecursion (FitsOp k) os
all_fit k [] h a = tt
all_fit k (o ∷ os) h a = ((h.0, a.0), all_fit k os h.1 a.1)
