-- A pass and its bag.
use Rattle.std.specs.Prelude.{◌≡◌}
use Rattle.claims.specs.Claims.{Claims}
use Rattle.claims.specs.declared.bag.Bag.{Bag}
use Rattle.claims.specs.declared.bag.BagPass.{BagPass}

-- what the pass knows
abbrev pub claims_of : BagPass → Claims
claims_of p = p.seat.me.0

-- the pass is one of the bag's
abbrev pub IsOf : Bag → BagPass → Type 0
IsOf b p = p.seat.table_id ≡ b.table.shared.table_id
