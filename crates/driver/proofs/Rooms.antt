-- The room of a call.
use Rattle.std.proofs.Common.{◌≡◌, ℕ, ◌+◌, ◌*◌, ◌^◌, ◌<◌, ◌≤◌, arith}
use Rattle.std.proofs.Math.Nat.{mul-le-mul_right}
use Rattle.machine.specs.declared.room.Room.{Room}

-- the words of a lane's region have addresses
pub region_fits : (region size : ℕ) → region ≤ 256 → size ≤ 1048576 → region * size + size < 2 ^ 64
region_fits region size low small = let most : region * size ≤ 256 * size = mul-le-mul_right size low in omega (arith, most, small)

pub room_fits : (room : Room) (region size : ℕ) → room.region ≡ region → room.size ≡ size → region ≤ 256 → size ≤ 1048576
    → room.region * room.size + room.size < 2 ^ 64
room_fits room region size same_region same_size low small = rw (same_region, same_size) (region_fits region size low small)
