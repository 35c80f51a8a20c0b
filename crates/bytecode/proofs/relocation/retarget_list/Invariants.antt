use Rattle.std.proofs.Common.{◌≡◌, map, take}
use Rattle.bytecode.specs.Places.{place_in}
use Rattle.bytecode.proofs.relocation.retarget_list.Given as goal

abbrev pub invariant-loop-target : goal.invariant-loop-target
invariant-loop-target l = l.items.items ≡ map (place_in l.places) (take l.target-index l.targets)
