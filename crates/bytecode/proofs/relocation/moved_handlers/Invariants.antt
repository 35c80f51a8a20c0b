use Rattle.std.proofs.Common.{◌≡◌, ◌++◌, map, take}
use Rattle.jmodel.specs.format.Relocation.{moved}
use Rattle.bytecode.specs.Places.{place_in, entry_to}
use Rattle.bytecode.proofs.relocation.moved_handlers.Given as goal

abbrev pub invariant-loop-h : goal.invariant-loop-h
invariant-loop-h l = l.moved.items ≡ entry_to l.places l.fn.first ++ map (moved (place_in l.places)) (take l.h-index l.handlers)
