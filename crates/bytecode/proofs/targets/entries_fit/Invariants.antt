use Rattle.std.proofs.Common.{◌≡◌, List, drop}
use Rattle.std.specs.List.{flat_map}
use Rattle.jmodel.specs.declared.instruction.Instr.{Instr}
use Rattle.jmodel.specs.format.Instruction.{places_of_handler}
use Rattle.jmodel.specs.format.InstructionReading.{lesser, least_bad}
use Rattle.bytecode.specs.Marks.{AreMarks}
use Rattle.bytecode.proofs.targets.entries_fit.Given as goal

abbrev pub invariant-loop-h : goal.invariant-loop-h
invariant-loop-h l = (all : List Instr) → AreMarks l.marks all → lesser l.found (least_bad all (flat_map (places_of_handler l.len) (drop l.h-index l.handlers))) ≡ least_bad all (flat_map (places_of_handler l.len) l.handlers)
