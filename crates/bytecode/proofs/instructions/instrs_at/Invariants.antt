use Rattle.std.proofs.Common.{◌≡◌, ◌-◌, ◌<◌, length}
use Rattle.std.specs.List.{AllByRecursion}
use Rattle.jmodel.specs.declared.instruction.Instr.{Instr}
use Rattle.jmodel.specs.format.InstructionReading.{instrs_at}
use Rattle.bytecode.proofs.Walks.{behind}
use Rattle.bytecode.proofs.instructions.instrs_at.Given as goal

abbrev pub invariant-loop : goal.invariant-loop
invariant-loop l = record { gives : behind l.found.items (instrs_at l.pool l.code (length l.code - l.counter) l.at) ≡ instrs_at l.pool l.code (length l.code) 0; inside : AllByRecursion (λ (i : Instr). i.pc < length l.code) l.found.items }
