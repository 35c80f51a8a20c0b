-- Where blocks stand, and code as it grows block by block.
use Rattle.std.specs.Prelude.{◌≡◌, ℕ, ◌<◌, ◌^◌, pos, List, [], ◌∷◌, ◌++◌, length, Option, Some, None, Result, Ok, Err, nat_lt, slice_index_or, if◌then◌else◌}
use Rattle.std.specs.List.{list_all}
use Rattle.jmodel.specs.declared.class_file.Handler.{Handler}
use Rattle.jmodel.specs.declared.refusal.Refusal.{Refusal}
use Rattle.jmodel.specs.declared.refusal.Refusal.TheVariants.{BranchTooFar}
use Rattle.jmodel.specs.declared.instruction.Operands.{Operands}
use Rattle.jmodel.specs.declared.instruction.Operands.TheVariants.{Target}
use Rattle.jmodel.specs.declared.instruction.Instr.{Instr}
use Rattle.jmodel.specs.format.Instruction.{code_text}
use Rattle.jmodel.specs.format.Reading.{◌>>=◌}
use Rattle.jmodel.specs.format.Relocation.{Block, all_instrs, behind, place_of, end_of, laid_to, reaches}
use Rattle.bytecode.specs.declared.places.Places.{Places}

-- where the block of a pc stands, by a table
abbrev pub place_in : Places → ℕ → ℕ
place_in p pc = slice_index_or p.starts.items pc p.end

-- a single target is a number of two bytes
abbrev pub LeadsInside : Operands → Type 0
LeadsInside (Target t) = t < 2 ^ 16
LeadsInside o = Unit {0}

-- the table is that of these blocks
pub record ArePlaces (p : Places) (bs : List Block) : Type 0 where
  pub place : (pc : ℕ) → place_in p pc ≡ place_of bs pc
  pub end : p.end ≡ end_of bs

-- the place behind the blocks, where the code with the stub isn't too large
abbrev pub end_within : List Block → List Instr → Option ℕ
end_within bs stub = if nat_lt 65535 (behind 0 (all_instrs bs ++ stub)) then None else Some (end_of bs)

-- code with the instructions of a block behind it
abbrev pub with_block : (ℕ → ℕ) → ℕ → List ℕ → List Instr → Result (List ℕ) Refusal
with_block place pc before is =
    if list_all reaches (laid_to place (length before) is) then Ok (before ++ code_text (laid_to place (length before) is))
    else Err (BranchTooFar [] (pos pc))

-- code with blocks behind it
abbrev pub with_blocks : (ℕ → ℕ) → List ℕ → List Block → Result (List ℕ) Refusal
with_blocks place before [] = Ok before
with_blocks place before (b ∷ bs) = with_block place b.pc before b.instrs >>= λ code. with_blocks place code bs

-- the code of blocks with the stub behind them, which has no jump that could be too far
abbrev pub with_all : (ℕ → ℕ) → List Block → List Instr → Result (List ℕ) Refusal
with_all place bs stub = with_blocks place [] bs >>= λ code. with_block place 65535 code stub

-- an entry of this class over all blocks
abbrev pub entry_to : Places → Option ℕ → List Handler
entry_to p None = []
entry_to p (Some class) = record { start = 0; end = p.end; handler = p.end; catch_type = class } ∷ []
