-- What code that was laid has of its blocks.
use Rattle.std.specs.Prelude.{◌≡◌, ℕ, ◌+◌, ◌<◌, List, [], ◌∷◌, ◌++◌, length, Option, Some, None, Result, Ok, nat_eq, ◌==◌, if◌then◌else◌}
use Rattle.std.specs.List.{AllByRecursion, position}
use Rattle.jmodel.specs.declared.class_file.Handler.{Handler}
use Rattle.jmodel.specs.declared.instruction.Instr.{Instr}
use Rattle.jmodel.specs.format.ClassFile.{Pool as Entries}
use Rattle.jmodel.specs.format.Instruction.{form_of, text, code_text, FitPoolAs, IsInstr, AreInOrder, AreStarts, SpellsInstrs}
use Rattle.jmodel.specs.format.Relocation.{Block, all_instrs, place_of, retargeted, relocated, relocate, IsShaped, EachInstr, ArePcs, AscendFrom, IsHandlerOver, AreBlocks}

-- instructions that code spells, one behind the other
pub record AreLaid (code : List ℕ) (is : List Instr) : Type 0 where
  pub each : AllByRecursion IsInstr is
  pub order : AreInOrder 0 is
  pub spelled : code ≡ code_text is

-- What was laid keeps the rule.
abbrev pub LaidLaw : Type 0
LaidLaw = (bs : List Block) (hs : List Handler) (first : Option ℕ) (stub : List Instr) (code : List ℕ) (moved : List Handler)
    → AreBlocks bs hs first stub → relocate bs hs first stub ≡ Ok (code, moved) → AreLaid code (relocated bs stub)

-- what the entries of operands are over a pool
abbrev pub Fits : Entries → Instr → Type 0
Fits pool i = FitPoolAs pool (form_of i.op) i.operands

-- each block has an instruction
abbrev pub HaveInstrs : List Block → Type 0
HaveInstrs bs = AllByRecursion (λ (b : Block). 0 < length b.instrs) bs

-- what a first entry enters is there
abbrev pub HasStub : Option ℕ → List Instr → Type 0
HasStub None stub = Unit {0}
HasStub (Some class) stub = 0 < length stub

-- Over a pool in which each instruction fits, the code spells what was laid, so that decoding it gives that again.
abbrev pub SpelledLaw : Type 0
SpelledLaw = (pool : Entries) (bs : List Block) (hs : List Handler) (first : Option ℕ) (stub : List Instr) (code : List ℕ) (moved : List Handler)
    → AreBlocks bs hs first stub → HaveInstrs bs → HasStub first stub → EachInstr (Fits pool) bs → AllByRecursion (Fits pool) stub
    → relocate bs hs first stub ≡ Ok (code, moved) → SpellsInstrs pool moved code (relocated bs stub)

-- how many instructions stand before the block of a pc, or in all blocks where there is no such block
abbrev pub number_of : List Block → ℕ → ℕ
number_of [] pc = 0
number_of (b ∷ bs) pc = if b.pc == pc then 0 else length b.instrs + number_of bs pc

-- Counted in instructions, what leads to a block leads behind those of the blocks before it.
abbrev pub PlaceLaw : Type 0
PlaceLaw = (bs : List Block) (stub : List Instr) (pc : ℕ) → EachInstr IsShaped bs → AllByRecursion IsShaped stub
    → number_of bs pc < length (all_instrs bs ++ stub) → position (λ (i : Instr). nat_eq i.pc (place_of bs pc)) (relocated bs stub) ≡ Some (number_of bs pc)

-- Targets don't change the size of an instruction.
abbrev pub SizeLaw : Type 0
SizeLaw = (place : ℕ → ℕ) (i : Instr) → length (text (retargeted place i)) ≡ length (text i)

-- there is a block for each instruction, in order
abbrev pub StandFor : List Block → List Instr → Type 0
StandFor [] [] = Unit {0}
StandFor (b ∷ bs) (i ∷ is) = (b.pc ≡ i.pc) × StandFor bs is
StandFor bs is = ⊥

-- what blocks that stand for instructions have of them: their order, their exception entries, and the starts as pcs
pub record HaveOrigin (bs : List Block) (hs : List Handler) (is : List Instr) : Type 0 where
  pub ascend : AscendFrom 0 bs
  pub entries : AllByRecursion (IsHandlerOver bs) hs
  pub pcs : (ns : List ℕ) → AreStarts is ns → ArePcs bs ns
  pub each : AllByRecursion IsShaped is

-- Blocks for the instructions of code can be laid, as far as it rests on the code.
abbrev pub OriginLaw : Type 0
OriginLaw = (pool : Entries) (hs : List Handler) (code : List ℕ) (is : List Instr) (bs : List Block)
    → SpellsInstrs pool hs code is → StandFor bs is → HaveOrigin bs hs is
