-- Laying blocks of instructions as code (JVM Specification, Java SE 7, chapter 6): each block stands in place of an instruction
-- of older code, and what led to that instruction leads to its block.
use Rattle.std.specs.Prelude.{◌≡◌, ℕ, ◌+◌, ◌<◌, ◌≤◌, ◌^◌, ℤ, pos, negsuc, List, [], ◌∷◌, ◌++◌, length, map, Option, Some, None, Result, Ok, Err, Bool, true, nat_lt, int_le, ◌==◌, ◌&&◌, ◌⊎◌, if◌then◌else◌}
use Rattle.std.specs.List.{flat_map, list_any, list_all, AllByRecursion}
use Rattle.jmodel.specs.declared.class_file.Handler.{Handler}
use Rattle.jmodel.specs.declared.refusal.Refusal.{Refusal}
use Rattle.jmodel.specs.declared.refusal.Refusal.TheVariants.{CodeTooLarge, BranchTooFar}
use Rattle.jmodel.specs.declared.instruction.Form.{Form}
use Rattle.jmodel.specs.declared.instruction.Form.TheVariants as form
use Rattle.jmodel.specs.declared.instruction.Operands.{Operands}
use Rattle.jmodel.specs.declared.instruction.Operands.TheVariants.{Target, Table, Lookup}
use Rattle.jmodel.specs.declared.instruction.Instr.{Instr}
use Rattle.jmodel.specs.format.Instruction.{form_of, distance, text, code_text, targets_of, IsSized}

-- What stands in place of the instruction at a pc of the older code. The targets of its instructions are places there; their
-- own pcs say nothing.
pub record Block : Type 0 where
  pub pc : ℕ
  pub instrs : List Instr

-- the instructions of all blocks
abbrev pub all_instrs : List Block → List Instr
all_instrs bs = flat_map (λ (b : Block). b.instrs) bs

-- ---- places

abbrev pub put_at : ℕ → Instr → Instr
put_at at i = record { pc = at; op = i.op; operands = i.operands }

-- how many bytes an instruction takes at a place
abbrev pub size_at : ℕ → Instr → ℕ
size_at at i = length (text (put_at at i))

-- the place behind instructions that begin at a place
abbrev pub behind : ℕ → List Instr → ℕ
behind at [] = at
behind at (i ∷ is) = behind (at + size_at at i) is

-- instructions from a place on, each behind the one before
abbrev pub laid : ℕ → List Instr → List Instr
laid at [] = []
laid at (i ∷ is) = put_at at i ∷ laid (at + size_at at i) is

-- Where the block of a pc stands, if the blocks begin at a place; the place behind them all where there is no such block.
abbrev pub place_from : ℕ → List Block → ℕ → ℕ
place_from at [] pc = at
place_from at (b ∷ bs) pc = if b.pc == pc then at else place_from (behind at b.instrs) bs pc

abbrev pub place_of : List Block → ℕ → ℕ
place_of bs pc = place_from 0 bs pc

-- the place behind all blocks
abbrev pub end_of : List Block → ℕ
end_of bs = behind 0 (all_instrs bs)

-- ---- targets

-- operands with each target changed
abbrev pub retarget : (ℕ → ℕ) → Operands → Operands
retarget place (Target t) = Target (place t)
retarget place (Table other low targets) = Table (place other) low (map place targets)
retarget place (Lookup other pairs) = Lookup (place other) (map (λ (p : ℤ × ℕ). (p.0, place p.1)) pairs)
retarget place o = o

abbrev pub retargeted : (ℕ → ℕ) → Instr → Instr
retargeted place i = record { pc = i.pc; op = i.op; operands = retarget place i.operands }

-- instructions from a place on, with their targets changed
abbrev pub laid_to : (ℕ → ℕ) → ℕ → List Instr → List Instr
laid_to place at is = map (retargeted place) (laid at is)

-- The blocks one behind the other, each target the start of its block, and the stub last.
abbrev pub relocated : List Block → List Instr → List Instr
relocated bs stub = laid_to (place_of bs) 0 (all_instrs bs ++ stub)

-- whether a distance is a signed number of two bytes
abbrev pub is_near : ℤ → Bool
is_near n = int_le (negsuc 32767) n && int_le n (pos 32767)

abbrev pub reaches_as : Option Form → ℕ → Operands → Bool
reaches_as (Some form.Jump) pc (Target t) = is_near (distance pc t)
reaches_as f pc o = true

-- whether a jump's distance fits its bytes
abbrev pub reaches : Instr → Bool
reaches i = reaches_as (form_of i.op) i.pc i.operands

-- the pc of the first block with a jump that doesn't reach
abbrev pub far_block : (ℕ → ℕ) → ℕ → List Block → Option ℕ
far_block place at [] = None
far_block place at (b ∷ bs) = if list_all reaches (laid_to place at b.instrs) then far_block place (behind at b.instrs) bs else Some b.pc

-- ---- exception entries

abbrev pub moved : (ℕ → ℕ) → Handler → Handler
moved place h = record { start = place h.start; end = place h.end; handler = place h.handler; catch_type = h.catch_type }

-- an entry of this class over all blocks, which enters the stub behind them
abbrev pub first_entry : List Block → Option ℕ → List Handler
first_entry bs None = []
first_entry bs (Some class) = record { start = 0; end = end_of bs; handler = end_of bs; catch_type = class } ∷ []

abbrev pub moved_handlers : List Block → List Handler → Option ℕ → List Handler
moved_handlers bs hs first = first_entry bs first ++ map (moved (place_of bs)) hs

-- ---- the whole

abbrev pub laid_out : Option ℕ → List Block → List Handler → Option ℕ → List Instr → Result (List ℕ × List Handler) Refusal
laid_out None bs hs first stub = Ok (code_text (relocated bs stub), moved_handlers bs hs first)
laid_out (Some pc) bs hs first stub = Err (BranchTooFar [] (pos pc))

-- The code of the blocks and the stub with its exception entries, or why there is none. Where pcs ascend, the pc that is told is
-- the least.
abbrev pub relocate : List Block → List Handler → Option ℕ → List Instr → Result (List ℕ × List Handler) Refusal
relocate bs hs first stub =
    if nat_lt 65535 (length (code_text (relocated bs stub))) then Err (CodeTooLarge [])
    else laid_out (far_block (place_of bs) 0 bs) bs hs first stub

-- ---- what can be laid

abbrev pub IsJump : Operands → Type 0
IsJump (Target t) = Unit {0}
IsJump o = ⊥

-- operands are those of a form, each in its range; a target may be any
abbrev pub IsShapedAs : Option Form → Operands → Type 0
IsShapedAs None o = ⊥
IsShapedAs (Some form.Jump) o = IsJump o
IsShapedAs (Some form.FarJump) o = IsJump o
IsShapedAs (Some f) o = IsSized 0 f o

-- an instruction has an opcode, and operands of its form
pub record IsShaped (i : Instr) : Type 0 where
  pub op : i.op < 2 ^ 8
  pub operands : IsShapedAs (form_of i.op) i.operands

-- whether a block stands for the instruction at this pc
abbrev pub is_pc : List Block → ℕ → Bool
is_pc bs n = list_any (λ (b : Block). b.pc == n) bs

-- pcs from a number on, each above the one before
abbrev pub AscendFrom : ℕ → List Block → Type 0
AscendFrom n [] = Unit {0}
AscendFrom n (b ∷ bs) = (n ≤ b.pc) × AscendFrom (b.pc + 1) bs

abbrev pub ArePcs : List Block → List ℕ → Type 0
ArePcs bs ns = AllByRecursion (λ n. is_pc bs n ≡ true) ns

-- a pc above those of all blocks
abbrev pub IsAbove : List Block → ℕ → Type 0
IsAbove bs n = AllByRecursion (λ (b : Block). b.pc < n) bs

-- an end above all blocks stands for the end of them
pub record IsHandlerOver (bs : List Block) (h : Handler) : Type 0 where
  pub start : is_pc bs h.start ≡ true
  pub end : (is_pc bs h.end ≡ true) ⊎ IsAbove bs h.end
  pub handler : is_pc bs h.handler ≡ true

-- what a first entry needs: that one more can be counted
abbrev pub HasRoom : Option ℕ → List Handler → Type 0
HasRoom None hs = Unit {0}
HasRoom (Some class) hs = length hs < 65535

-- what holds of each instruction of each block
abbrev pub EachInstr : (Instr → Type 0) → List Block → Type 0
EachInstr P bs = AllByRecursion (λ (b : Block). AllByRecursion P b.instrs) bs

-- What can be laid: targets and exception entries are those of the older code, and the stub leads nowhere.
pub record AreBlocks (bs : List Block) (hs : List Handler) (first : Option ℕ) (stub : List Instr) : Type 0 where
  pub ascend : AscendFrom 0 bs
  pub each : EachInstr IsShaped bs
  pub targets : EachInstr (λ (i : Instr). ArePcs bs (targets_of i.operands)) bs
  pub each_last : AllByRecursion IsShaped stub
  pub last_leads_nowhere : AllByRecursion (λ (i : Instr). targets_of i.operands ≡ []) stub
  pub entries : AllByRecursion (IsHandlerOver bs) hs
  pub room : HasRoom first hs
