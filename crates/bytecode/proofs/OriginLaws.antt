-- Blocks that stand for the instructions of code.
use Rattle.std.proofs.Common.{◌≡◌, ℕ, ◌+◌, ◌<◌, ◌≤◌, Bool, true, false, cond, eqb, List, [], ◌∷◌, length, Option, Some, None, refl, sym, ap, subst, ◌∙◌, inl, inr, arith, length-append}
use Rattle.std.specs.List.{AllByRecursion}
use Rattle.std.proofs.lemmas.Bool.{eqb-true}
use Rattle.jmodel.specs.declared.class_file.Handler.{Handler}
use Rattle.jmodel.specs.declared.instruction.Form.{Form}
use Rattle.jmodel.specs.declared.instruction.Form.TheVariants as form
use Rattle.jmodel.specs.declared.instruction.Operands.{Operands}
use Rattle.jmodel.specs.declared.instruction.Operands.TheVariants.{Target}
use Rattle.jmodel.specs.declared.instruction.Instr.{Instr}
use Rattle.jmodel.specs.format.ClassFile.{Pool as Entries}
use Rattle.std.specs.Int.{Width, w16, w32}
use Rattle.jmodel.specs.format.Instruction.{form_of, text_as, text_with, IsTarget, IsSizedAs, FitPoolAs, IsInstrOver, is_start, Holds, places_of_handler, AreStarts}
use Rattle.jmodel.specs.format.Relocation.{Block, IsJump, IsShapedAs, IsShaped, is_pc, AscendFrom, ArePcs, IsAbove, IsHandlerOver}
use Rattle.bytecode.specs.Relocated.{StandFor, OriginLaw}

-- ---- shapes

jump_shape : (w : Width) (pc : ℕ) (o : Operands) → IsTarget w pc o → IsJump o
jump_shape w pc (Target t) h = tt
jump_shape w pc o h = absurd h

pub sized_shape : (pc : ℕ) (f : Option Form) (o : Operands) → IsSizedAs pc f o → IsShapedAs f o
sized_shape pc None o h = absurd h
sized_shape pc (Some form.Jump) o h = jump_shape w16 pc o h
sized_shape pc (Some form.FarJump) o h = jump_shape w32 pc o h
sized_shape pc (Some f) o h = h

pub all_shaped : (pool : Entries) (is : List Instr) → AllByRecursion (IsInstrOver pool) is → AllByRecursion IsShaped is
all_shaped pool [] h = tt
all_shaped pool (i ∷ is) h = (record { op = h.0.instr.op; operands = sized_shape i.pc (form_of i.op) i.operands h.0.instr.operands }, all_shaped pool is h.1)

-- ---- places

by_some : (pool : Entries) (pad : List ℕ) (i : Instr) (f : Option Form) → FitPoolAs pool f i.operands → 0 < length (text_as f pad i)
by_some pool pad i None k = absurd k
by_some pool pad i (Some f) k = omega arith

pub pcs_below : (pool : Entries) (at : ℕ) (code : List ℕ) (is : List Instr) → Holds at code is → AllByRecursion (IsInstrOver pool) is → AllByRecursion (λ (i : Instr). i.pc < at + length code) is
pcs_below pool at code [] h k = tt
pcs_below pool at code (i ∷ is) h k =
    let some : 0 < length (text_with h.0 i) = by_some pool h.0 i (form_of i.op) k.0.entry in
    let len : length code ≡ length (text_with h.0 i) + length h.1 = ap length h.4 ∙ length-append (text_with h.0 i) h.1 in
    let next : ℕ = at + length (text_with h.0 i) in
    let rest = pcs_below pool next h.1 is h.5 k.1 in
    let same : next + length h.1 ≡ at + length code = omega (arith, len) in
    (omega (arith, h.2, some, len), subst (λ (n : ℕ). AllByRecursion (λ (i : Instr). i.pc < n) is) same rest)

pub ascend : (pool : Entries) (m at : ℕ) (code : List ℕ) (is : List Instr) (bs : List Block) → m ≤ at → Holds at code is → AllByRecursion (IsInstrOver pool) is → StandFor bs is → AscendFrom m bs
ascend pool m at code [] [] le h k s = tt
ascend pool m at code [] (b ∷ bs) le h k s = absurd s
ascend pool m at code (i ∷ is) [] le h k s = absurd s
ascend pool m at code (i ∷ is) (b ∷ bs) le h k s =
    let some : 0 < length (text_with h.0 i) = by_some pool h.0 i (form_of i.op) k.0.entry in
    (omega (arith, h.2, s.0), ascend pool (b.pc + 1) (at + length (text_with h.0 i)) h.1 is bs (omega (arith, h.2, s.0, some)) h.5 k.1 s.1)

pub above : (n : ℕ) (is : List Instr) (bs : List Block) → AllByRecursion (λ (i : Instr). i.pc < n) is → StandFor bs is → IsAbove bs n
above n [] [] h s = tt
above n [] (b ∷ bs) h s = absurd s
above n (i ∷ is) [] h s = absurd s
above n (i ∷ is) (b ∷ bs) h s = (omega (arith, h.0, s.0), above n is bs h.1 s.1)

pub pc_is : (is : List Instr) (bs : List Block) (n : ℕ) → StandFor bs is → is_pc bs n ≡ is_start is n
pc_is [] [] n s = refl
pc_is [] (b ∷ bs) n s = absurd s
pc_is (i ∷ is) [] n s = absurd s
pc_is (i ∷ is) (b ∷ bs) n s = rw (s.0, pc_is is bs n s.1) refl

pub pcs_are : (is : List Instr) (bs : List Block) → StandFor bs is → (ns : List ℕ) → AreStarts is ns → ArePcs bs ns
pcs_are is bs s [] h = tt
pcs_are is bs s (n ∷ ns) h = (pc_is is bs n s ∙ h.0, pcs_are is bs s ns h.1)

-- ---- exception entries

entry_over : (is : List Instr) (bs : List Block) (len : ℕ) (e : Handler) → StandFor bs is → IsAbove bs len → AreStarts is (places_of_handler len e) → IsHandlerOver bs e
entry_over is bs len e s up h = by_end (eqb e.end len) refl h where
  by_end : (t : Bool) → eqb e.end len ≡ t → AreStarts is (e.start ∷ cond t (e.handler ∷ []) (e.end ∷ e.handler ∷ [])) → IsHandlerOver bs e
  by_end true q k = record {
    start = pc_is is bs e.start s ∙ k.0;
    end = inr (subst (IsAbove bs) (sym (eqb-true e.end len q)) up);
    handler = pc_is is bs e.handler s ∙ k.1.0;
  }
  by_end false q k = record {
    start = pc_is is bs e.start s ∙ k.0;
    end = inl (pc_is is bs e.end s ∙ k.1.0);
    handler = pc_is is bs e.handler s ∙ k.1.1.0;
  }

entries_over : (is : List Instr) (bs : List Block) (len : ℕ) (hs : List Handler) → StandFor bs is → IsAbove bs len → AllByRecursion (λ h. AreStarts is (places_of_handler len h)) hs → AllByRecursion (IsHandlerOver bs) hs
entries_over is bs len [] s up h = tt
entries_over is bs len (e ∷ es) s up h = (entry_over is bs len e s up h.0, entries_over is bs len es s up h.1)

pub origin_is : OriginLaw
origin_is pool hs code is bs h s = record {
  ascend = ascend pool 0 0 code is bs (omega arith) h.holds h.instrs.each s;
  entries = entries_over is bs (length code) hs s (above (length code) is bs (subst (λ (n : ℕ). AllByRecursion (λ (i : Instr). i.pc < n) is) (omega arith) (pcs_below pool 0 code is h.holds h.instrs.each)) s) h.instrs.entries;
  pcs = pcs_are is bs s;
  each = all_shaped pool is h.instrs.each;
}
