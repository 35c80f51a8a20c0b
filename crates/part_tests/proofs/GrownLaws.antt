-- Blocks of instructions with nops before them, of which tests make code.
use Rattle.std.proofs.Common.{◌≡◌, ℕ, zero, suc, ◌+◌, ◌<◌, ◌≤◌, List, [], ◌∷◌, ◌++◌, length, get_or, take, replicate, Option, sym, ap, subst, ◌∙◌, arith}
use Rattle.std.specs.List.{AllByRecursion}
use Rattle.std.proofs.lemmas.List.{take_more, take_all}
use Rattle.jmodel.specs.declared.class_file.Handler.{Handler}
use Rattle.jmodel.specs.declared.instruction.Operands.TheVariants.{Nothing}
use Rattle.jmodel.specs.declared.instruction.Instr.{Instr}
use Rattle.jmodel.specs.format.ClassFile.{Pool as Entries}
use Rattle.jmodel.specs.format.Instruction.{targets_of, AreStarts, SpellsInstrs}
use Rattle.jmodel.specs.format.Relocation.{Block, IsShaped, EachInstr, ArePcs, HasRoom, AreBlocks}
use Rattle.bytecode.specs.Relocated.{StandFor}
use Rattle.bytecode.proofs.OriginLaws.{origin_is}

abbrev pub nop : Instr
nop = record { pc = 0; op = 0; operands = Nothing }

pub record IsGrown (b : Block) (i : Instr) : Type 0 where
  pub pc : b.pc ≡ i.pc
  pub nops : ℕ
  pub instrs : b.instrs ≡ replicate nops nop ++ i ∷ []

abbrev pub AreGrown : List Block → List Instr → Type 0
AreGrown [] [] = Unit {0}
AreGrown (b ∷ bs) (i ∷ is) = IsGrown b i × AreGrown bs is
AreGrown bs is = ⊥

pub grown_push : (bs : List Block) (is : List Instr) (b : Block) (i : Instr) → AreGrown bs is → IsGrown b i → AreGrown (bs ++ b ∷ []) (is ++ i ∷ [])
grown_push [] [] b i h g = (g, tt)
grown_push [] (j ∷ is) b i h g = absurd h
grown_push (c ∷ bs) [] b i h g = absurd h
grown_push (c ∷ bs) (j ∷ is) b i h g = (h.0, grown_push bs is b i h.1 g)

stand : (bs : List Block) (is : List Instr) → AreGrown bs is → StandFor bs is
stand [] [] h = tt
stand [] (i ∷ is) h = absurd h
stand (b ∷ bs) [] h = absurd h
stand (b ∷ bs) (i ∷ is) h = (h.0.pc, stand bs is h.1)

nops_are : (P : Instr → Type 0) (n : ℕ) (i : Instr) → P nop → P i → AllByRecursion P (replicate n nop ++ i ∷ [])
nops_are P zero i h k = (k, tt)
nops_are P (suc n) i h k = (h, nops_are P n i h k)

each_grown : (P : Instr → Type 0) (bs : List Block) (is : List Instr) → P nop → AreGrown bs is → AllByRecursion P is → EachInstr P bs
each_grown P [] [] h g k = tt
each_grown P [] (i ∷ is) h g k = absurd g
each_grown P (b ∷ bs) [] h g k = absurd g
each_grown P (b ∷ bs) (i ∷ is) h g k = (subst (AllByRecursion P) (sym g.0.instrs) (nops_are P g.0.nops i h k.0), each_grown P bs is h g.1 k.1)

each_pcs : (bs : List Block) (all is : List Instr) → ((ns : List ℕ) → AreStarts all ns → ArePcs bs ns) → AllByRecursion (λ (i : Instr). AreStarts all (targets_of i.operands)) is → AllByRecursion (λ (i : Instr). ArePcs bs (targets_of i.operands)) is
each_pcs bs all [] h k = tt
each_pcs bs all (i ∷ is) h k = (h (targets_of i.operands) k.0, each_pcs bs all is h k.1)

nop_shaped : IsShaped nop
nop_shaped = record { op = omega arith; operands = tt }

pub grown_blocks : (pool : Entries) (hs : List Handler) (code : List ℕ) (is : List Instr) (bs : List Block) (first : Option ℕ) (stub : List Instr) → SpellsInstrs pool hs code is → AreGrown bs is → HasRoom first hs → AllByRecursion IsShaped stub → AllByRecursion (λ (i : Instr). targets_of i.operands ≡ []) stub → AreBlocks bs hs first stub
grown_blocks pool hs code is bs first stub h g room last nowhere =
    let o = origin_is pool hs code is bs h (stand bs is g) in
    record {
      ascend = o.ascend;
      each = each_grown IsShaped bs is nop_shaped g o.each;
      targets = each_grown (λ (i : Instr). ArePcs bs (targets_of i.operands)) bs is tt g (each_pcs bs is is o.pcs h.instrs.targets);
      each_last = last;
      last_leads_nowhere = nowhere;
      entries = o.entries;
      room = room;
    }

pub grown_next : (bs after : List Block) (is : List Instr) (k : ℕ) (b : Block) (i : Instr) → k < length is → i ≡ get_or is k i → after ≡ bs ++ b ∷ [] → AreGrown bs (take k is) → IsGrown b i → AreGrown after (take (k + 1) is)
grown_next bs after is k b i lt e a h g =
    let more : take (k + 1) is ≡ take k is ++ i ∷ [] = take_more is k i lt ∙ ap (λ (x : Instr). take k is ++ x ∷ []) (sym e) in
    rw (a, more) (grown_push bs (take k is) b i h g)

pub grown_end : (bs : List Block) (is all : List Instr) (k : ℕ) → length is ≤ k → is ≡ all → AreGrown bs (take k is) → AreGrown bs all
grown_end bs is all k le e h = subst (AreGrown bs) (take_all k is le ∙ e) h
