-- Exception entries that are moved keep the rules of exception entries.
use Rattle.std.proofs.Common.{◌≡◌, ℕ, ◌+◌, ◌<◌, ◌≤◌, Bool, true, false, ◌||◌, List, [], ◌∷◌, length, map, refl, ◌⊎◌, inl, inr, arith}
use Rattle.std.specs.Prelude.{◌==◌, if◌then◌else◌}
use Rattle.std.specs.List.{AllByRecursion}
use Rattle.std.proofs.lemmas.Bool.Decides.{Decides-eqb}
use Rattle.jmodel.specs.declared.class_file.Handler.{Handler}
use Rattle.jmodel.specs.declared.instruction.Instr.{Instr}
use Rattle.jmodel.specs.format.ClassFile.{Pool}
use Rattle.jmodel.specs.format.ClassRules.{IsHandler}
use Rattle.jmodel.specs.format.Relocation.{Block, all_instrs, behind, size_at, place_from, place_of, end_of, moved, is_pc, AscendFrom, IsAbove, IsHandlerOver, IsShaped, EachInstr}
use Rattle.bytecode.specs.Relocated.{HaveInstrs}
use Rattle.bytecode.proofs.BlockLaws.{behind_block}
use Rattle.bytecode.proofs.SizeLaws.{behind_over}
use Rattle.bytecode.proofs.LaidLaws.{some_size, place_over}
use Rattle.member_code.proofs.Grown.{Grown}
use Rattle.rewritten_form.proofs.StillForms.{class_still}

pub behind_some : (at : ℕ) (is : List Instr) → AllByRecursion IsShaped is → 0 < length is → at < behind at is
behind_some at [] h some = absurd (omega arith)
behind_some at (i ∷ is) h some = omega (arith, some_size at i h.0, behind_over (at + size_at at i) is)

-- a place is no less than the first
place_under : (at : ℕ) (bs : List Block) (pc : ℕ) → at ≤ place_from at bs pc
place_under at [] pc = omega arith
place_under at (b ∷ bs) pc = go (b.pc == pc) (behind_over at b.instrs) (place_under (behind at b.instrs) bs pc)
  where
    go : (x : Bool) → at ≤ behind at b.instrs → behind at b.instrs ≤ place_from (behind at b.instrs) bs pc → at ≤ (if x then at else place_from (behind at b.instrs) bs pc)
    go true l m = omega arith
    go false l m = omega (arith, l, m)

-- a block's pc is no less than the first may be
pc_under : (n : ℕ) (bs : List Block) (pc : ℕ) → AscendFrom n bs → is_pc bs pc ≡ true → n ≤ pc
pc_under n [] pc h e = cc
pc_under n (b ∷ bs) pc h e = go (b.pc == pc) refl e (λ t. pc_under (b.pc + 1) bs pc h.1 t)
  where
    go : (x : Bool) → (b.pc == pc) ≡ x → (x || is_pc bs pc) ≡ true → (is_pc bs pc ≡ true → b.pc + 1 ≤ pc) → n ≤ pc
    go true q t more = let same = (Decides-eqb b.pc pc).0 q in let l = h.0 in omega (arith, same, l)
    go false q t more = let l = h.0 in omega (arith, l, more t)

-- a place of a block is before the end
pub place_inside : (at : ℕ) (bs : List Block) (pc : ℕ) → HaveInstrs bs → EachInstr IsShaped bs → is_pc bs pc ≡ true → place_from at bs pc < behind at (all_instrs bs)
place_inside at [] pc some shaped e = cc
place_inside at (b ∷ bs) pc some shaped e = go (b.pc == pc) refl e (λ t. place_inside (behind at b.instrs) bs pc some.1 shaped.1 t)
  where
    go : (x : Bool) → (b.pc == pc) ≡ x → (x || is_pc bs pc) ≡ true → (is_pc bs pc ≡ true → place_from (behind at b.instrs) bs pc < behind (behind at b.instrs) (all_instrs bs)) → place_from at (b ∷ bs) pc < behind at (all_instrs (b ∷ bs))
    go true q t more =
        let here : place_from at (b ∷ bs) pc ≡ at = rw q refl in
        omega (arith, here, behind_block at b bs, behind_some at b.instrs shaped.0 some.0, behind_over (behind at b.instrs) (all_instrs bs))
    go false q t more =
        let here : place_from at (b ∷ bs) pc ≡ place_from (behind at b.instrs) bs pc = rw q refl in
        omega (arith, here, behind_block at b bs, more t)

-- a pc of a block, or one above all
abbrev pub IsEnd : List Block → ℕ → Type 0
IsEnd bs pc = (is_pc bs pc ≡ true) ⊎ IsAbove bs pc

-- of places of blocks the later is greater
pub place_less : (n at : ℕ) (bs : List Block) (first last : ℕ) → AscendFrom n bs → HaveInstrs bs → EachInstr IsShaped bs → is_pc bs first ≡ true → IsEnd bs last → first < last → place_from at bs first < place_from at bs last
place_less n at [] first last up some shaped e f l = cc
place_less n at (b ∷ bs) first last up some shaped e f l = go (b.pc == first) refl (b.pc == last) refl e (λ t g. place_less (b.pc + 1) (behind at b.instrs) bs first last up.1 some.1 shaped.1 t g l)
  where
    rest : (b.pc == last) ≡ false → IsEnd bs last
    rest q = elim f [ inl t ↦ inl (skip (b.pc == last) q t) | inr a ↦ inr a.1 ]
      where
        skip : (x : Bool) → x ≡ false → (x || is_pc bs last) ≡ true → is_pc bs last ≡ true
        skip true q t = cc
        skip false q t = t

    go : (x : Bool) → (b.pc == first) ≡ x → (y : Bool) → (b.pc == last) ≡ y → (x || is_pc bs first) ≡ true
        → (is_pc bs first ≡ true → IsEnd bs last → place_from (behind at b.instrs) bs first < place_from (behind at b.instrs) bs last) → place_from at (b ∷ bs) first < place_from at (b ∷ bs) last
    go true q true r t more = let same = (Decides-eqb b.pc first).0 q in let also = (Decides-eqb b.pc last).0 r in absurd (omega (arith, same, also, l))
    go true q false r t more =
        let here : place_from at (b ∷ bs) first ≡ at = rw q refl in
        let there : place_from at (b ∷ bs) last ≡ place_from (behind at b.instrs) bs last = rw r refl in
        omega (arith, here, there, behind_some at b.instrs shaped.0 some.0, place_under (behind at b.instrs) bs last)
    go false q true r t more = let also = (Decides-eqb b.pc last).0 r in absurd (omega (arith, also, l, pc_under (b.pc + 1) bs first up.1 t))
    go false q false r t more =
        let here : place_from at (b ∷ bs) first ≡ place_from (behind at b.instrs) bs first = rw q refl in
        let there : place_from at (b ∷ bs) last ≡ place_from (behind at b.instrs) bs last = rw r refl in
        omega (arith, here, there, more t (rest r))

-- ---- entries

module _ (a Z : Pool) (G : Grown a Z) (bs : List Block) (up : AscendFrom 0 bs) (some : HaveInstrs bs) (shaped : EachInstr IsShaped bs) (old len : ℕ) (long : end_of bs ≤ len) where
  moved_rules : (h : Handler) → IsHandler a old h → IsHandlerOver bs h → IsHandler Z len (moved (place_of bs) h)
  moved_rules h r o = record {
    some = place_less 0 0 bs h.start h.end up some shaped o.start o.end r.some;
    inside = omega (arith, place_over 0 bs h.end, long);
    target = omega (arith, place_inside 0 bs h.handler some shaped o.handler, long);
    catches = elim r.catches [ inl z ↦ inl z | inr s ↦ inr (class_still a Z G h.catch_type s) ];
    class = r.class;
  }

  pub all_moved : (hs : List Handler) → AllByRecursion (IsHandler a old) hs → AllByRecursion (IsHandlerOver bs) hs → AllByRecursion (IsHandler Z len) (map (moved (place_of bs)) hs)
  all_moved [] h o = tt
  all_moved (x ∷ hs) h o = (moved_rules x h.0 o.0, all_moved hs h.1 o.1)
