-- The table of the places of blocks, as it fills.
use Rattle.std.proofs.Common.{◌≡◌, ℕ, zero, suc, ◌+◌, ◌<◌, ◌≤◌, ◌≢◌, Bool, true, false, eqb, List, [], ◌∷◌, length, get_or, set, drop, replicate, refl, sym, ap, subst, ◌∙◌, arith, get_or-set_same, get_or-set_other, length-set, eq-eqb, ltb, le-ltb, Option}
use Rattle.std.specs.Option.{unwrap_or}
use Rattle.std.proofs.lemmas.Bool.{eqb-true, ne_eqb, eqb-false, ltb-true, ltb-false}
use Rattle.std.proofs.lemmas.List.{length-replicate}
use Rattle.jmodel.specs.format.Relocation.{Block, all_instrs, behind, place_from, place_of, end_of, AscendFrom, IsAbove}
use Rattle.bytecode.specs.Within.{within}
use Rattle.bytecode.proofs.BlockLaws.{behind_block, here, end_over}

-- a pc below those of all blocks has no block
pub place_below : (m at : ℕ) (bs : List Block) (n : ℕ) → AscendFrom m bs → n < m → place_from at bs n ≡ behind at (all_instrs bs)
place_below m at [] n h lt = refl
place_below m at (b ∷ bs) n h lt =
    let ne : b.pc ≢ n = omega (arith, h.0) in
    let other : eqb b.pc n ≡ false = ne_eqb b.pc n ne in
    rw other (place_below (b.pc + 1) (behind at b.instrs) bs n h.1 (omega (arith, h.0)) ∙ sym (behind_block at b bs))

replicate_or : (len n a : ℕ) → get_or (replicate len a) n a ≡ a
replicate_or zero n a = refl
replicate_or (suc len) zero a = refl
replicate_or (suc len) (suc n) a = replicate_or len n a

-- the places of those blocks before rest are in the table
pub record IsFilled (bs rest : List Block) (starts : List ℕ) (end at : ℕ) : Type 0 where
  pub from : ℕ
  pub ascend : AscendFrom from rest
  pub below : (n : ℕ) → n < from → get_or starts n end ≡ place_of bs n
  pub above : (n : ℕ) → from ≤ n → (get_or starts n end ≡ end) × (place_from at rest n ≡ place_of bs n)
  pub so_far : behind at (all_instrs rest) ≡ end
  pub long : IsAbove rest (length starts)

pub filled_first : (bs : List Block) (starts : List ℕ) (len end : ℕ) → AscendFrom 0 bs → IsAbove bs len → end ≡ end_of bs → starts ≡ replicate len end → IsFilled bs bs starts end 0
filled_first bs starts len end h k e s = record {
  from = 0;
  ascend = h;
  below = λ n lt. absurd (omega arith);
  above = λ n le. (rw s (replicate_or len n end), refl);
  so_far = sym e;
  long = subst (IsAbove bs) (sym (ap length s ∙ length-replicate len end)) k;
}

pub filled_long : (bs rest : List Block) (b : Block) (starts : List ℕ) (end at : ℕ) → IsFilled bs (b ∷ rest) starts end at → b.pc < length starts
filled_long bs rest b starts end at h = h.long.0

pub filled_on : (bs rest : List Block) (b : Block) (starts : List ℕ) (end at after : ℕ) → IsFilled bs (b ∷ rest) starts end at → after ≡ behind at b.instrs → IsFilled bs rest (set starts b.pc at) end after
filled_on bs rest b starts end at after h e = record {
  from = b.pc + 1;
  ascend = h.ascend.1;
  below = below;
  above = above;
  so_far = so_far;
  long = subst (IsAbove rest) (sym (length-set starts b.pc at)) h.long.1;
} where
  total : behind (behind at b.instrs) (all_instrs rest) ≡ end
  total = sym (behind_block at b rest) ∙ h.so_far

  so_far : behind after (all_instrs rest) ≡ end
  so_far = rw e total

  steps : (n : ℕ) → n ≢ b.pc → place_from at (b ∷ rest) n ≡ place_from (behind at b.instrs) rest n
  steps n ne = let other : eqb b.pc n ≡ false = ne_eqb b.pc n (λ q. ne (sym q)) in rw other refl

  same : (n : ℕ) → n ≢ b.pc → get_or (set starts b.pc at) n end ≡ get_or starts n end
  same n ne = get_or-set_other starts b.pc n at end ne

  here : get_or (set starts b.pc at) b.pc end ≡ at
  here = get_or-set_same starts b.pc at end h.long.0

  own : place_from at (b ∷ rest) b.pc ≡ at
  own = let q : eqb b.pc b.pc ≡ true = eq-eqb b.pc b.pc refl in rw q refl

  above : (n : ℕ) → b.pc + 1 ≤ n → (get_or (set starts b.pc at) n end ≡ end) × (place_from after rest n ≡ place_of bs n)
  above n le =
      let ne : n ≢ b.pc = omega arith in
      let old = h.above n (omega (arith, h.ascend.0)) in
      (same n ne ∙ old.0, rw e (sym (steps n ne) ∙ old.1))

  below : (n : ℕ) → n < b.pc + 1 → get_or (set starts b.pc at) n end ≡ place_of bs n
  below n lt = by_own (eqb n b.pc) refl where
    by_from : (t : Bool) → ltb n h.from ≡ t → n ≢ b.pc → get_or (set starts b.pc at) n end ≡ place_of bs n
    by_from true q ne = same n ne ∙ h.below n (ltb-true n h.from q)
    by_from false q ne =
        let old = h.above n (ltb-false n h.from q) in
        let none : place_from (behind at b.instrs) rest n ≡ end = place_below (b.pc + 1) (behind at b.instrs) rest n h.ascend.1 lt ∙ total in
        same n ne ∙ old.0 ∙ sym none ∙ sym (steps n ne) ∙ old.1

    by_own : (t : Bool) → eqb n b.pc ≡ t → get_or (set starts b.pc at) n end ≡ place_of bs n
    by_own true q =
        let e = eqb-true n b.pc q in
        rw e (here ∙ sym own ∙ (h.above b.pc h.ascend.0).1)
    by_own false q = by_from (ltb n h.from) refl (eqb-false n b.pc q)

-- what the code does with a block in its loop
pub filled_next : (bs : List Block) (k : ℕ) (b : Block) (starts : List ℕ) (end at place : ℕ) (after : Option ℕ) → k < length bs → b ≡ get_or bs k b → end ≤ 65535 → place ≡ b.pc → after ≡ within (behind at b.instrs) → IsFilled bs (drop k bs) starts end at → IsFilled bs (drop (k + 1) bs) (set starts place at) end (unwrap_or after end)
filled_next bs k b starts end at place after lt e le same which h =
    let front : IsFilled bs (b ∷ drop (k + 1) bs) starts end at = subst (λ (xs : List Block). IsFilled bs xs starts end at) (here bs k b lt e) h in
    let over : behind at b.instrs ≤ end = end_over bs k b at end lt e h.so_far in
    let fits : ltb 65535 (behind at b.instrs) ≡ false = le-ltb 65535 (behind at b.instrs) (omega arith) in
    let goes : unwrap_or after end ≡ behind at b.instrs = rw (which, fits) refl in
    rw same (filled_on bs (drop (k + 1) bs) b starts end at (unwrap_or after end) front goes)

pub filled_last : (bs : List Block) (starts : List ℕ) (end at : ℕ) → IsFilled bs [] starts end at → (n : ℕ) → get_or starts n end ≡ place_of bs n
filled_last bs starts end at h n = by_from (ltb n h.from) refl where
  by_from : (t : Bool) → ltb n h.from ≡ t → get_or starts n end ≡ place_of bs n
  by_from true q = h.below n (ltb-true n h.from q)
  by_from false q = let old = h.above n (ltb-false n h.from q) in old.0 ∙ sym h.so_far ∙ old.1
