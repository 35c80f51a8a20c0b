-- Blocks one behind the other, and where they stand.
use Rattle.std.proofs.Common.{◌≡◌, ℕ, zero, suc, ◌+◌, ◌-◌, ◌<◌, ◌≤◌, Bool, true, false, cond, ltb, List, [], ◌∷◌, ◌++◌, length, get_or, drop, Some, None, refl, sym, ap, subst, ◌∙◌, arith, drop-cons, add-one, lt-ltb, le-ltb, ltb-true, length-drop}
use Rattle.std.proofs.lemmas.Bool.{ltb-false}
use Rattle.std.proofs.lemmas.List.{nil_from_length}
use Rattle.std.proofs.lemmas.List.Concat.{flat_map-cons}
use Rattle.jmodel.specs.declared.instruction.Instr.{Instr}
use Rattle.jmodel.specs.format.Relocation.{Block, all_instrs, size_at, behind, end_of, AscendFrom, IsAbove}
use Rattle.bytecode.specs.Within.{within}
use Rattle.bytecode.specs.Places.{end_within}
use Rattle.bytecode.proofs.SizeLaws.{behind_over}

-- ---- places behind

pub behind_append : (at : ℕ) (xs ys : List Instr) → behind at (xs ++ ys) ≡ behind (behind at xs) ys
behind_append at [] ys = refl
behind_append at (x ∷ xs) ys = behind_append (at + size_at at x) xs ys

pub all_cons : (b : Block) (bs : List Block) → all_instrs (b ∷ bs) ≡ b.instrs ++ all_instrs bs
all_cons b bs = flat_map-cons (λ (b : Block). b.instrs) b bs

pub behind_block : (at : ℕ) (b : Block) (bs : List Block) → behind at (all_instrs (b ∷ bs)) ≡ behind (behind at b.instrs) (all_instrs bs)
behind_block at b bs = ap (behind at) (all_cons b bs) ∙ behind_append at b.instrs (all_instrs bs)

-- a place that code can have
pub within_some : (n m : ℕ) → Some n ≡ within m → (n ≡ m) × (m ≤ 65535)
within_some n m e = by_test (ltb 65535 m) refl e where
  by_test : (b : Bool) → ltb 65535 m ≡ b → Some n ≡ cond b None (Some m) → (n ≡ m) × (m ≤ 65535)
  by_test true q h = absurd cc
  by_test false q h = (cc, ltb-false 65535 m q)

pub within_none : (m : ℕ) → None ≡ within m → 65535 < m
within_none m e = by_test (ltb 65535 m) refl e where
  by_test : (b : Bool) → ltb 65535 m ≡ b → None ≡ cond b None (Some m) → 65535 < m
  by_test true q h = ltb-true 65535 m q
  by_test false q h = absurd cc

-- ---- loops over blocks

module _ (bs : List Block) (k : ℕ) (b : Block) where
  pub here : k < length bs → b ≡ get_or bs k b → drop k bs ≡ b ∷ drop (k + 1) bs
  here lt e = drop-cons bs k b lt ∙ rw (← e, add-one) refl

  pub end_on : (at total : ℕ) → k < length bs → b ≡ get_or bs k b → behind at (all_instrs (drop k bs)) ≡ total → behind (behind at b.instrs) (all_instrs (drop (k + 1) bs)) ≡ total
  end_on at total lt e so_far = sym (behind_block at b (drop (k + 1) bs)) ∙ ap (λ (xs : List Block). behind at (all_instrs xs)) (sym (here lt e)) ∙ so_far

  -- the end of one block is not behind the end of all
  pub end_over : (at total : ℕ) → k < length bs → b ≡ get_or bs k b → behind at (all_instrs (drop k bs)) ≡ total → behind at b.instrs ≤ total
  end_over at total lt e so_far = omega (arith, end_on at total lt e so_far, behind_over (behind at b.instrs) (all_instrs (drop (k + 1) bs)))

pub end_last : (bs : List Block) (k at total : ℕ) → length bs ≤ k → behind at (all_instrs (drop k bs)) ≡ total → at ≡ total
end_last bs k at total le so_far =
    let none : drop k bs ≡ [] = nil_from_length (drop k bs) (omega (arith, length-drop k bs)) in
    ap (λ (xs : List Block). behind at (all_instrs xs)) (sym none) ∙ so_far

-- ---- with the stub

module _ (bs : List Block) (stub : List Instr) where
  whole : behind 0 (all_instrs bs ++ stub) ≡ behind (end_of bs) stub
  whole = behind_append 0 (all_instrs bs) stub

  pub blocks_too_large : (n : ℕ) → n ≤ end_of bs → 65535 < n → None ≡ end_within bs stub
  blocks_too_large n le lt =
      let far : 65535 < behind 0 (all_instrs bs ++ stub) = omega (arith, whole, behind_over (end_of bs) stub) in
      rw (lt-ltb 65535 (behind 0 (all_instrs bs ++ stub)) far) refl

  pub stub_too_large : (n : ℕ) → n ≡ end_of bs → None ≡ within (behind n stub) → None ≡ end_within bs stub
  stub_too_large n e none =
      let far : 65535 < behind 0 (all_instrs bs ++ stub) = omega (arith, whole, within_none (behind (end_of bs) stub) (none ∙ ap (λ (k : ℕ). within (behind k stub)) e)) in
      rw (lt-ltb 65535 (behind 0 (all_instrs bs ++ stub)) far) refl

  pub both_fit : (n m : ℕ) → n ≡ end_of bs → Some m ≡ within (behind n stub) → Some n ≡ end_within bs stub
  both_fit n m e some =
      let fits : behind 0 (all_instrs bs ++ stub) ≤ 65535 = omega (arith, whole, (within_some m (behind (end_of bs) stub) (some ∙ ap (λ (k : ℕ). within (behind k stub)) e)).1) in
      rw (le-ltb 65535 (behind 0 (all_instrs bs ++ stub)) fits, e) refl

  pub fit_both : (n : ℕ) → Some n ≡ end_within bs stub → (n ≡ end_of bs) × (behind 0 (all_instrs bs ++ stub) ≤ 65535)
  fit_both n e = by_test (ltb 65535 (behind 0 (all_instrs bs ++ stub))) refl e where
    by_test : (b : Bool) → ltb 65535 (behind 0 (all_instrs bs ++ stub)) ≡ b → Some n ≡ cond b None (Some (end_of bs)) → (n ≡ end_of bs) × (behind 0 (all_instrs bs ++ stub) ≤ 65535)
    by_test true q h = absurd cc
    by_test false q h = (cc, ltb-false 65535 (behind 0 (all_instrs bs ++ stub)) q)

-- ---- pcs

pub above_more : (n m : ℕ) (bs : List Block) → n ≤ m → IsAbove bs n → IsAbove bs m
above_more n m [] le h = tt
above_more n m (b ∷ bs) le h = (omega (arith, h.0), above_more n m bs le h.1)

-- the last pc is the greatest
pub last_is_greatest : (n : ℕ) (bs : List Block) (i : ℕ) (d : Block) → i + 1 ≡ length bs → AscendFrom n bs → IsAbove bs ((get_or bs i d).pc + 1)
last_is_greatest n [] i d e h = tt
last_is_greatest n (b ∷ []) zero d e h = (omega arith, tt)
last_is_greatest n (b ∷ []) (suc i) d e h = absurd (omega arith)
last_is_greatest n (b ∷ c ∷ cs) zero d e h = absurd (omega arith)
last_is_greatest n (b ∷ c ∷ cs) (suc i) d e h =
    let rest = last_is_greatest (b.pc + 1) (c ∷ cs) i d (omega arith) h.1 in
    (omega (arith, rest.0, h.1.0), rest)

pub above_last : (bs : List Block) (b : Block) (n : ℕ) → AscendFrom 0 bs → 0 < length bs → b ≡ get_or bs (length bs - 1) b → n ≡ b.pc → IsAbove bs (n + 1)
above_last bs b n h lt e same =
    let last = last_is_greatest 0 bs (length bs - 1) b (omega arith) h in
    subst (λ (k : ℕ). IsAbove bs (k + 1)) (sym (ap (λ (x : Block). x.pc) e) ∙ sym same) last
