-- Code that grows by instructions, by blocks, and by the stub.
use Rattle.std.proofs.Common.{◌≡◌, ℕ, ◌+◌, ◌<◌, ◌≤◌, Bool, true, false, cond, ◌&&◌, List, [], ◌∷◌, ◌++◌, length, get_or, drop, Result, Ok, Err, refl, sym, ap, ◌∙◌, arith, pos, append_assoc, length-append, drop-cons, add-one, length-drop}
use Rattle.std.specs.List.{list_all}
use Rattle.std.proofs.lemmas.List.{append-nil, nil_from_length}
use Rattle.std.proofs.lemmas.List.Concat.{flat_map-cons}
use Rattle.jmodel.specs.declared.refusal.Refusal.{Refusal}
use Rattle.jmodel.specs.declared.refusal.Refusal.TheVariants.{BranchTooFar}
use Rattle.jmodel.specs.declared.instruction.Instr.{Instr}
use Rattle.jmodel.specs.format.Instruction.{text, code_text}
use Rattle.jmodel.specs.declared.refusal.Halt.{Halt}
use Rattle.jmodel.specs.declared.refusal.Halt.TheVariants as halts
use Rattle.jmodel.specs.format.Reading.{◌>>=◌, Fails}
use Rattle.const_pool.proofs.Takes.{ok_is}
use Rattle.jmodel.specs.format.Relocation.{Block, all_instrs, put_at, size_at, behind, retargeted, laid_to, reaches}
use Rattle.bytecode.specs.Places.{with_block, with_blocks, with_all}
use Rattle.bytecode.proofs.SizeLaws.{behind_over}
use Rattle.bytecode.proofs.BlockLaws.{behind_append, all_cons, here}
use Rattle.bytecode.proofs.MovedLaws.{size_same, code_long}

module _ (place : ℕ → ℕ) where
  abbrev pub placed : List ℕ → Instr → Instr
  placed out i = retargeted place (put_at (length out) i)

  -- ---- one instruction more

  pub longer : (out after : List ℕ) (i : Instr) → after ≡ out ++ text (placed out i) → length after ≡ length out + size_at (length out) i
  longer out after i e = ap length e ∙ length-append out (text (placed out i)) ∙ ap (λ n. length out + n) (size_same place (put_at (length out) i))

  glue : (a b c : Bool) (x y : List ℕ) (e : Refusal) → a ≡ true → b ≡ c → x ≡ y → cond b (Ok x) (Err e) ≡ cond (a && c) (Ok y) (Err e)
  glue a b c x y e p q r = rw (p, q, r) refl

  pub block_on : (pc : ℕ) (out after : List ℕ) (i : Instr) (is : List Instr) → reaches (placed out i) ≡ true → after ≡ out ++ text (placed out i) → with_block place pc after is ≡ with_block place pc out (i ∷ is)
  block_on pc out after i is r e =
      let at : ℕ = length out + size_at (length out) i in
      let rest : List Instr = laid_to place at is in
      let len = longer out after i e in
      let same : laid_to place (length after) is ≡ rest = ap (λ n. laid_to place n is) len in
      let parts : after ++ code_text (laid_to place (length after) is) ≡ out ++ code_text (placed out i ∷ rest) =
      rw (same, e) (append_assoc out (text (placed out i)) (code_text rest) ∙ ap (λ (xs : List ℕ). out ++ xs) (sym (flat_map-cons text (placed out i) rest))) in
      glue (reaches (placed out i)) (list_all reaches (laid_to place (length after) is)) (list_all reaches rest) (after ++ code_text (laid_to place (length after) is)) (out ++ code_text (placed out i ∷ rest)) (BranchTooFar [] (pos pc)) r (ap (list_all reaches) same) parts

  pub block_stop : (pc : ℕ) (out : List ℕ) (i : Instr) (is : List Instr) → reaches (placed out i) ≡ false → with_block place pc out (i ∷ is) ≡ Err (BranchTooFar [] (pos pc))
  block_stop pc out i is r = rw r refl

  pub block_end : (pc : ℕ) (out : List ℕ) → with_block place pc out [] ≡ Ok out
  block_end pc out = ap (λ (xs : List ℕ). Ok xs) (append-nil out)

  -- in a loop
  module _ (pc : ℕ) (out : List ℕ) (is : List Instr) (k : ℕ) (i : Instr) (total : Result (List ℕ) Refusal) where
    front : k < length is → i ≡ get_or is k i → drop k is ≡ i ∷ drop (k + 1) is
    front lt e = drop-cons is k i lt ∙ rw (← e, add-one) refl

    pub block_next : (after : List ℕ) → k < length is → i ≡ get_or is k i → reaches (placed out i) ≡ true → after ≡ out ++ text (placed out i) → with_block place pc out (drop k is) ≡ total → with_block place pc after (drop (k + 1) is) ≡ total
    block_next after lt e r a so_far = block_on pc out after i (drop (k + 1) is) r a ∙ ap (with_block place pc out) (sym (front lt e)) ∙ so_far

    pub block_halts : k < length is → i ≡ get_or is k i → reaches (placed out i) ≡ false → with_block place pc out (drop k is) ≡ total → total ≡ Err (BranchTooFar [] (pos pc))
    block_halts lt e r so_far = sym so_far ∙ ap (with_block place pc out) (front lt e) ∙ block_stop pc out i (drop (k + 1) is) r

    pub block_ends : length is ≤ k → with_block place pc out (drop k is) ≡ total → total ≡ Ok out
    block_ends le so_far =
        let none : drop k is ≡ [] = nil_from_length (drop k is) (omega (arith, length-drop k is)) in
        sym so_far ∙ ap (with_block place pc out) none ∙ block_end pc out

  -- ---- one block more

  pub block_long : (pc : ℕ) (out after : List ℕ) (is : List Instr) → with_block place pc out is ≡ Ok after → length after ≡ behind (length out) is
  block_long pc out after is e = by_test (list_all reaches (laid_to place (length out) is)) e where
    by_test : (b : Bool) → cond b (Ok (out ++ code_text (laid_to place (length out) is))) (Err (BranchTooFar [] (pos pc))) ≡ Ok after → length after ≡ behind (length out) is
    by_test true h =
        let same = ok_is (out ++ code_text (laid_to place (length out) is)) after h in
        ap length (sym same) ∙ length-append out (code_text (laid_to place (length out) is)) ∙ code_long place (length out) is
    by_test false h = absurd cc

  module _ (bs : List Block) (stub : List Instr) (k : ℕ) (b : Block) (out : List ℕ) where
    split : k < length bs → b ≡ get_or bs k b → all_instrs (drop k bs) ++ stub ≡ b.instrs ++ (all_instrs (drop (k + 1) bs) ++ stub)
    split lt e = ap (λ (xs : List Block). all_instrs xs ++ stub) (here bs k b lt e) ∙ ap (λ (xs : List Instr). xs ++ stub) (all_cons b (drop (k + 1) bs)) ∙ append_assoc b.instrs (all_instrs (drop (k + 1) bs)) stub

    parts : k < length bs → b ≡ get_or bs k b → behind (length out) (all_instrs (drop k bs) ++ stub) ≡ behind (behind (length out) b.instrs) (all_instrs (drop (k + 1) bs) ++ stub)
    parts lt e = ap (behind (length out)) (split lt e) ∙ behind_append (length out) b.instrs (all_instrs (drop (k + 1) bs) ++ stub)

    pub block_fits : (total : ℕ) → k < length bs → b ≡ get_or bs k b → behind (length out) (all_instrs (drop k bs) ++ stub) ≡ total → total ≤ 65535 → behind (length out) b.instrs ≤ 65535
    block_fits total lt e so_far le = omega (arith, parts lt e, behind_over (behind (length out) b.instrs) (all_instrs (drop (k + 1) bs) ++ stub))

    pub fits_on : (total : ℕ) (after : List ℕ) → k < length bs → b ≡ get_or bs k b → with_block place b.pc out b.instrs ≡ Ok after → behind (length out) (all_instrs (drop k bs) ++ stub) ≡ total → behind (length after) (all_instrs (drop (k + 1) bs) ++ stub) ≡ total
    fits_on total after lt e put so_far = rw (block_long b.pc out after b.instrs put) (sym (parts lt e) ∙ so_far)

    steps : (total : Result (List ℕ) Refusal) → k < length bs → b ≡ get_or bs k b → with_blocks place out (drop k bs) ≡ total → with_blocks place out (b ∷ drop (k + 1) bs) ≡ total
    steps total lt e so_far = ap (with_blocks place out) (sym (here bs k b lt e)) ∙ so_far

    pub blocks_on : (total : Result (List ℕ) Refusal) (after : List ℕ) → k < length bs → b ≡ get_or bs k b → with_block place b.pc out b.instrs ≡ Ok after → with_blocks place out (drop k bs) ≡ total → with_blocks place after (drop (k + 1) bs) ≡ total
    blocks_on total after lt e put so_far = ap (λ r. r >>= λ code. with_blocks place code (drop (k + 1) bs)) (sym put) ∙ steps total lt e so_far

    pub blocks_fail : (h : Halt) → k < length bs → b ≡ get_or bs k b → Fails h (with_block place b.pc out b.instrs) → with_blocks place out (drop k bs) ≡ with_blocks place [] bs → Fails h (with_all place bs stub)
    blocks_fail halts.NoMemory lt e failed so_far = tt
    blocks_fail (halts.Refused r) lt e failed so_far =
        let one : with_blocks place [] bs ≡ Err r = sym (steps (with_blocks place [] bs) lt e so_far) ∙ ap (λ r. r >>= λ code. with_blocks place code (drop (k + 1) bs)) failed in
        rw one refl

  -- what is behind the last block
  module _ (bs : List Block) (stub : List Instr) (k : ℕ) (out : List ℕ) where
    none_left : length bs ≤ k → drop k bs ≡ []
    none_left le = nil_from_length (drop k bs) (omega (arith, length-drop k bs))

    pub stub_fits : (total : ℕ) → length bs ≤ k → behind (length out) (all_instrs (drop k bs) ++ stub) ≡ total → behind (length out) stub ≡ total
    stub_fits total le so_far = ap (λ (xs : List Block). behind (length out) (all_instrs xs ++ stub)) (sym (none_left le)) ∙ so_far

    pub stub_left : length bs ≤ k → with_blocks place out (drop k bs) ≡ with_blocks place [] bs → with_all place bs stub ≡ with_block place 65535 out stub
    stub_left le so_far =
        let one : with_blocks place [] bs ≡ Ok out = sym so_far ∙ ap (with_blocks place out) (none_left le) in
        rw one refl
