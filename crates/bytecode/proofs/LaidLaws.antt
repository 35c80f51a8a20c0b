-- What was laid keeps the rule, and leads to where its blocks stand.
use Rattle.std.proofs.Common.{◌≡◌, ℕ, suc, ◌+◌, ◌^◌, ◌<◌, ◌≤◌, ◌≢◌, Bool, true, false, cond, ◌||◌, eqb, ltb, ℤ, List, [], ◌∷◌, ◌++◌, length, map, Option, Some, None, Ok, Err, refl, sym, ap, subst, ◌∙◌, ◌⊎◌, inl, inr, arith, append_assoc, length-append, eq-eqb, lt-ltb}
use Rattle.std.specs.List.{list_all, AllByRecursion, position, position_or_len}
use Rattle.std.proofs.lemmas.Bool.{eqb-false, ne_eqb, ltb-false}
use Rattle.std.proofs.lemmas.List.Folds.{list_all-append}
use Rattle.jmodel.specs.declared.class_file.Handler.{Handler}
use Rattle.jmodel.specs.declared.refusal.Refusal.TheVariants.{CodeTooLarge}
use Rattle.jmodel.specs.declared.instruction.EntryKind.{EntryKind}
use Rattle.jmodel.specs.declared.instruction.EntryKind.TheVariants as kind
use Rattle.jmodel.specs.declared.instruction.Form.{Form}
use Rattle.jmodel.specs.declared.instruction.Form.TheVariants as form
use Rattle.jmodel.specs.declared.instruction.Operands.{Operands}
use Rattle.jmodel.specs.declared.instruction.Operands.TheVariants.{Pool, Interface, Dimensions, Target, Table, Lookup}
use Rattle.jmodel.specs.declared.instruction.Instr.{Instr}
use Rattle.jmodel.specs.format.ClassFile.{Pool as Entries}
use Rattle.jmodel.specs.format.Instruction.{form_of, zeros, text_as, code_text, Names, Counts, FitPoolAs, IsInstr, IsInstrOver, targets_of, is_start, AreInOrder, Holds, places_of_handler, AreStarts}
use Rattle.jmodel.specs.format.Relocation.{Block, all_instrs, put_at, size_at, behind, place_from, place_of, end_of, retarget, retargeted, laid_to, relocated, reaches, far_block, moved, first_entry, moved_handlers, laid_out, relocate, IsShapedAs, IsShaped, is_pc, ArePcs, IsAbove, EachInstr, IsHandlerOver, AreBlocks}
use Rattle.const_pool.proofs.Entries.{both_true}
use Rattle.const_pool.proofs.Takes.{ok_is}
use Rattle.bytecode.specs.Places.{LeadsInside}
use Rattle.bytecode.specs.Relocated.{AreLaid, LaidLaw, Fits, HaveInstrs, HasStub, SpelledLaw, number_of, PlaceLaw}
use Rattle.bytecode.proofs.SizeLaws.{behind_over}
use Rattle.bytecode.proofs.BlockLaws.{behind_append, behind_block, all_cons}
use Rattle.bytecode.proofs.MovedLaws.{size_same, moved_is_instr}
use Rattle.bytecode.proofs.RelocationLaws.{laid_append, whole_long, stub_reaches}
use Rattle.bytecode.proofs.CodeLaws.{text_holds}

-- ---- parts of lists

pub join_all : {X : Type 0} (P : X → Type 0) (xs ys : List X) → AllByRecursion P xs → AllByRecursion P ys → AllByRecursion P (xs ++ ys)
join_all P [] ys h k = k
join_all P (x ∷ xs) ys h k = (h.0, join_all P xs ys h.1 k)

pub all_of_blocks : (P : Instr → Type 0) (bs : List Block) → EachInstr P bs → AllByRecursion P (all_instrs bs)
all_of_blocks P [] h = tt
all_of_blocks P (b ∷ bs) h = subst (AllByRecursion P) (sym (all_cons b bs)) (join_all P b.instrs (all_instrs bs) h.0 (all_of_blocks P bs h.1))

-- ---- sizes

by_some : (i : Instr) (f : Option Form) → IsShapedAs f i.operands → 0 < length (text_as f (zeros i.pc) i)
by_some i None h = absurd h
by_some i (Some f) h = omega arith

pub some_size : (at : ℕ) (i : Instr) → IsShaped i → 0 < size_at at i
some_size at i h = by_some (put_at at i) (form_of i.op) h.operands

-- ---- where blocks stand

pub place_over : (at : ℕ) (bs : List Block) (pc : ℕ) → place_from at bs pc ≤ behind at (all_instrs bs)
place_over at [] pc = omega arith
place_over at (b ∷ bs) pc = by_test (eqb b.pc pc) (place_over (behind at b.instrs) bs pc) where
  by_test : (t : Bool) → place_from (behind at b.instrs) bs pc ≤ behind (behind at b.instrs) (all_instrs bs) → cond t at (place_from (behind at b.instrs) bs pc) ≤ behind at (all_instrs (b ∷ bs))
  by_test true others = behind_over at (all_instrs (b ∷ bs))
  by_test false others = omega (arith, others, behind_block at b bs)

-- the instructions before the block of a pc, and the others
pub record IsCut (at : ℕ) (bs : List Block) (pc : ℕ) : Type 0 where
  pub before : List Instr
  pub rest : List Instr
  pub whole : all_instrs bs ≡ before ++ rest
  pub count : length before ≡ number_of bs pc
  pub place : place_from at bs pc ≡ behind at before

pub cut : (at : ℕ) (bs : List Block) (pc : ℕ) → IsCut at bs pc
cut at [] pc = record { before = []; rest = []; whole = refl; count = refl; place = refl }
cut at (b ∷ bs) pc = by_test (eqb b.pc pc) refl (cut (behind at b.instrs) bs pc) where
  by_test : (t : Bool) → eqb b.pc pc ≡ t → IsCut (behind at b.instrs) bs pc → IsCut at (b ∷ bs) pc
  by_test true q c = record { before = []; rest = all_instrs (b ∷ bs); whole = refl; count = rw q refl; place = rw q refl }
  by_test false q c = record {
    before = b.instrs ++ c.before;
    rest = c.rest;
    whole = all_cons b bs ∙ ap (λ (is : List Instr). b.instrs ++ is) c.whole ∙ sym (append_assoc b.instrs c.before c.rest);
    count = rw q (length-append b.instrs c.before ∙ ap (λ n. length b.instrs + n) c.count);
    place = rw q (c.place ∙ sym (behind_append at b.instrs c.before));
  }

module _ (place : ℕ → ℕ) where
  abbrev stands : ℕ → Instr → Bool
  stands n i = eqb i.pc n

  -- the first instruction behind others stands at the place behind them
  pub found : (at : ℕ) (xs : List Instr) (y : Instr) (ys : List Instr) → AllByRecursion IsShaped xs → position_or_len (stands (behind at xs)) (laid_to place at (xs ++ y ∷ ys)) ≡ length xs
  found at [] y ys h = let q : eqb at at ≡ true = eq-eqb at at refl in rw q refl
  found at (x ∷ xs) y ys h =
      let ne : at ≢ behind (at + size_at at x) xs = omega (arith, some_size at x h.0, behind_over (at + size_at at x) xs) in
      let q : eqb at (behind (at + size_at at x) xs) ≡ false = ne_eqb at (behind (at + size_at at x) xs) ne in
      let rest = found (at + size_at at x) xs y ys h.1 in
      rw (q, rest) (omega arith)

  or_true : (b : Bool) → (b || true) ≡ true
  or_true true = refl
  or_true false = refl

  pub starts : (at : ℕ) (xs : List Instr) (y : Instr) (ys : List Instr) → is_start (laid_to place at (xs ++ y ∷ ys)) (behind at xs) ≡ true
  starts at [] y ys = let q : eqb at at ≡ true = eq-eqb at at refl in rw q refl
  starts at (x ∷ xs) y ys = rw (starts (at + size_at at x) xs y ys) (or_true (eqb at (behind (at + size_at at x) xs)))

  -- ---- the rule

  leads_inside : ((n : ℕ) → place n < 2 ^ 16) → (o : Operands) → LeadsInside (retarget place o)
  leads_inside h (Target t) = h t
  leads_inside h o = tt

  pub instrs_are : ((n : ℕ) → place n < 2 ^ 16) → (at : ℕ) (is : List Instr) → behind at is ≤ 65535 → AllByRecursion IsShaped is → list_all reaches (laid_to place at is) ≡ true → AllByRecursion IsInstr (laid_to place at is)
  instrs_are inside at [] le h r = tt
  instrs_are inside at (i ∷ is) le h r =
      let b = both_true (reaches (retargeted place (put_at at i))) (list_all reaches (laid_to place (at + size_at at i) is)) r in
      let low : at < 2 ^ 16 = omega (arith, behind_over (at + size_at at i) is) in
      (moved_is_instr place at i low h.0 (leads_inside inside i.operands) b.0, instrs_are inside (at + size_at at i) is le h.1 b.1)

  pub in_order : (at : ℕ) (is : List Instr) → AreInOrder at (laid_to place at is)
  in_order at [] = tt
  in_order at (i ∷ is) = (refl, subst (λ (n : ℕ). AreInOrder (at + n) (laid_to place (at + size_at at i) is)) (sym (size_same place (put_at at i))) (in_order (at + size_at at i) is))

  pub all_reach : (at : ℕ) (bs : List Block) → far_block place at bs ≡ None → list_all reaches (laid_to place at (all_instrs bs)) ≡ true
  all_reach at [] e = refl
  all_reach at (b ∷ bs) e = by_test (list_all reaches (laid_to place at b.instrs)) refl e (all_reach (behind at b.instrs) bs) where
    by_test : (t : Bool) → list_all reaches (laid_to place at b.instrs) ≡ t → cond t (far_block place (behind at b.instrs) bs) (Some b.pc) ≡ None → (far_block place (behind at b.instrs) bs ≡ None → list_all reaches (laid_to place (behind at b.instrs) (all_instrs bs)) ≡ true) → list_all reaches (laid_to place at (all_instrs (b ∷ bs))) ≡ true
    by_test true q k others =
        let parts : laid_to place at (all_instrs (b ∷ bs)) ≡ laid_to place at b.instrs ++ laid_to place (behind at b.instrs) (all_instrs bs) = ap (laid_to place at) (all_cons b bs) ∙ laid_append place at b.instrs (all_instrs bs) in
        ap (list_all reaches) parts ∙ list_all-append reaches (laid_to place at b.instrs) (laid_to place (behind at b.instrs) (all_instrs bs)) ∙ rw (q, others k) refl
    by_test false q k others = absurd cc

  -- ---- over a pool

  names_same : (pool : Entries) (k : EntryKind) (o : Operands) → Names pool k o → Names pool k (retarget place o)
  names_same pool k (Pool i) h = h
  names_same pool k (Dimensions i count) h = h
  names_same pool k o h = absurd h

  counts_same : (pool : Entries) (o : Operands) → Counts pool o → Counts pool (retarget place o)
  counts_same pool (Interface i count) h = h
  counts_same pool o h = absurd h

  fits_same : (pool : Entries) (f : Option Form) (o : Operands) → FitPoolAs pool f o → FitPoolAs pool f (retarget place o)
  fits_same pool None o h = absurd h
  fits_same pool (Some (form.ShortEntry k)) o h = names_same pool k o h
  fits_same pool (Some (form.Entry k)) o h = names_same pool k o h
  fits_same pool (Some form.Interface) o h = counts_same pool o h
  fits_same pool (Some form.Dimensions) o h = names_same pool kind.Class o h
  fits_same pool (Some f) o h = h

  pub all_over : (pool : Entries) (at : ℕ) (is : List Instr) → AllByRecursion (Fits pool) is → AllByRecursion IsInstr (laid_to place at is) → AllByRecursion (IsInstrOver pool) (laid_to place at is)
  all_over pool at [] h k = tt
  all_over pool at (i ∷ is) h k = (record { instr = k.0; entry = fits_same pool (form_of i.op) i.operands h.0 }, all_over pool (at + size_at at i) is h.1 k.1)

  -- ---- targets

  firsts_same : (ps : List (ℤ × ℕ)) → map (λ (p : ℤ × ℕ). p.1) (map (λ (p : ℤ × ℕ). (p.0, place p.1)) ps) ≡ map place (map (λ (p : ℤ × ℕ). p.1) ps)
  firsts_same [] = refl
  firsts_same (p ∷ ps) = ap (λ (ns : List ℕ). place p.1 ∷ ns) (firsts_same ps)

  targets_same : (o : Operands) → targets_of (retarget place o) ≡ map place (targets_of o)
  targets_same (Target t) = refl
  targets_same (Table other low ts) = refl
  targets_same (Lookup other ps) = ap (λ (ns : List ℕ). place other ∷ ns) (firsts_same ps)
  targets_same o = refl

  pub all_lead : (all : List Instr) (at : ℕ) (is : List Instr) → AllByRecursion (λ (i : Instr). AreStarts all (map place (targets_of i.operands))) is → AllByRecursion (λ (i : Instr). AreStarts all (targets_of i.operands)) (laid_to place at is)
  all_lead all at [] h = tt
  all_lead all at (i ∷ is) h = (subst (AreStarts all) (sym (targets_same i.operands)) h.0, all_lead all (at + size_at at i) is h.1)

  pub laid_length : (at : ℕ) (is : List Instr) → length (laid_to place at is) ≡ length is
  laid_length at [] = refl
  laid_length at (i ∷ is) = ap (λ n. suc n) (laid_length (at + size_at at i) is)

pub nowhere_lead : (all : List Instr) (place : ℕ → ℕ) (is : List Instr) → AllByRecursion (λ (i : Instr). targets_of i.operands ≡ []) is → AllByRecursion (λ (i : Instr). AreStarts all (map place (targets_of i.operands))) is
nowhere_lead all place [] h = tt
nowhere_lead all place (i ∷ is) h = (subst (λ (ns : List ℕ). AreStarts all (map place ns)) (sym h.0) tt, nowhere_lead all place is h.1)

-- ---- what was done

pub record IsDone (bs : List Block) (hs : List Handler) (first : Option ℕ) (stub : List Instr) (code : List ℕ) (moved : List Handler) : Type 0 where
  pub fits : behind 0 (all_instrs bs ++ stub) ≤ 65535
  pub near : far_block (place_of bs) 0 bs ≡ None
  pub spelled : code ≡ code_text (relocated bs stub)
  pub entries : moved ≡ moved_handlers bs hs first

module _ (bs : List Block) (hs : List Handler) (first : Option ℕ) (stub : List Instr) where
  pub done : (code : List ℕ) (moved : List Handler) → relocate bs hs first stub ≡ Ok (code, moved) → IsDone bs hs first stub code moved
  done code moved e = by_size (ltb 65535 (length (code_text (relocated bs stub)))) refl e where
    by_far : (o : Option ℕ) → far_block (place_of bs) 0 bs ≡ o → behind 0 (all_instrs bs ++ stub) ≤ 65535 → laid_out o bs hs first stub ≡ Ok (code, moved) → IsDone bs hs first stub code moved
    by_far None q fits k =
        let same = ok_is (code_text (relocated bs stub), moved_handlers bs hs first) (code, moved) k in
        record { fits = fits; near = q; spelled = sym (ap (λ (x : List ℕ × List Handler). x.0) same); entries = sym (ap (λ (x : List ℕ × List Handler). x.1) same) }
    by_far (Some pc) q fits k = absurd cc

    by_size : (t : Bool) → ltb 65535 (length (code_text (relocated bs stub))) ≡ t → cond t (Err (CodeTooLarge [])) (laid_out (far_block (place_of bs) 0 bs) bs hs first stub) ≡ Ok (code, moved) → IsDone bs hs first stub code moved
    by_size true q k = absurd cc
    by_size false q k =
        let fits : behind 0 (all_instrs bs ++ stub) ≤ 65535 = omega (arith, whole_long bs stub, ltb-false 65535 (length (code_text (relocated bs stub))) q) in
        by_far (far_block (place_of bs) 0 bs) refl fits k

  place_small : behind 0 (all_instrs bs ++ stub) ≤ 65535 → (n : ℕ) → place_of bs n < 2 ^ 16
  place_small le n = omega (arith, le, place_over 0 bs n, behind_append 0 (all_instrs bs) stub, behind_over (behind 0 (all_instrs bs)) stub)

  pub laid_keeps : (code : List ℕ) (moved : List Handler) → AreBlocks bs hs first stub → IsDone bs hs first stub code moved → AreLaid code (relocated bs stub)
  laid_keeps code moved h d =
      let shaped = join_all IsShaped (all_instrs bs) stub (all_of_blocks IsShaped bs h.each) h.each_last in
      let reach : list_all reaches (relocated bs stub) ≡ true =
      ap (list_all reaches) (laid_append (place_of bs) 0 (all_instrs bs) stub)
      ∙ list_all-append reaches (laid_to (place_of bs) 0 (all_instrs bs)) (laid_to (place_of bs) (behind 0 (all_instrs bs)) stub)
      ∙ rw (all_reach (place_of bs) 0 bs d.near, stub_reaches (place_of bs) (behind 0 (all_instrs bs)) stub h.last_leads_nowhere) refl in
      record {
        each = instrs_are (place_of bs) (place_small d.fits) 0 (all_instrs bs ++ stub) d.fits shaped reach;
        order = in_order (place_of bs) 0 (all_instrs bs ++ stub);
        spelled = d.spelled;
      }

pub laid_is : LaidLaw
laid_is bs hs first stub code moved h e = laid_keeps bs hs first stub code moved h (done bs hs first stub code moved e)

-- ---- places

pub number_small : (bs : List Block) (pc : ℕ) → HaveInstrs bs → is_pc bs pc ≡ true → number_of bs pc < length (all_instrs bs)
number_small [] pc h e = absurd cc
number_small (b ∷ bs) pc h e = by_test (eqb b.pc pc) e (number_small bs pc h.1) where
  len : length (all_instrs (b ∷ bs)) ≡ length b.instrs + length (all_instrs bs)
  len = ap length (all_cons b bs) ∙ length-append b.instrs (all_instrs bs)

  by_test : (t : Bool) → (t || is_pc bs pc) ≡ true → (is_pc bs pc ≡ true → number_of bs pc < length (all_instrs bs)) → cond t 0 (length b.instrs + number_of bs pc) < length (all_instrs (b ∷ bs))
  by_test true k others = omega (arith, len, h.0)
  by_test false k others = omega (arith, len, others k)

module _ (bs : List Block) (stub : List Instr) where
  parts : (pc : ℕ) (c : IsCut 0 bs pc) → all_instrs bs ++ stub ≡ c.before ++ (c.rest ++ stub)
  parts pc c = ap (λ (is : List Instr). is ++ stub) c.whole ∙ append_assoc c.before c.rest stub

  -- an instruction stands where a pc leads to
  pub leads : (pc : ℕ) → number_of bs pc < length (all_instrs bs ++ stub) → is_start (relocated bs stub) (place_of bs pc) ≡ true
  leads pc lt = by_rest (c.rest ++ stub) (parts pc c) where
    c : IsCut 0 bs pc
    c = cut 0 bs pc

    by_rest : (ys : List Instr) → all_instrs bs ++ stub ≡ c.before ++ ys → is_start (relocated bs stub) (place_of bs pc) ≡ true
    by_rest [] e = absurd (omega (arith, lt, ap length e, length-append c.before [], c.count))
    by_rest (y ∷ ys) e = rw (e, c.place) (starts (place_of bs) 0 c.before y ys)

  pub pc_leads : HaveInstrs bs → (pc : ℕ) → is_pc bs pc ≡ true → is_start (relocated bs stub) (place_of bs pc) ≡ true
  pc_leads h pc e = leads pc (omega (arith, number_small bs pc h e, length-append (all_instrs bs) stub))

  pub pcs_lead : HaveInstrs bs → (ns : List ℕ) → ArePcs bs ns → AreStarts (relocated bs stub) (map (place_of bs) ns)
  pcs_lead h [] k = tt
  pcs_lead h (n ∷ ns) k = (pc_leads h n k.0, pcs_lead h ns k.1)

  pub each_leads : HaveInstrs bs → (is : List Instr) → AllByRecursion (λ (i : Instr). ArePcs bs (targets_of i.operands)) is → AllByRecursion (λ (i : Instr). AreStarts (relocated bs stub) (map (place_of bs) (targets_of i.operands))) is
  each_leads h [] k = tt
  each_leads h (i ∷ is) k = (pcs_lead h (targets_of i.operands) k.0, each_leads h is k.1)

  -- behind the blocks the stub stands
  pub stub_starts : 0 < length stub → is_start (relocated bs stub) (end_of bs) ≡ true
  stub_starts lt = by_stub stub refl where
    by_stub : (ys : List Instr) → stub ≡ ys → is_start (relocated bs stub) (end_of bs) ≡ true
    by_stub [] e = absurd (omega (arith, lt, ap length e))
    by_stub (y ∷ ys) e = rw e (starts (place_of bs) 0 (all_instrs bs) y ys)

  pub zero_starts : 0 < length stub → is_start (relocated bs stub) 0 ≡ true
  zero_starts lt = by_all (all_instrs bs ++ stub) refl where
    by_all : (ys : List Instr) → all_instrs bs ++ stub ≡ ys → is_start (relocated bs stub) 0 ≡ true
    by_all [] e = absurd (omega (arith, lt, ap length e, length-append (all_instrs bs) stub))
    by_all (y ∷ ys) e = rw e (starts (place_of bs) 0 [] y ys)

pub place_is : PlaceLaw
place_is bs stub pc h k lt = by_rest (c.rest ++ stub) (parts bs stub pc c) where
  c : IsCut 0 bs pc
  c = cut 0 bs pc

  before_shaped : (xs ys : List Instr) → AllByRecursion IsShaped (xs ++ ys) → AllByRecursion IsShaped xs
  before_shaped [] ys s = tt
  before_shaped (x ∷ xs) ys s = (s.0, before_shaped xs ys s.1)

  by_rest : (ys : List Instr) → all_instrs bs ++ stub ≡ c.before ++ ys → position (λ (i : Instr). eqb i.pc (place_of bs pc)) (relocated bs stub) ≡ Some (number_of bs pc)
  by_rest [] e = absurd (omega (arith, lt, ap length e, length-append c.before [], c.count))
  by_rest (y ∷ ys) e =
      let shaped = before_shaped c.before c.rest (subst (AllByRecursion IsShaped) c.whole (all_of_blocks IsShaped bs h)) in
      let first = found (place_of bs) 0 c.before y ys shaped in
      let len : length (laid_to (place_of bs) 0 (c.before ++ y ∷ ys)) ≡ length c.before + suc (length ys) = laid_length (place_of bs) 0 (c.before ++ y ∷ ys) ∙ length-append c.before (y ∷ ys) in
      let in_list : ltb (length c.before) (length (laid_to (place_of bs) 0 (c.before ++ y ∷ ys))) ≡ true = lt-ltb (length c.before) (length (laid_to (place_of bs) 0 (c.before ++ y ∷ ys))) (omega (arith, len)) in
      rw (e, c.place, first, in_list) (ap (λ (n : ℕ). Some n) c.count)

-- ---- exception entries

pub place_above : (at : ℕ) (bs : List Block) (n : ℕ) → IsAbove bs n → (place_from at bs n ≡ behind at (all_instrs bs)) × (number_of bs n ≡ length (all_instrs bs))
place_above at [] n h = (refl, refl)
place_above at (b ∷ bs) n h =
    let rest = place_above (behind at b.instrs) bs n h.1 in
    let ne : b.pc ≢ n = omega (arith, h.0) in
    let q : eqb b.pc n ≡ false = ne_eqb b.pc n ne in
    (rw q (rest.0 ∙ sym (behind_block at b bs)), rw q (ap (λ k. length b.instrs + k) rest.1 ∙ sym (length-append b.instrs (all_instrs bs)) ∙ ap length (sym (all_cons b bs))))

module _ (bs : List Block) (stub : List Instr) (len : ℕ) (whole : len ≡ behind 0 (all_instrs bs ++ stub)) (h : HaveInstrs bs) where
  end_leads : (n : ℕ) → (is_pc bs n ≡ true) ⊎ IsAbove bs n → (place_of bs n ≡ len → ⊥) → is_start (relocated bs stub) (place_of bs n) ≡ true
  end_leads n (inl e) ne = pc_leads bs stub h n e
  end_leads n (inr above) ne = by_stub stub refl where
    p : (place_of bs n ≡ end_of bs) × (number_of bs n ≡ length (all_instrs bs))
    p = place_above 0 bs n above

    by_stub : (ys : List Instr) → stub ≡ ys → is_start (relocated bs stub) (place_of bs n) ≡ true
    by_stub [] e = absurd (ne (p.0 ∙ sym (whole ∙ ap (λ (is : List Instr). behind 0 (all_instrs bs ++ is)) e ∙ behind_append 0 (all_instrs bs) [])))
    by_stub (y ∷ ys) e = leads bs stub n (omega (arith, p.1, length-append (all_instrs bs) stub, ap length e))

  -- the places of an entry whose places are known
  entry_starts : (e : Handler) → is_start (relocated bs stub) e.start ≡ true → ((e.end ≡ len → ⊥) → is_start (relocated bs stub) e.end ≡ true) → is_start (relocated bs stub) e.handler ≡ true → AreStarts (relocated bs stub) (places_of_handler len e)
  entry_starts e s t u = by_end (eqb e.end len) refl where
    by_end : (b : Bool) → eqb e.end len ≡ b → AreStarts (relocated bs stub) (e.start ∷ cond b (e.handler ∷ []) (e.end ∷ e.handler ∷ []))
    by_end true q = (s, (u, tt))
    by_end false q = (s, (t (eqb-false e.end len q), (u, tt)))

  abbrev Start : Handler → Type 0
  Start e = AreStarts (relocated bs stub) (places_of_handler len e)

  moved_start : (hs : List Handler) → AllByRecursion (IsHandlerOver bs) hs → AllByRecursion Start (map (moved (place_of bs)) hs)
  moved_start [] k = tt
  moved_start (x ∷ xs) k = (entry_starts (moved (place_of bs) x) (pc_leads bs stub h x.start k.0.start) (end_leads x.end k.0.end) (pc_leads bs stub h x.handler k.0.handler), moved_start xs k.1)

  first_starts : (first : Option ℕ) → HasStub first stub → AllByRecursion Start (first_entry bs first)
  first_starts None k = tt
  first_starts (Some class) k = (entry_starts (record { start = 0; end = end_of bs; handler = end_of bs; catch_type = class }) (zero_starts bs stub k) (λ ne. stub_starts bs stub k) (stub_starts bs stub k), tt)

  pub entries_start : (hs : List Handler) (first : Option ℕ) → AllByRecursion (IsHandlerOver bs) hs → HasStub first stub → AllByRecursion Start (moved_handlers bs hs first)
  entries_start hs first k s = join_all Start (first_entry bs first) (map (moved (place_of bs)) hs) (first_starts first s) (moved_start hs k)

-- ---- over a pool

pub spelled_is : SpelledLaw
spelled_is pool bs hs first stub code moved h have has fits fits_last e =
    let d = done bs hs first stub code moved e in
    let l = laid_keeps bs hs first stub code moved h d in
    let over = join_all (Fits pool) (all_instrs bs) stub (all_of_blocks (Fits pool) bs fits) fits_last in
    let lead = join_all (λ (i : Instr). AreStarts (relocated bs stub) (map (place_of bs) (targets_of i.operands))) (all_instrs bs) stub (each_leads bs stub have (all_instrs bs) (all_of_blocks (λ (i : Instr). ArePcs bs (targets_of i.operands)) bs h.targets)) (nowhere_lead (relocated bs stub) (place_of bs) stub h.last_leads_nowhere) in
    let long : length code ≡ behind 0 (all_instrs bs ++ stub) = ap length d.spelled ∙ whole_long bs stub in
    record {
      instrs = record {
        each = all_over (place_of bs) pool 0 (all_instrs bs ++ stub) over l.each;
        targets = all_lead (place_of bs) (relocated bs stub) 0 (all_instrs bs ++ stub) lead;
        entries = subst (AllByRecursion (λ x. AreStarts (relocated bs stub) (places_of_handler (length code) x))) (sym d.entries) (entries_start bs stub (length code) long have hs first h.entries has);
      };
      holds = subst (λ (b : List ℕ). Holds 0 b (relocated bs stub)) (sym l.spelled) (text_holds 0 (relocated bs stub) l.order);
    }
