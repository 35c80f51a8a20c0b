-- What the code of all blocks and the stub is, or which block is the first that is too far.
use Rattle.std.proofs.Common.{◌≡◌, ℕ, ◌+◌, ◌≤◌, Bool, true, false, cond, ltb, List, [], ◌∷◌, ◌++◌, length, map, Option, Some, None, Result, Ok, Err, refl, sym, ap, ◌∙◌, arith, pos, append_assoc, length-append, le-ltb}
use mathlib.Core.Path.{fun_ext}
use Rattle.std.specs.List.{list_all, AllByRecursion}
use Rattle.std.proofs.lemmas.List.{append-nil}
use Rattle.std.proofs.lemmas.Grind.{flat_map-append}
use Rattle.jmodel.specs.declared.class_file.Handler.{Handler}
use Rattle.jmodel.specs.declared.refusal.Refusal.{Refusal}
use Rattle.jmodel.specs.declared.refusal.Refusal.TheVariants.{CodeTooLarge, BranchTooFar}
use Rattle.jmodel.specs.declared.refusal.Halt.{Halt}
use Rattle.jmodel.specs.declared.refusal.Halt.TheVariants as halts
use Rattle.jmodel.specs.declared.instruction.Form.{Form}
use Rattle.jmodel.specs.declared.instruction.Form.TheVariants as form
use Rattle.jmodel.specs.declared.instruction.Operands.{Operands}
use Rattle.jmodel.specs.declared.instruction.Operands.TheVariants.{Target}
use Rattle.jmodel.specs.declared.instruction.Instr.{Instr}
use Rattle.jmodel.specs.format.Instruction.{form_of, text, code_text, targets_of}
use Rattle.jmodel.specs.format.Reading.{◌>>=◌, Fails}
use Rattle.jmodel.specs.format.Relocation.{Block, all_instrs, put_at, size_at, behind, place_of, end_of, retarget, retargeted, laid_to, relocated, reaches_as, reaches, far_block, moved, moved_handlers, first_entry, laid_out, relocate}
use Rattle.bytecode.specs.declared.places.Places.{Places}
use Rattle.bytecode.specs.Places.{place_in, ArePlaces, end_within, with_blocks, with_all, entry_to}
use Rattle.const_pool.proofs.Takes.{ok_is}
use Rattle.bytecode.proofs.BlockLaws.{all_cons}
use Rattle.bytecode.proofs.MovedLaws.{code_long}

-- the blocks' code, or the refusal of a block
abbrev pub or_far : Option ℕ → List ℕ → Result (List ℕ) Refusal
or_far None code = Ok code
or_far (Some pc) code = Err (BranchTooFar [] (pos pc))

module _ (place : ℕ → ℕ) where
  pub laid_append : (at : ℕ) (xs ys : List Instr) → laid_to place at (xs ++ ys) ≡ laid_to place at xs ++ laid_to place (behind at xs) ys
  laid_append at [] ys = refl
  laid_append at (x ∷ xs) ys = ap (λ (is : List Instr). retargeted place (put_at at x) ∷ is) (laid_append (at + size_at at x) xs ys)

  code_append : (at : ℕ) (xs ys : List Instr) → code_text (laid_to place at (xs ++ ys)) ≡ code_text (laid_to place at xs) ++ code_text (laid_to place (behind at xs) ys)
  code_append at xs ys = ap code_text (laid_append at xs ys) ∙ flat_map-append text (laid_to place at xs) (laid_to place (behind at xs) ys)

  pub blocks_are : (out : List ℕ) (bs : List Block) → with_blocks place out bs ≡ or_far (far_block place (length out) bs) (out ++ code_text (laid_to place (length out) (all_instrs bs)))
  blocks_are out [] = ap (λ (xs : List ℕ). Ok xs) (sym (append-nil out))
  blocks_are out (b ∷ bs) = by_test (list_all reaches (laid_to place (length out) b.instrs)) refl (λ after. blocks_are after bs) where
    here : List ℕ
    here = code_text (laid_to place (length out) b.instrs)

    by_test : (t : Bool) → list_all reaches (laid_to place (length out) b.instrs) ≡ t
        → ((after : List ℕ) → with_blocks place after bs ≡ or_far (far_block place (length after) bs) (after ++ code_text (laid_to place (length after) (all_instrs bs))))
        → (cond t (Ok (out ++ here)) (Err (BranchTooFar [] (pos b.pc))) >>= λ code. with_blocks place code bs)
        ≡ or_far (cond t (far_block place (behind (length out) b.instrs) bs) (Some b.pc)) (out ++ code_text (laid_to place (length out) (all_instrs (b ∷ bs))))
    by_test true q others =
        let len : length (out ++ here) ≡ behind (length out) b.instrs = length-append out here ∙ code_long place (length out) b.instrs in
        let rest : List ℕ = code_text (laid_to place (behind (length out) b.instrs) (all_instrs bs)) in
        let whole : (out ++ here) ++ rest ≡ out ++ code_text (laid_to place (length out) (all_instrs (b ∷ bs))) =
        append_assoc out here rest ∙ ap (λ (xs : List ℕ). out ++ xs) (sym (code_append (length out) b.instrs (all_instrs bs)) ∙ ap (λ (is : List Instr). code_text (laid_to place (length out) is)) (sym (all_cons b bs))) in
        others (out ++ here) ∙ ap (λ (n : ℕ). or_far (far_block place n bs) ((out ++ here) ++ code_text (laid_to place n (all_instrs bs)))) len ∙ ap (or_far (far_block place (behind (length out) b.instrs) bs)) whole
    by_test false q others = refl

  -- ---- the stub leads nowhere

  no_jump : (f : Option Form) (pc : ℕ) (o : Operands) → targets_of o ≡ [] → reaches_as f pc (retarget place o) ≡ true
  no_jump (Some form.Jump) pc (Target t) e = absurd cc
  no_jump (Some form.Jump) pc o e = refl
  no_jump f pc o e = refl

  pub stub_reaches : (at : ℕ) (stub : List Instr) → AllByRecursion (λ (i : Instr). targets_of i.operands ≡ []) stub → list_all reaches (laid_to place at stub) ≡ true
  stub_reaches at [] h = refl
  stub_reaches at (i ∷ is) h = rw (no_jump (form_of i.op) at i.operands h.0) (stub_reaches (at + size_at at i) is h.1)

  pub all_is : (bs : List Block) (stub : List Instr) → AllByRecursion (λ (i : Instr). targets_of i.operands ≡ []) stub → with_all place bs stub ≡ or_far (far_block place 0 bs) (code_text (laid_to place 0 (all_instrs bs ++ stub)))
  all_is bs stub h = by_far (far_block place 0 bs) (blocks_are [] bs) where
    code : List ℕ
    code = code_text (laid_to place 0 (all_instrs bs))

    by_far : (o : Option ℕ) → with_blocks place [] bs ≡ or_far o code → with_all place bs stub ≡ or_far o (code_text (laid_to place 0 (all_instrs bs ++ stub)))
    by_far None e =
        let all = stub_reaches (length code) stub h in
        let len : length code ≡ behind 0 (all_instrs bs) = omega (arith, code_long place 0 (all_instrs bs)) in
        rw (e, all) (ap (λ (xs : List ℕ). Ok xs) (ap (λ (n : ℕ). code ++ code_text (laid_to place n stub)) len ∙ sym (code_append 0 (all_instrs bs) stub)))
    by_far (Some pc) e = rw e refl

-- ---- the whole

pub whole_long : (bs : List Block) (stub : List Instr) → length (code_text (relocated bs stub)) ≡ behind 0 (all_instrs bs ++ stub)
whole_long bs stub = omega (arith, code_long (place_of bs) 0 (all_instrs bs ++ stub))

module _ (bs : List Block) (hs : List Handler) (first : Option ℕ) (stub : List Instr) where
  pub too_large : None ≡ end_within bs stub → relocate bs hs first stub ≡ Err (CodeTooLarge [])
  too_large e = by_test (ltb 65535 (behind 0 (all_instrs bs ++ stub))) refl e where
    by_test : (t : Bool) → ltb 65535 (behind 0 (all_instrs bs ++ stub)) ≡ t → None ≡ cond t None (Some (end_of bs)) → relocate bs hs first stub ≡ Err (CodeTooLarge [])
    by_test true q h = let long = whole_long bs stub in rw (long, q) refl
    by_test false q h = absurd cc

  fits_is : behind 0 (all_instrs bs ++ stub) ≤ 65535 → relocate bs hs first stub ≡ laid_out (far_block (place_of bs) 0 bs) bs hs first stub
  fits_is le =
      let long = whole_long bs stub in
      let small : ltb 65535 (behind 0 (all_instrs bs ++ stub)) ≡ false = le-ltb 65535 (behind 0 (all_instrs bs ++ stub)) le in
      rw (long, small) refl

  module _ (p : Places) (h : ArePlaces p bs) (nowhere : AllByRecursion (λ (i : Instr). targets_of i.operands ≡ []) stub) (fits : behind 0 (all_instrs bs ++ stub) ≤ 65535) where
    same_place : place_in p ≡ place_of bs
    same_place = fun_ext h.place

    code_is : with_all (place_in p) bs stub ≡ or_far (far_block (place_of bs) 0 bs) (code_text (relocated bs stub))
    code_is = ap (λ (f : ℕ → ℕ). with_all f bs stub) same_place ∙ all_is (place_of bs) bs stub nowhere

    entries_are : entry_to p first ++ map (moved (place_in p)) hs ≡ moved_handlers bs hs first
    entries_are = ap (λ (f : ℕ → ℕ). entry_to p first ++ map (moved f) hs) same_place ∙ ap (λ (es : List Handler). es ++ map (moved (place_of bs)) hs) (by_first first) where
      by_first : (o : Option ℕ) → entry_to p o ≡ first_entry bs o
      by_first None = refl
      by_first (Some class) = rw h.end refl

    pub relocate_ok : (code : List ℕ) (moved_to : List Handler) → with_all (place_in p) bs stub ≡ Ok code → moved_to ≡ entry_to p first ++ map (moved (place_in p)) hs → relocate bs hs first stub ≡ Ok (code, moved_to)
    relocate_ok code moved_to e k = fits_is fits ∙ by_far (far_block (place_of bs) 0 bs) (sym code_is ∙ e) where
      by_far : (o : Option ℕ) → or_far o (code_text (relocated bs stub)) ≡ Ok code → laid_out o bs hs first stub ≡ Ok (code, moved_to)
      by_far None q = let same : code_text (relocated bs stub) ≡ code = ok_is (code_text (relocated bs stub)) code q in rw (same, k, entries_are) refl
      by_far (Some pc) q = absurd cc

    pub relocate_fails : (e : Halt) → Fails e (with_all (place_in p) bs stub) → Fails e (relocate bs hs first stub)
    relocate_fails halts.NoMemory failed = tt
    relocate_fails (halts.Refused r) failed = fits_is fits ∙ by_far (far_block (place_of bs) 0 bs) (sym code_is ∙ failed) where
      by_far : (o : Option ℕ) → or_far o (code_text (relocated bs stub)) ≡ Err r → laid_out o bs hs first stub ≡ Err r
      by_far None q = absurd cc
      by_far (Some pc) q = cc
