-- Code that is one run of instructions: its rules, and what it is read as.
use Rattle.std.proofs.Common.{◌≡◌, ℕ, ◌+◌, ◌<◌, ◌≤◌, List, [], ◌∷◌, ◌++◌, length, Option, Some, None, Result, Ok, refl, sym, ap, ◌∙◌, subst, arith, true, false}
use Rattle.std.specs.Prelude.{nat_lt}
use Rattle.std.specs.List.{AllByRecursion}
use Rattle.std.proofs.lemmas.Bool.Decides.{nat_tests}
use Rattle.std.proofs.lemmas.List.{append-nil}
use Rattle.jmodel.specs.declared.class_file.Handler.{Handler}
use Rattle.jmodel.specs.declared.instruction.Instr.{Instr}
use Rattle.jmodel.specs.declared.refusal.Refusal.{Refusal}
use Rattle.jmodel.specs.declared.refusal.Refusal.TheVariants.{CodeTooLarge}
use Rattle.jmodel.specs.format.ClassFile.{Pool, Code, code_spelling}
use Rattle.jmodel.specs.format.ClassRules.{IsCode, AreAttributes}
use Rattle.jmodel.specs.format.ClassReading.{code_of}
use Rattle.jmodel.specs.format.Instruction.{code_text, targets_of, SpellsInstrs}
use Rattle.jmodel.specs.format.InstructionReading.{instrs_of}
use Rattle.objects.specs.linking.Each.{each}
use Rattle.jmodel.specs.format.Relocation.{Block, all_instrs, behind, size_at, place_of, laid_to, relocated, relocate, laid_out, far_block, IsShaped, ArePcs, AreBlocks}
use Rattle.objects.specs.declared.op.Op.{Op}
use Rattle.objects.specs.linking.Decoding.{Symbols, op_of, ops_of}
use Rattle.const_pool.proofs.Takes.{IsBytes, bind_ok, guard_ok, ok_is}
use Rattle.const_pool.proofs.Parts.{code_is_read}
use Rattle.bytecode.specs.Relocated.{Fits}
use Rattle.bytecode.proofs.BlockLaws.{all_cons}
use Rattle.bytecode.proofs.SizeLaws.{behind_over}
use Rattle.bytecode.proofs.LaidLaws.{some_size, spelled_is}
use Rattle.bytecode.proofs.RelocationLaws.{whole_long}
use Rattle.bytecode.proofs.CodeLaws.{code_again}
use Rattle.member_code.specs.Coding.{block, laid_code, straight_bytes}
use Rattle.member_code.proofs.CodeBytes.{are_bytes, code_bytes}
use Rattle.member_code.proofs.Single.{AreMeant, all_meant, IsLaid}

pub no_attributes : (pool : Pool) → AreAttributes pool []
no_attributes pool = record { few = omega arith; each = tt }

-- ---- what is laid

pub record IsRelocated (bs : List Block) (hs : List Handler) (stub : List Instr) (x : List ℕ × List Handler) : Type 0 where
  pub short : length (code_text (relocated bs stub)) ≤ 65535
  pub code : x.0 ≡ code_text (relocated bs stub)

pub relocated_ok : (bs : List Block) (hs : List Handler) (first : Option ℕ) (stub : List Instr) (x : List ℕ × List Handler) → relocate bs hs first stub ≡ Ok x → IsRelocated bs hs stub x
relocated_ok bs hs first stub x e =
    let g = guard_ok (nat_lt 65535 (length (code_text (relocated bs stub)))) (CodeTooLarge []) (laid_out (far_block (place_of bs) 0 bs) bs hs first stub) x e in
    go (far_block (place_of bs) 0 bs) (not_more (length (code_text (relocated bs stub))) g.0) g.1
  where
    not_more : (n : ℕ) → nat_lt 65535 n ≡ false → n ≤ 65535
    not_more n h = grind (arith, nat_tests)

    go : (o : Option ℕ) → length (code_text (relocated bs stub)) ≤ 65535 → laid_out o bs hs first stub ≡ Ok x → IsRelocated bs hs stub x
    go None short h = record { short = short; code = sym (ap (λ (y : List ℕ × List Handler). y.0) (ok_is _ x h)) }
    go (Some pc) short h = cc

-- laid code is read as the instructions that were laid
pub laid_read : (Z : Pool) (bs : List Block) (hs moved : List Handler) (stub : List Instr) (code : List ℕ) → IsRelocated bs hs stub (code, moved) → SpellsInstrs Z moved code (relocated bs stub) → instrs_of Z moved code ≡ Ok (relocated bs stub)
laid_read Z bs hs moved stub code R h =
    let short : length code ≤ 65535 = omega (arith, ap length R.code, R.short) in
    let fits : IsBytes code = subst IsBytes (sym R.code) (are_bytes (code_text (relocated bs stub)) (code_bytes (place_of bs) 0 (all_instrs bs ++ stub))) in
    code_again Z moved code fits short (relocated bs stub) h

-- ---- one run of instructions

abbrev pub run : List Instr → List Block
run is = block 0 is ∷ []

pub run_all : (is : List Instr) → all_instrs (run is) ++ [] ≡ is
run_all is = append-nil (all_instrs (run is)) ∙ all_cons (block 0 is) [] ∙ append-nil is

-- the code of a run
pub record IsRun (max_stack max_locals : ℕ) (is : List Instr) (bytes : List ℕ) : Type 0 where
  pub code : List ℕ
  pub laid : relocate (run is) [] None [] ≡ Ok (code, [])
  pub bytes_are : bytes ≡ code_spelling (record { max_stack = max_stack; max_locals = max_locals; code = code; handlers = []; attributes = [] })

abbrev code_with : ℕ → ℕ → List ℕ → List Handler → Code
code_with max_stack max_locals code handlers = record { max_stack = max_stack; max_locals = max_locals; code = code; handlers = handlers; attributes = [] }

no_handlers : (bs : List Block) (stub : List Instr) (x : List ℕ × List Handler) → relocate bs [] None stub ≡ Ok x → x.1 ≡ []
no_handlers bs stub x e =
    let g = guard_ok (nat_lt 65535 (length (code_text (relocated bs stub)))) (CodeTooLarge []) (laid_out (far_block (place_of bs) 0 bs) bs [] None stub) x e in
    go (far_block (place_of bs) 0 bs) g.1
  where
    go : (o : Option ℕ) → laid_out o bs [] None stub ≡ Ok x → x.1 ≡ []
    go None h = sym (ap (λ (y : List ℕ × List Handler). y.1) (ok_is _ x h))
    go (Some pc) h = cc

pub run_is : (max_stack max_locals : ℕ) (is : List Instr) (bytes : List ℕ) → straight_bytes max_stack max_locals is ≡ Ok bytes → IsRun max_stack max_locals is bytes
run_is max_stack max_locals is bytes e =
    let b = bind_ok (laid_code max_stack max_locals (run is) [] None []) (λ code. Ok (code_spelling code)) bytes e in
    let a = bind_ok (relocate (run is) [] None []) (λ laid. Ok (code_with max_stack max_locals laid.0 laid.1)) b.0 b.1 in
    let none = no_handlers (run is) [] a.0 a.1 in
    record {
      code = a.0.0;
      laid = a.1 ∙ ap (λ (hs : List Handler). Ok (a.0.0, hs)) none;
      bytes_are = sym (ok_is (code_spelling b.0) bytes b.2) ∙ ap code_spelling (sym (ok_is (code_with max_stack max_locals a.0.0 a.0.1) b.0 a.2)) ∙ ap (λ (hs : List Handler). code_spelling (code_with max_stack max_locals a.0.0 hs)) none;
    }

pub each_shaped : (Z : Pool) (is : List Instr) → AllByRecursion (IsLaid Z) is → AllByRecursion IsShaped is
each_shaped Z [] h = tt
each_shaped Z (i ∷ is) h = (h.0.shaped, each_shaped Z is h.1)

pub each_nowhere : (Z : Pool) (is : List Instr) → AllByRecursion (IsLaid Z) is → AllByRecursion (λ (i : Instr). targets_of i.operands ≡ []) is
each_nowhere Z [] h = tt
each_nowhere Z (i ∷ is) h = (h.0.nowhere, each_nowhere Z is h.1)

each_fits : (Z : Pool) (is : List Instr) → AllByRecursion (IsLaid Z) is → AllByRecursion (Fits Z) is
each_fits Z [] h = tt
each_fits Z (i ∷ is) h = (h.0.fits, each_fits Z is h.1)

each_leads : (Z : Pool) (bs : List Block) (is : List Instr) → AllByRecursion (IsLaid Z) is → AllByRecursion (λ (i : Instr). ArePcs bs (targets_of i.operands)) is
each_leads Z bs [] h = tt
each_leads Z bs (i ∷ is) h = (subst (ArePcs bs) (sym h.0.nowhere) tt, each_leads Z bs is h.1)

module _ (Z : Pool) (max_stack max_locals : ℕ) (is : List Instr) (bytes : List ℕ) (R : IsRun max_stack max_locals is bytes) (laid : AllByRecursion (IsLaid Z) is) (some : 0 < length is) where
  blocks_fit : AreBlocks (run is) [] None []
  blocks_fit = record {
    ascend = (omega arith, tt);
    each = (each_shaped Z is laid, tt);
    targets = (each_leads Z (run is) is laid, tt);
    each_last = tt;
    last_leads_nowhere = tt;
    entries = tt;
    room = tt;
  }

  moved : IsRelocated (run is) [] [] (R.code, [])
  moved = relocated_ok (run is) [] None [] (R.code, []) R.laid

  spelled : SpellsInstrs Z [] R.code (relocated (run is) [])
  spelled = spelled_is Z (run is) [] None [] R.code [] blocks_fit (some, tt) tt (each_fits Z is laid, tt) tt R.laid

  pub run_read : instrs_of Z [] R.code ≡ Ok (relocated (run is) [])
  run_read = laid_read Z (run is) [] [] [] R.code moved spelled

  begins : (js : List Instr) → AllByRecursion IsShaped js → 0 < length js → 0 < behind 0 js
  begins [] h n = absurd (omega arith)
  begins (j ∷ js) h n = omega (arith, some_size 0 j h.0, behind_over (0 + size_at 0 j) js)

  pub run_rules : max_stack < 65536 → max_locals < 65536 → IsCode Z (code_with max_stack max_locals R.code [])
  run_rules stack locals =
      let long = ap length moved.code ∙ whole_long (run is) [] ∙ ap (behind 0) (run_all is) in
      record {
        stack = omega (arith, stack);
        locals = omega (arith, locals);
        some = omega (arith, long, begins is (each_shaped Z is laid) some);
        short = omega (arith, ap length moved.code, moved.short);
        few = omega arith;
        handlers = tt;
        attributes = no_attributes Z;
      }

  pub run_back : max_stack < 65536 → max_locals < 65536 → code_of Z bytes ≡ Some (code_with max_stack max_locals R.code [])
  run_back stack locals = code_is_read Z bytes (code_with max_stack max_locals R.code []) (record { code = run_rules stack locals; is = R.bytes_are })

  pub run_means : (s : Symbols) (os : List Op) → AreMeant s (place_of (run is)) (relocated (run is) []) is os → ops_of s (relocated (run is) []) ≡ Some os
  run_means s os h = ap (λ (l : List Instr). each (op_of s (relocated (run is) [])) (laid_to (place_of (run is)) 0 l)) (run_all is) ∙ all_meant s (place_of (run is)) (relocated (run is) []) 0 is os h
