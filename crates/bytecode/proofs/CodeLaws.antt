-- Code: what is read is spelled so, and what is spelled so is read.
use Rattle.std.proofs.Common.{◌≡◌, ℕ, zero, suc, ◌+◌, ◌^◌, ◌<◌, ◌≤◌, Bool, true, false, cond, ◌||◌, eqb, leb, List, [], ◌∷◌, ◌++◌, length, drop, Option, Some, None, Result, Ok, Err, refl, sym, ap, subst, ◌∙◌, arith, length-append, Vec, Global}
use Rattle.std.specs.Int.{w8, w16, w32, to_be_bytes}
use Rattle.std.specs.List.{flat_map, list_all, AllByRecursion}
use Rattle.std.proofs.lemmas.Bool.{eqb-true, leb-true, leb-false, le-leb, lt-leb}
use Rattle.std.proofs.lemmas.List.{length-replicate, nil_from_length, length-drop, drop-drop, drop_at}
use Rattle.std.proofs.lemmas.List.Concat.{flat_map-cons}
use Rattle.jmodel.specs.declared.class_file.Handler.{Handler}
use Rattle.jmodel.specs.declared.instruction.Form.{Form}
use Rattle.jmodel.specs.declared.instruction.Form.TheVariants as form
use Rattle.jmodel.specs.declared.instruction.Operands.{Operands}
use Rattle.jmodel.specs.declared.instruction.Operands.TheVariants.{Nothing}
use Rattle.jmodel.specs.declared.instruction.Instr.{Instr}
use Rattle.jmodel.specs.format.ClassFile.{Pool as Entries}
use Rattle.std.specs.Prelude.{IfOk}
use Rattle.jmodel.specs.declared.refusal.Halt.{Halt}
use Rattle.jmodel.specs.format.Reading.{◌>>=◌, Gives, number_at}
use Rattle.jmodel.specs.format.Instruction.{form_of, padding, zeros, operands_text, text_as, text_with, IsNothing, IsSized, IsSizedAs, IsInstr, FitPool, FitPoolAs, IsInstrOver, targets_of, is_start, text, code_text, AreInOrder, Holds, places_of_handler, AreStarts, AreInstrs, SpellsInstrs}
use Rattle.jmodel.specs.format.InstructionReading.{bad_target, operands_at, operands_as, parts_at, instr_at, instrs_at, are_starts, targets_fit, lesser, least_bad, places_fit, instrs_of}
use Rattle.const_pool.proofs.Takes.{bind_ok, ok_is, want_ok, IsBytes, Takes, Takes-nothing, Takes-then, Takes-first, Takes-second, wide16, number_takes, number_again}
use Rattle.const_pool.proofs.Entries.{both_true}
use Rattle.bytecode.proofs.NumberLaws.{wide8, signed8, signed16, signed32}
use Rattle.bytecode.proofs.FormLaws.{AreInside, number_operand_takes, number_operand_again, array_type_takes, array_type_again, local_takes, local_again, increment_takes, increment_again, index_takes, index_again, interface_takes, interface_again, dimensions_takes, dimensions_again, jump_takes, jump_again}
use Rattle.bytecode.proofs.SwitchLaws.{wide_takes, wide_again, table_takes, table_again, lookup_takes, lookup_again}
use Rattle.bytecode.proofs.Walks.{as_bad_ok, pc_is}

-- ---- operands

-- operands of a form stand at a place, up to the next
pub record AreRead (pool : Entries) (pc : ℕ) (bytes : List ℕ) (at : ℕ) (f : Form) (x : Operands × ℕ) : Type 0 where
  pub pad : List ℕ
  pub len : length pad ≡ padding pc
  pub takes : Takes bytes at (operands_text f pad pc x.0) x.1
  pub sized : IsSized pc f x.0
  pub entry : FitPool pool f x.0

zeros_long : (pc : ℕ) → length (zeros pc) ≡ padding pc
zeros_long pc = length-replicate (padding pc) 0

module _ (pool : Entries) (bytes : List ℕ) (fits : IsBytes bytes) where
  pub operands_take : (pc at : ℕ) (f : Form) (x : Operands × ℕ) → at ≤ length bytes → operands_at pool pc f bytes at ≡ Ok x → AreInside x.0 → AreRead pool pc bytes at f x
  operands_take pc at form.Plain x le e inside = subst (AreRead pool pc bytes at form.Plain) (ok_is (Nothing, at) x e) (record { pad = zeros pc; len = zeros_long pc; takes = Takes-nothing bytes at le; sized = tt; entry = tt })
  operands_take pc at form.Byte x le e inside = let t = number_operand_takes bytes fits w8 (2 ^ 8) signed8 at x e in record { pad = zeros pc; len = zeros_long pc; takes = t.0; sized = t.1; entry = tt }
  operands_take pc at form.Short x le e inside = let t = number_operand_takes bytes fits w16 (2 ^ 16) signed16 at x e in record { pad = zeros pc; len = zeros_long pc; takes = t.0; sized = t.1; entry = tt }
  operands_take pc at form.ArrayType x le e inside = let t = array_type_takes bytes fits pc at x e in record { pad = zeros pc; len = zeros_long pc; takes = t.0; sized = t.1; entry = tt }
  operands_take pc at form.Local x le e inside = let t = local_takes bytes fits at x e in record { pad = zeros pc; len = zeros_long pc; takes = t.0; sized = t.1; entry = tt }
  operands_take pc at form.Increment x le e inside = let t = increment_takes bytes fits at x e in record { pad = zeros pc; len = zeros_long pc; takes = t.0; sized = t.1; entry = tt }
  operands_take pc at (form.ShortEntry k) x le e inside = let t = index_takes bytes fits pool w8 (2 ^ 8) wide8 k pc at x e in record { pad = zeros pc; len = zeros_long pc; takes = t.0; sized = t.1; entry = t.2 }
  operands_take pc at (form.Entry k) x le e inside = let t = index_takes bytes fits pool w16 (2 ^ 16) wide16 k pc at x e in record { pad = zeros pc; len = zeros_long pc; takes = t.0; sized = t.1; entry = t.2 }
  operands_take pc at form.Interface x le e inside = let t = interface_takes bytes fits pool pc at x e in record { pad = zeros pc; len = zeros_long pc; takes = t.0; sized = t.1; entry = t.2 }
  operands_take pc at form.Dimensions x le e inside = let t = dimensions_takes bytes fits pool pc at x e in record { pad = zeros pc; len = zeros_long pc; takes = t.0; sized = t.1; entry = t.2 }
  operands_take pc at form.Jump x le e inside = let t = jump_takes bytes fits w16 (2 ^ 16) signed16 pc at x e inside in record { pad = zeros pc; len = zeros_long pc; takes = t.0; sized = t.1; entry = tt }
  operands_take pc at form.FarJump x le e inside = let t = jump_takes bytes fits w32 (2 ^ 32) signed32 pc at x e inside in record { pad = zeros pc; len = zeros_long pc; takes = t.0; sized = t.1; entry = tt }
  operands_take pc at form.Table x le e inside = let t = table_takes bytes fits pc at x e inside in record { pad = t.0; len = t.1; takes = t.2; sized = t.3; entry = tt }
  operands_take pc at form.Lookup x le e inside = let t = lookup_takes bytes fits pc at x e inside in record { pad = t.0; len = t.1; takes = t.2; sized = t.3; entry = tt }
  operands_take pc at form.Wide x le e inside = let t = wide_takes bytes fits pc at x e in record { pad = zeros pc; len = zeros_long pc; takes = t.0; sized = t.1; entry = tt }

  plain_again : (pc at : ℕ) (o : Operands) (next : ℕ) → IsNothing o → Takes bytes at [] next → operands_at pool pc form.Plain bytes at ≡ Ok (o, next)
  plain_again pc at Nothing next h t = ap (λ (k : ℕ). Ok (Nothing, k)) (omega (arith, t.moved))
  plain_again pc at o next h t = absurd h

  pub operands_again : (pc : ℕ) → pc < 2 ^ 16 → (at : ℕ) (f : Form) (pad : List ℕ) (o : Operands) (next : ℕ) → length pad ≡ padding pc → IsSized pc f o → FitPool pool f o → AreInside o → Takes bytes at (operands_text f pad pc o) next → operands_at pool pc f bytes at ≡ Ok (o, next)
  operands_again pc lt at form.Plain pad o next len h k inside t = plain_again pc at o next h t
  operands_again pc lt at form.Byte pad o next len h k inside t = number_operand_again bytes fits w8 (2 ^ 8) signed8 at o next h t
  operands_again pc lt at form.Short pad o next len h k inside t = number_operand_again bytes fits w16 (2 ^ 16) signed16 at o next h t
  operands_again pc lt at form.ArrayType pad o next len h k inside t = array_type_again bytes fits pc at o next h t
  operands_again pc lt at form.Local pad o next len h k inside t = local_again bytes fits at o next h t
  operands_again pc lt at form.Increment pad o next len h k inside t = increment_again bytes fits at o next h t
  operands_again pc lt at (form.ShortEntry e) pad o next len h k inside t = index_again bytes fits pool w8 (2 ^ 8) wide8 e pc at o next h k t
  operands_again pc lt at (form.Entry e) pad o next len h k inside t = index_again bytes fits pool w16 (2 ^ 16) wide16 e pc at o next h k t
  operands_again pc lt at form.Interface pad o next len h k inside t = interface_again bytes fits pool pc at o next h k t
  operands_again pc lt at form.Dimensions pad o next len h k inside t = dimensions_again bytes fits pool pc at o next h k t
  operands_again pc lt at form.Jump pad o next len h k inside t = jump_again bytes fits w16 (2 ^ 16) signed16 pc at o next h inside t
  operands_again pc lt at form.FarJump pad o next len h k inside t = jump_again bytes fits w32 (2 ^ 32) signed32 pc at o next h inside t
  operands_again pc lt at form.Table pad o next len h k inside t = table_again bytes fits pc lt at pad o next len h inside t
  operands_again pc lt at form.Lookup pad o next len h k inside t = lookup_again bytes fits pc lt at pad o next len h inside t
  operands_again pc lt at form.Wide pad o next len h k inside t = wide_again bytes fits pc at o next h t

  -- ---- one instruction

  abbrev made : ℕ → ℕ → Operands → Instr
  made pc op operands = record { pc = pc; op = op; operands = operands }

  -- an instruction stands at a place, up to the next
  pub record IsRead (at : ℕ) (i : Instr) (next : ℕ) : Type 0 where
    pub pc : i.pc ≡ at
    pub pad : List ℕ
    pub len : length pad ≡ padding at
    pub takes : Takes bytes at (text_with pad i) next
    pub instr : IsInstrOver pool i
    pub further : at < next

  by_form : (pc op after : ℕ) (f : Option Form) (x : Operands × ℕ) → form_of op ≡ f → op < 2 ^ 8 → Takes bytes pc (to_be_bytes w8 op) after → operands_as pool pc f bytes after ≡ Ok x → AreInside x.0 → IsRead pc (made pc op x.0) x.1
  by_form pc op after None x e lt t h inside = absurd cc
  by_form pc op after (Some f) x e lt t h inside =
      let r = operands_take pc after f x t.inside h inside in
      let all = Takes-then bytes pc (to_be_bytes w8 op) after (operands_text f r.pad pc x.0) x.1 t r.takes in
      let text : Takes bytes pc (text_with r.pad (made pc op x.0)) x.1 = subst (λ (g : Option Form). Takes bytes pc (text_as g r.pad (made pc op x.0)) x.1) (sym e) all in
      let sized : IsSizedAs pc (form_of op) x.0 = subst (λ (g : Option Form). IsSizedAs pc g x.0) (sym e) r.sized in
      let entry : FitPoolAs pool (form_of op) x.0 = subst (λ (g : Option Form). FitPoolAs pool g x.0) (sym e) r.entry in
      record { pc = refl; pad = r.pad; len = r.len; takes = text; instr = record { instr = record { op = lt; operands = sized }; entry = entry }; further = omega (arith, t.moved, r.takes.moved) }

  pub instr_take : (at : ℕ) (i : Instr) (next : ℕ) → instr_at pool bytes at ≡ Ok (i, next) → AreInside i.operands → IsRead at i next
  unfolding parts_at
  instr_take at i next e inside =
      let h = as_bad_ok at (parts_at pool bytes at) (i, next) e in
      let a = bind_ok (number_at w8 bytes at) (λ op. operands_as pool at (form_of op.0) bytes op.1 >>= λ o. Ok (made at op.0 o.0, o.1)) (i, next) h in
      let b = bind_ok (operands_as pool at (form_of a.0.0) bytes a.0.1) (λ o. Ok (made at a.0.0 o.0, o.1)) (i, next) a.2 in
      let is = ok_is (made at a.0.0 b.0.0, b.0.1) (i, next) b.2 in
      let good : AreInside b.0.0 = subst (λ (y : Instr × ℕ). AreInside y.0.operands) (sym is) inside in
      let t = number_takes w8 (2 ^ 8) wide8 bytes at a.0 fits a.1 in
      subst (λ (y : Instr × ℕ). IsRead at y.0 y.1) is (by_form at a.0.0 a.0.1 (form_of a.0.0) b.0 refl t.1 t.0 b.1 good)

  as_again : (i : Instr) (next : ℕ) (pad : List ℕ) (f : Option Form) → i.pc < 2 ^ 16 → length pad ≡ padding i.pc → i.op < 2 ^ 8 → IsSizedAs i.pc f i.operands → FitPoolAs pool f i.operands → AreInside i.operands → Takes bytes i.pc (text_as f pad i) next → (number_at w8 bytes i.pc ≡ Ok (i.op, i.pc + 1)) × (operands_as pool i.pc f bytes (i.pc + 1) ≡ Ok (i.operands, next))
  as_again i next pad None lt len op h k inside t = absurd h
  as_again i next pad (Some f) lt len op h k inside t =
      let first = number_again w8 (2 ^ 8) wide8 bytes i.pc i.op (i.pc + 1) op (Takes-first bytes i.pc (to_be_bytes w8 i.op) (operands_text f pad i.pc i.operands) next t) in
      let second = Takes-second bytes i.pc (to_be_bytes w8 i.op) (operands_text f pad i.pc i.operands) next t in
      (first, operands_again i.pc lt (i.pc + 1) f pad i.operands next len h k inside second)

  pub instr_again : (i : Instr) (next : ℕ) (pad : List ℕ) → i.pc < 2 ^ 16 → length pad ≡ padding i.pc → IsInstrOver pool i → AreInside i.operands → Takes bytes i.pc (text_with pad i) next → instr_at pool bytes i.pc ≡ Ok (i, next)
  unfolding parts_at
  instr_again i next pad lt len h inside t =
      let r = as_again i next pad (form_of i.op) lt len h.instr.op h.instr.operands h.entry inside t in
      rw (r.0, r.1) refl

  -- ---- all of them

  -- places of instructions lie in the code
  abbrev pub AreWithin : List Instr → Type 0
  AreWithin is = AllByRecursion (λ (i : Instr). i.pc < length bytes) is

  abbrev pub AllInside : List Instr → Type 0
  AllInside is = AllByRecursion (λ (i : Instr). AreInside i.operands) is

  pub within : (n at : ℕ) (is : List Instr) → instrs_at pool bytes n at ≡ Ok is → AreWithin is
  unfolding instrs_at
  within zero at is e = subst AreWithin (ok_is [] is e) tt
  within (suc n) at is e = by_end (leb (length bytes) at) refl e (λ k xs h. within n k xs h) where
    by_end : (b : Bool) → leb (length bytes) at ≡ b → cond b (Ok []) (instr_at pool bytes at >>= λ first. instrs_at pool bytes n first.1 >>= λ others. Ok (first.0 ∷ others)) ≡ Ok is → ((k : ℕ) (xs : List Instr) → instrs_at pool bytes n k ≡ Ok xs → AreWithin xs) → AreWithin is
    by_end true q e others = subst AreWithin (ok_is [] is e) tt
    by_end false q e others =
        let a = bind_ok (instr_at pool bytes at) (λ first. instrs_at pool bytes n first.1 >>= λ others. Ok (first.0 ∷ others)) is e in
        let b = bind_ok (instrs_at pool bytes n a.0.1) (λ others. Ok (a.0.0 ∷ others)) is a.2 in
        let here : a.0.0.pc < length bytes = omega (arith, pc_is pool bytes at a.0.0 a.0.1 a.1, leb-false (length bytes) at q) in
        subst AreWithin (ok_is (a.0.0 ∷ b.0) is b.2) (here, others a.0.1 b.0 b.1)

  past : (at : ℕ) → length bytes ≤ at → drop at bytes ≡ []
  past at le = nil_from_length (drop at bytes) (omega (arith, length-drop at bytes))

  abbrev pub AreHeld : ℕ → List Instr → Type 0
  AreHeld at is = Holds at (drop at bytes) is × AllByRecursion (IsInstrOver pool) is

  pub instrs_take : (n at : ℕ) (is : List Instr) → length bytes ≤ at + n → instrs_at pool bytes n at ≡ Ok is → AllInside is → AreHeld at is
  unfolding instrs_at
  instrs_take zero at is le e inside = subst (AreHeld at) (ok_is [] is e) (past at (omega arith), tt)
  instrs_take (suc n) at is le e inside = by_end (leb (length bytes) at) refl e (λ k xs l h g. instrs_take n k xs l h g) where
    by_end : (b : Bool) → leb (length bytes) at ≡ b → cond b (Ok []) (instr_at pool bytes at >>= λ first. instrs_at pool bytes n first.1 >>= λ others. Ok (first.0 ∷ others)) ≡ Ok is → ((k : ℕ) (xs : List Instr) → length bytes ≤ k + n → instrs_at pool bytes n k ≡ Ok xs → AllInside xs → AreHeld k xs) → AreHeld at is
    by_end true q e others = subst (AreHeld at) (ok_is [] is e) (past at (leb-true (length bytes) at q), tt)
    by_end false q e others =
        let a = bind_ok (instr_at pool bytes at) (λ first. instrs_at pool bytes n first.1 >>= λ others. Ok (first.0 ∷ others)) is e in
        let b = bind_ok (instrs_at pool bytes n a.0.1) (λ others. Ok (a.0.0 ∷ others)) is a.2 in
        let same = ok_is (a.0.0 ∷ b.0) is b.2 in
        let good : AllInside (a.0.0 ∷ b.0) = subst AllInside (sym same) inside in
        let r = instr_take at a.0.0 a.0.1 a.1 good.0 in
        let rest = others a.0.1 b.0 (omega (arith, r.further)) b.1 good.1 in
        let held : Holds (at + length (text_with r.pad a.0.0)) (drop a.0.1 bytes) b.0 = subst (λ (k : ℕ). Holds k (drop a.0.1 bytes) b.0) r.takes.moved rest.0 in
        subst (AreHeld at) same ((r.pad, drop a.0.1 bytes, r.pc, r.len, r.takes.parts, held), (r.instr, rest.1))

  by_some : (pad : List ℕ) (i : Instr) (f : Option Form) → FitPoolAs pool f i.operands → 0 < length (text_as f pad i)
  by_some pad i None k = absurd k
  by_some pad i (Some f) k = omega arith

  some_text : (pad : List ℕ) (i : Instr) → IsInstrOver pool i → 0 < length (text_with pad i)
  some_text pad i h = by_some pad i (form_of i.op) h.entry

  held_within : (at : ℕ) (code : List ℕ) (is : List Instr) → Holds at code is → at + length code ≡ length bytes → AllByRecursion (IsInstrOver pool) is → AreWithin is
  held_within at code [] h e each = tt
  held_within at code (i ∷ is) h e each =
      let some : 0 < length (text_with h.0 i) = some_text h.0 i each.0 in
      let len : length code ≡ length (text_with h.0 i) + length h.1 = ap length h.4 ∙ length-append (text_with h.0 i) h.1 in
      (omega (arith, h.2, e, len, some), held_within (at + length (text_with h.0 i)) h.1 is h.5 (omega (arith, e, len)) each.1)

  pub instrs_again : (n at : ℕ) (is : List Instr) → length bytes ≤ 65535 → length bytes ≤ at + n → at ≤ length bytes → AreHeld at is → AllInside is → instrs_at pool bytes n at ≡ Ok is
  unfolding instrs_at
  instrs_again zero at [] short le inside h good = refl
  instrs_again zero at (i ∷ is) short le inside h good =
      let text : List ℕ = text_with h.0.0 i in
      let len : length (drop at bytes) ≡ length text + length h.0.1 = ap length h.0.4 ∙ length-append text h.0.1 in
      absurd (omega (arith, some_text h.0.0 i h.1.0, len, length-drop at bytes))
  instrs_again (suc n) at [] short le inside h good =
      let over : length bytes ≤ at = omega (arith, ap length h.0, length-drop at bytes) in
      rw (le-leb (length bytes) at over) refl
  instrs_again (suc n) at (i ∷ is) short le inside h good =
      let text : List ℕ = text_with h.0.0 i in
      let next : ℕ = at + length text in
      let some : 0 < length text = some_text h.0.0 i h.1.0 in
      let len : length (drop at bytes) ≡ length text + length h.0.1 = ap length h.0.4 ∙ length-append text h.0.1 in
      let more : leb (length bytes) at ≡ false = lt-leb (length bytes) at (omega (arith, some, len, length-drop at bytes)) in
      let rest : drop next bytes ≡ h.0.1 = sym (drop-drop (length text) at bytes) ∙ ap (drop (length text)) h.0.4 ∙ drop_at text h.0.1 (length text) refl in
      let takes : Takes bytes at text next = record { parts = h.0.4 ∙ ap (λ (r : List ℕ). text ++ r) (sym rest); moved = refl; inside = omega (arith, len, length-drop at bytes, inside) } in
      let low : i.pc < 2 ^ 16 = omega (arith, h.0.2, inside, short) in
      let pad : length h.0.0 ≡ padding i.pc = h.0.3 ∙ ap (λ (k : ℕ). padding k) (sym h.0.2) in
      let takes' : Takes bytes i.pc text next = subst (λ (k : ℕ). Takes bytes k text next) (sym h.0.2) takes in
      let one : instr_at pool bytes at ≡ Ok (i, next) = subst (λ (k : ℕ). instr_at pool bytes k ≡ Ok (i, next)) h.0.2 (instr_again i next h.0.0 low pad h.1.0 good.0 takes') in
      let held : Holds next (drop next bytes) is = subst (λ (r : List ℕ). Holds next r is) (sym rest) h.0.5 in
      let others = instrs_again n next is short (omega (arith, some)) takes.inside (held, h.1.1) good.1 in
      rw (more, one, others) refl

-- ---- targets

starts_all : (is : List Instr) (ts : List ℕ) → list_all (is_start is) ts ≡ true → AreStarts is ts
starts_all is [] e = tt
starts_all is (t ∷ ts) e = let b = both_true (is_start is t) (list_all (is_start is) ts) e in (b.0, starts_all is ts b.1)

all_starts : (is : List Instr) (ts : List ℕ) → AreStarts is ts → list_all (is_start is) ts ≡ true
all_starts is [] h = refl
all_starts is (t ∷ ts) h = rw (h.0, all_starts is ts h.1) refl

abbrev pub LeadOn : List Instr → List Instr → Type 0
LeadOn all is = AllByRecursion (λ (i : Instr). AreStarts all (targets_of i.operands)) is

targets_lead : (all is : List Instr) → targets_fit all is ≡ Ok tt → LeadOn all is
unfolding targets_fit
targets_lead all [] e = tt
targets_lead all (i ∷ is) e =
    let w = want_ok (are_starts all (targets_of i.operands)) (bad_target i.pc) (targets_fit all is) tt e in
    (starts_all all (targets_of i.operands) w.0, targets_lead all is w.1)

lead_targets : (all is : List Instr) → LeadOn all is → targets_fit all is ≡ Ok tt
unfolding targets_fit
lead_targets all [] h = refl
lead_targets all (i ∷ is) h = rw (all_starts all (targets_of i.operands) h.0) (lead_targets all is h.1)

-- what is the start of an instruction of code is a place of code
start_within : (n : ℕ) (is : List Instr) (t : ℕ) → AllByRecursion (λ (i : Instr). i.pc < n) is → is_start is t ≡ true → t < n
start_within n [] t h e = absurd cc
start_within n (i ∷ is) t h e = by_test (eqb i.pc t) refl e (λ k. start_within n is t h.1 k) where
  by_test : (b : Bool) → eqb i.pc t ≡ b → (b || is_start is t) ≡ true → (is_start is t ≡ true → t < n) → t < n
  by_test true q k others = omega (arith, eqb-true i.pc t q, h.0)
  by_test false q k others = others k

starts_inside : (n : ℕ) (all : List Instr) (ts : List ℕ) → n ≤ 65535 → AllByRecursion (λ (i : Instr). i.pc < n) all → AreStarts all ts → AllByRecursion (λ t. t < 65535) ts
starts_inside n all [] le h s = tt
starts_inside n all (t ∷ ts) le h s = (omega (arith, start_within n all t h s.0), starts_inside n all ts le h s.1)

lead_inside : (n : ℕ) (all is : List Instr) → n ≤ 65535 → AllByRecursion (λ (i : Instr). i.pc < n) all → LeadOn all is → AllByRecursion (λ (i : Instr). AreInside i.operands) is
lead_inside n all [] le h s = tt
lead_inside n all (i ∷ is) le h s = (starts_inside n all (targets_of i.operands) le h s.0, lead_inside n all is le h s.1)

-- ---- exception entries

lesser_some : (n : ℕ) (o : Option ℕ) → places_fit (lesser (Some n) o) ≡ Ok tt → ⊥
lesser_some n None e = absurd cc
lesser_some n (Some m) e = absurd cc

places_start : (is : List Instr) (ns : List ℕ) → places_fit (least_bad is ns) ≡ Ok tt → AreStarts is ns
places_start is [] e = tt
places_start is (n ∷ ns) e = by_test (is_start is n) refl e (λ k. places_start is ns k) where
  by_test : (b : Bool) → is_start is n ≡ b → places_fit (cond b (least_bad is ns) (lesser (Some n) (least_bad is ns))) ≡ Ok tt → (places_fit (least_bad is ns) ≡ Ok tt → AreStarts is ns) → (is_start is n ≡ true) × AreStarts is ns
  by_test true q k others = (q, others k)
  by_test false q k others = absurd (lesser_some n (least_bad is ns) k)

start_places : (is : List Instr) (ns : List ℕ) → AreStarts is ns → places_fit (least_bad is ns) ≡ Ok tt
start_places is [] h = refl
start_places is (n ∷ ns) h = rw h.0 (start_places is ns h.1)

split_starts : (is : List Instr) (xs ys : List ℕ) → AreStarts is (xs ++ ys) → AreStarts is xs × AreStarts is ys
split_starts is [] ys h = (tt, h)
split_starts is (x ∷ xs) ys h = let r = split_starts is xs ys h.1 in ((h.0, r.0), r.1)

join_starts : (is : List Instr) (xs ys : List ℕ) → AreStarts is xs → AreStarts is ys → AreStarts is (xs ++ ys)
join_starts is [] ys h k = k
join_starts is (x ∷ xs) ys h k = (h.0, join_starts is xs ys h.1 k)

abbrev pub EntriesStart : ℕ → List Instr → List Handler → Type 0
EntriesStart len is hs = AllByRecursion (λ h. AreStarts is (places_of_handler len h)) hs

first_places : (len : ℕ) (x : Handler) (xs : List Handler) → flat_map (places_of_handler len) (x ∷ xs) ≡ places_of_handler len x ++ flat_map (places_of_handler len) xs
first_places len x xs = rw flat_map-cons refl

entries_start : (len : ℕ) (is : List Instr) (hs : List Handler) → AreStarts is (flat_map (places_of_handler len) hs) → EntriesStart len is hs
entries_start len is [] h = tt
entries_start len is (x ∷ xs) h = let r = split_starts is (places_of_handler len x) (flat_map (places_of_handler len) xs) (subst (AreStarts is) (first_places len x xs) h) in (r.0, entries_start len is xs r.1)

start_entries : (len : ℕ) (is : List Instr) (hs : List Handler) → EntriesStart len is hs → AreStarts is (flat_map (places_of_handler len) hs)
start_entries len is [] h = tt
start_entries len is (x ∷ xs) h = subst (AreStarts is) (sym (first_places len x xs)) (join_starts is (places_of_handler len x) (flat_map (places_of_handler len) xs) h.0 (start_entries len is xs h.1))

-- ---- the whole

module _ (pool : Entries) (handlers : List Handler) (code : List ℕ) (fits : IsBytes code) (short : length code ≤ 65535) where
  pub code_take : (is : List Instr) → instrs_of pool handlers code ≡ Ok is → SpellsInstrs pool handlers code is
  unfolding instrs_of
  code_take is e =
      let a = bind_ok (instrs_at pool code (length code) 0) (λ is. targets_fit is is >>= λ _. places_fit (least_bad is (flat_map (places_of_handler (length code)) handlers)) >>= λ _. Ok is) is e in
      let b = bind_ok (targets_fit a.0 a.0) (λ _. places_fit (least_bad a.0 (flat_map (places_of_handler (length code)) handlers)) >>= λ _. Ok a.0) is a.2 in
      let c = bind_ok (places_fit (least_bad a.0 (flat_map (places_of_handler (length code)) handlers))) (λ _. Ok a.0) is b.2 in
      let lead : LeadOn a.0 a.0 = targets_lead a.0 a.0 b.1 in
      let all = within pool code fits (length code) 0 a.0 a.1 in
      let held = instrs_take pool code fits (length code) 0 a.0 (omega arith) a.1 (lead_inside (length code) a.0 a.0 short all lead) in
      let starts = places_start a.0 (flat_map (places_of_handler (length code)) handlers) c.1 in
      let rules : AreInstrs pool handlers (length code) a.0 = record { each = held.1; targets = lead; entries = entries_start (length code) a.0 handlers starts } in
      subst (SpellsInstrs pool handlers code) (ok_is a.0 is c.2) (record { instrs = rules; holds = held.0 })

  pub code_again : (is : List Instr) → SpellsInstrs pool handlers code is → instrs_of pool handlers code ≡ Ok is
  unfolding instrs_of
  code_again is h =
      let all = held_within pool code fits 0 code is h.holds (omega arith) h.instrs.each in
      let inside = lead_inside (length code) is is short all h.instrs.targets in
      let read = instrs_again pool code fits (length code) 0 is short (omega arith) (omega arith) (h.holds, h.instrs.each) inside in
      let jumps = lead_targets is is h.instrs.targets in
      let entries = start_places is (flat_map (places_of_handler (length code)) handlers) (start_entries (length code) is handlers h.instrs.entries) in
      rw (read, jumps, entries) refl

pub is_found : (pool : Entries) (handlers : List Handler) (code : List ℕ) (r : Result (Vec Instr Global) Halt) → IsBytes code → length code ≤ 65535 → Gives (λ v. v.items) r (instrs_of pool handlers code) → IfOk r (λ v. SpellsInstrs pool handlers code v.items)
is_found pool handlers code (Ok v) fits short given = code_take pool handlers code fits short v.items given
is_found pool handlers code (Err e) fits short given = tt

-- ---- writing

pub text_holds : (at : ℕ) (is : List Instr) → AreInOrder at is → Holds at (code_text is) is
text_holds at [] h = refl
text_holds at (i ∷ is) h =
    let pad : length (zeros i.pc) ≡ padding at = zeros_long i.pc ∙ ap (λ (k : ℕ). padding k) h.0 in
    (zeros i.pc, code_text is, h.0, pad, flat_map-cons text i is, text_holds (at + length (text i)) is h.1)

-- instructions over a pool are instructions
pub over_pool : (pool : Entries) (is : List Instr) → AllByRecursion (IsInstrOver pool) is → AllByRecursion IsInstr is
over_pool pool [] h = tt
over_pool pool (i ∷ is) h = (h.0.instr, over_pool pool is h.1)

pub found_instrs : (pool : Entries) (handlers : List Handler) (code : List ℕ) (r : Result (Vec Instr Global) Halt) → IfOk r (λ v. SpellsInstrs pool handlers code v.items) → IfOk r (λ v. AllByRecursion IsInstr v.items)
found_instrs pool handlers code (Ok v) h = over_pool pool v.items h.instrs.each
found_instrs pool handlers code (Err e) h = tt
