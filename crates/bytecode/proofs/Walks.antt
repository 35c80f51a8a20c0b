-- Going through instructions and exception entries, as loops do.
use Rattle.std.proofs.Common.{◌≡◌, ℕ, zero, suc, ◌+◌, ◌-◌, ◌<◌, ◌≤◌, leb, append_assoc, Bool, true, false, cond, ℤ, List, [], ◌∷◌, ◌++◌, length, get_or, drop, map, Option, Some, None, Result, Ok, Err, refl, sym, ap, ◌∙◌, arith, drop-cons, add-one}
use Rattle.std.specs.List.{flat_map, list_all, AllByRecursion}
use Rattle.std.proofs.lemmas.List.Concat.{flat_map-cons}
use Rattle.jmodel.specs.declared.class_file.Handler.{Handler}
use Rattle.jmodel.specs.declared.instruction.Instr.{Instr}
use Rattle.jmodel.specs.declared.refusal.Refusal.{Refusal}
use Rattle.jmodel.specs.declared.refusal.Halt.{Halt}
use Rattle.jmodel.specs.declared.refusal.Halt.TheVariants as halts
use Rattle.std.proofs.lemmas.Bool.{le-leb, lt-leb}
use Rattle.std.proofs.lemmas.List.{append-nil, nil_from_length, length-drop}
use Rattle.jmodel.specs.format.ClassFile.{Pool as Entries}
use Rattle.jmodel.specs.declared.instruction.Operands.{Operands}
use Rattle.std.specs.Int.{w8}
use Rattle.jmodel.specs.format.Reading.{◌>>=◌, Fails, number_at}
use Rattle.const_pool.proofs.Takes.{bind_ok, ok_is}
use Rattle.jmodel.specs.format.Instruction.{form_of, targets_of, is_start, places_of_handler}
use Rattle.jmodel.specs.format.InstructionReading.{bad_target, as_bad, operands_as, parts_at, instr_at, instrs_at, are_starts, targets_fit, lesser, least_bad}
use Rattle.bytecode.specs.Marks.{AreMarks}

-- ---- marks

pub marked_all : (marks : List Bool) (is : List Instr) → AreMarks marks is → (ts : List ℕ) → list_all (λ t. get_or marks t false) ts ≡ list_all (is_start is) ts
marked_all marks is h [] = refl
marked_all marks is h (t ∷ ts) = rw (h.says t, marked_all marks is h ts) refl

pub marked_pairs : (marks : List Bool) (is : List Instr) → AreMarks marks is → (ps : List (ℤ × ℕ)) → list_all (λ (p : ℤ × ℕ). get_or marks p.1 false) ps ≡ list_all (is_start is) (map (λ (p : ℤ × ℕ). p.1) ps)
marked_pairs marks is h [] = refl
marked_pairs marks is h (p ∷ ps) = rw (h.says p.1, marked_pairs marks is h ps) refl

pub lead_all : (marks : List Bool) (is : List Instr) (r : Bool) (t : ℕ) (ts read : List ℕ) → AreMarks marks is → get_or marks t false ≡ true → read ≡ ts → r ≡ list_all (λ t. get_or marks t false) read → r ≡ list_all (is_start is) (t ∷ ts)
lead_all marks is r t ts read h first same e = e ∙ ap (list_all (λ t. get_or marks t false)) same ∙ marked_all marks is h ts ∙ rw (sym (h.says t) ∙ first) refl

pub lead_pairs : (marks : List Bool) (is : List Instr) (r : Bool) (t : ℕ) (ps read : List (ℤ × ℕ)) → AreMarks marks is → get_or marks t false ≡ true → read ≡ ps → r ≡ list_all (λ (p : ℤ × ℕ). get_or marks p.1 false) read → r ≡ list_all (is_start is) (t ∷ map (λ (p : ℤ × ℕ). p.1) ps)
lead_pairs marks is r t ps read h first same e = e ∙ ap (list_all (λ (p : ℤ × ℕ). get_or marks p.1 false)) same ∙ marked_pairs marks is h ps ∙ rw (sym (h.says t) ∙ first) refl

-- ---- targets

module _ (all is : List Instr) (k : ℕ) (i : Instr) where
  pub targets_on : k < length is → i ≡ get_or is k i → are_starts all (targets_of i.operands) ≡ true → targets_fit all (drop k is) ≡ targets_fit all is → targets_fit all (drop (k + 1) is) ≡ targets_fit all is
  unfolding targets_fit
  targets_on lt e good so_far =
      let here : drop k is ≡ i ∷ drop (suc k) is = drop-cons is k i lt ∙ ap (λ (x : Instr). x ∷ drop (suc k) is) (sym e) in
      let one : targets_fit all (drop k is) ≡ targets_fit all (drop (suc k) is) = rw (here, good) refl in
      rw add-one (sym one ∙ so_far)

  pub targets_stop : k < length is → i ≡ get_or is k i → are_starts all (targets_of i.operands) ≡ false → targets_fit all (drop k is) ≡ targets_fit all is → targets_fit all is ≡ Err (bad_target i.pc)
  unfolding targets_fit
  targets_stop lt e bad so_far =
      let here : drop k is ≡ i ∷ drop (suc k) is = drop-cons is k i lt ∙ ap (λ (x : Instr). x ∷ drop (suc k) is) (sym e) in
      let one : targets_fit all (drop k is) ≡ Err (bad_target i.pc) = rw (here, bad) refl in
      sym so_far ∙ one

pub targets_end : (all is : List Instr) (k : ℕ) → length is ≤ k → targets_fit all (drop k is) ≡ targets_fit all is → targets_fit all is ≡ Ok tt
unfolding targets_fit
targets_end all is k le so_far =
    let none : drop k is ≡ [] = nil_from_length (drop k is) (omega (arith, length-drop k is)) in
    sym so_far ∙ rw none refl

-- ---- the least place

lesser_none : (a : Option ℕ) → lesser a None ≡ a
lesser_none None = refl
lesser_none (Some n) = refl

lesser_assoc : (a b c : Option ℕ) → lesser (lesser a b) c ≡ lesser a (lesser b c)
lesser_assoc None b c = refl
lesser_assoc (Some n) None c = refl
lesser_assoc (Some n) (Some m) None = refl
lesser_assoc (Some n) (Some m) (Some k) = ap (λ (x : ℕ). Some x) (omega arith)

pub least_append : (is : List Instr) (xs ys : List ℕ) → least_bad is (xs ++ ys) ≡ lesser (least_bad is xs) (least_bad is ys)
least_append is [] ys = refl
least_append is (x ∷ xs) ys = by_test (is_start is x) (least_append is xs ys) where
  by_test : (b : Bool) → least_bad is (xs ++ ys) ≡ lesser (least_bad is xs) (least_bad is ys) → cond b (least_bad is (xs ++ ys)) (lesser (Some x) (least_bad is (xs ++ ys))) ≡ lesser (cond b (least_bad is xs) (lesser (Some x) (least_bad is xs))) (least_bad is ys)
  by_test true others = others
  by_test false others = rw others (sym (lesser_assoc (Some x) (least_bad is xs) (least_bad is ys)))

module _ (is : List Instr) (len : ℕ) (hs : List Handler) (k : ℕ) (before : Option ℕ) where
  abbrev pub places_from : ℕ → List ℕ
  places_from k = flat_map (places_of_handler len) (drop k hs)

  pub least_on : (d : Handler) (total : Option ℕ) → k < length hs → lesser before (least_bad is (places_from k)) ≡ total → lesser (lesser before (least_bad is (places_of_handler len (get_or hs k d)))) (least_bad is (places_from (k + 1))) ≡ total
  least_on d total lt so_far =
      let h = get_or hs k d in
      let here : drop k hs ≡ h ∷ drop (suc k) hs = drop-cons hs k d lt in
      let parts : places_from k ≡ places_of_handler len h ++ places_from (suc k) = rw (here, flat_map-cons) refl in
      let one : least_bad is (places_from k) ≡ lesser (least_bad is (places_of_handler len h)) (least_bad is (places_from (suc k))) = ap (least_bad is) parts ∙ least_append is (places_of_handler len h) (places_from (suc k)) in
      rw (lesser_assoc before (least_bad is (places_of_handler len h)) (least_bad is (places_from (k + 1))), add-one) (ap (lesser before) (sym one) ∙ so_far)

-- ---- instructions

abbrev made : ℕ → ℕ → Operands → Instr
made pc op operands = record { pc = pc; op = op; operands = operands }

-- what was read before, and what is still read
abbrev pub behind : List Instr → Result (List Instr) Refusal → Result (List Instr) Refusal
behind front read = read >>= λ is. Ok (front ++ is)

regroup : (front : List Instr) (i : Instr) (read : Result (List Instr) Refusal) → behind front (read >>= λ is. Ok (i ∷ is)) ≡ behind (front ++ i ∷ []) read
regroup front i (Ok is) = ap (λ (ys : List Instr). Ok ys) (simp append_assoc)
regroup front i (Err e) = refl

module _ (pool : Entries) (code : List ℕ) (front : List Instr) (n k at : ℕ) (total : Result (List Instr) Refusal) where
  pub instrs_on : (i : Instr) (next : ℕ) → k < n → at < length code → instr_at pool code at ≡ Ok (i, next) → behind front (instrs_at pool code (n - k) at) ≡ total → behind (front ++ i ∷ []) (instrs_at pool code (n - (k + 1)) next) ≡ total
  unfolding instrs_at
  instrs_on i next lt inside h so_far =
      let left : n - k ≡ suc (n - (k + 1)) = omega arith in
      let more : leb (length code) at ≡ false = lt-leb (length code) at inside in
      let one : behind front (instrs_at pool code (n - k) at) ≡ behind (front ++ i ∷ []) (instrs_at pool code (n - (k + 1)) next) = rw (left, more, h) (regroup front i (instrs_at pool code (n - (k + 1)) next)) in
      sym one ∙ so_far

  pub instrs_fail : (e : Halt) → k < n → at < length code → Fails e (instr_at pool code at) → behind front (instrs_at pool code (n - k) at) ≡ total → Fails e total
  unfolding instrs_at
  instrs_fail halts.NoMemory lt inside h so_far = tt
  instrs_fail (halts.Refused f) lt inside h so_far =
      let left : n - k ≡ suc (n - (k + 1)) = omega arith in
      let more : leb (length code) at ≡ false = lt-leb (length code) at inside in
      let one : behind front (instrs_at pool code (n - k) at) ≡ Err f = rw (left, more, h) refl in
      sym so_far ∙ one

  pub instrs_end : length code ≤ at → behind front (instrs_at pool code (n - k) at) ≡ total → total ≡ Ok front
  unfolding instrs_at
  instrs_end le so_far = by_count (n - k) so_far where
    by_count : (m : ℕ) → behind front (instrs_at pool code m at) ≡ total → total ≡ Ok front
    by_count zero h = sym h ∙ ap (λ (ys : List Instr). Ok ys) (append-nil front)
    by_count (suc m) h =
        let closed : leb (length code) at ≡ true = le-leb (length code) at le in
        let one : behind front (instrs_at pool code (suc m) at) ≡ Ok front = rw closed (ap (λ (ys : List Instr). Ok ys) (append-nil front)) in
        sym h ∙ one

  pub instrs_out : n ≤ k → behind front (instrs_at pool code (n - k) at) ≡ total → total ≡ Ok front
  unfolding instrs_at
  instrs_out le so_far =
      let none : n - k ≡ 0 = omega arith in
      let one : behind front (instrs_at pool code (n - k) at) ≡ Ok front = rw none (ap (λ (ys : List Instr). Ok ys) (append-nil front)) in
      sym so_far ∙ one

pub all_push : (n : ℕ) (is : List Instr) (i : Instr) → AllByRecursion (λ (x : Instr). x.pc < n) is → i.pc < n → AllByRecursion (λ (x : Instr). x.pc < n) (is ++ i ∷ [])
all_push n [] i h lt = (lt, tt)
all_push n (x ∷ xs) i h lt = (h.0, all_push n xs i h.1 lt)

pub as_bad_ok : {A : Type 0} (pc : ℕ) (r : Result A Refusal) (x : A) → as_bad pc r ≡ Ok x → r ≡ Ok x
as_bad_ok pc (Ok y) x e = e
as_bad_ok pc (Err d) x e = absurd cc

-- an instruction stands where it was read
pub pc_is : (pool : Entries) (code : List ℕ) (at : ℕ) (i : Instr) (next : ℕ) → instr_at pool code at ≡ Ok (i, next) → i.pc ≡ at
unfolding parts_at
pc_is pool code at i next e =
    let h = as_bad_ok at (parts_at pool code at) (i, next) e in
    let a = bind_ok (number_at w8 code at) (λ op. operands_as pool at (form_of op.0) code op.1 >>= λ o. Ok (record { pc = at; op = op.0; operands = o.0 }, o.1)) (i, next) h in
    let b = bind_ok (operands_as pool at (form_of a.0.0) code a.0.1) (λ o. Ok (record { pc = at; op = a.0.0; operands = o.0 }, o.1)) (i, next) a.2 in
    let same : (made at a.0.0 b.0.0, b.0.1) ≡ (i, next) = ok_is (made at a.0.0 b.0.0, b.0.1) (i, next) b.2 in
    sym (ap (λ (x : Instr × ℕ). x.0.pc) same)

-- ---- bytes

-- three texts that were put behind others
pub chained : (a b c d : List ℕ) (first second : List ℕ) → first ≡ a ++ b → second ≡ first ++ c → second ++ d ≡ a ++ (b ++ (c ++ d))
chained a b c d first second e k = ap (λ (x : List ℕ). x ++ d) (k ∙ ap (λ (x : List ℕ). x ++ c) e) ∙ append_assoc (a ++ b) c d ∙ append_assoc a b (c ++ d)
