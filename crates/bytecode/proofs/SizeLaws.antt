-- How many bytes instructions take; their targets don't count.
use Rattle.std.proofs.Common.{get_or, drop, drop-cons, add-one, lt-ltb, le-ltb, length-drop, ◌≡◌, ℕ, zero, suc, ◌+◌, ◌*◌, ◌<◌, ◌≤◌, ℤ, List, [], ◌∷◌, ◌++◌, length, Some, None, refl, sym, ap, subst, ◌∙◌, arith, length-append}
use Rattle.std.specs.Int.{w32}
use Rattle.std.specs.List.{flat_map, AllByRecursion}
use Rattle.std.proofs.lemmas.List.{length-replicate, nil_from_length}
use Rattle.std.proofs.lemmas.List.Concat.{flat_map-cons}
use Rattle.jmodel.specs.declared.instruction.Operands.TheVariants.{Table, Lookup}
use Rattle.jmodel.specs.declared.instruction.Instr.{Instr}
use Rattle.jmodel.specs.format.ClassFile.{u4}
use Rattle.jmodel.specs.format.Instruction.{signed, jump, padding, zeros, highest, pair_text, table_text, lookup_text}
use Rattle.jmodel.specs.format.Relocation.{size_at, behind}
use Rattle.bytecode.specs.Within.{within}

pub jumps_length : (pc : ℕ) (ts : List ℕ) → length (flat_map (jump w32 pc) ts) ≡ 4 * length ts
jumps_length pc [] = refl
jumps_length pc (t ∷ ts) =
    let one : length (flat_map (jump w32 pc) (t ∷ ts)) ≡ 4 + length (flat_map (jump w32 pc) ts) = omega (arith, ap length (flat_map-cons (jump w32 pc) t ts)) in
    omega (arith, one, jumps_length pc ts)

pub pairs_length : (pc : ℕ) (ps : List (ℤ × ℕ)) → length (flat_map (pair_text pc) ps) ≡ 8 * length ps
pairs_length pc [] = refl
pairs_length pc (p ∷ ps) =
    let one : length (flat_map (pair_text pc) (p ∷ ps)) ≡ 8 + length (flat_map (pair_text pc) ps) = omega (arith, ap length (flat_map-cons (pair_text pc) p ps)) in
    omega (arith, one, pairs_length pc ps)

zeros_length : (pc : ℕ) → length (zeros pc) ≡ padding pc
zeros_length pc = length-replicate (padding pc) 0

pub table_length : (pc other : ℕ) (low : ℤ) (ts : List ℕ) → length (table_text (zeros pc) pc (Table other low ts)) ≡ padding pc + 12 + 4 * length ts
table_length pc other low ts =
    let rest : List ℕ = jump w32 pc other ++ (signed w32 low ++ (signed w32 (highest low ts) ++ flat_map (jump w32 pc) ts)) in
    let tail : length rest ≡ 12 + length (flat_map (jump w32 pc) ts) = omega arith in
    omega (arith, length-append (zeros pc) rest, zeros_length pc, tail, jumps_length pc ts)

pub lookup_length : (pc other : ℕ) (ps : List (ℤ × ℕ)) → length (lookup_text (zeros pc) pc (Lookup other ps)) ≡ padding pc + 8 + 8 * length ps
lookup_length pc other ps =
    let rest : List ℕ = jump w32 pc other ++ (u4 (length ps) ++ flat_map (pair_text pc) ps) in
    let tail : length rest ≡ 8 + length (flat_map (pair_text pc) ps) = omega arith in
    omega (arith, length-append (zeros pc) rest, zeros_length pc, tail, pairs_length pc ps)

-- ---- one behind the other

pub behind_over : (at : ℕ) (is : List Instr) → at ≤ behind at is
behind_over at [] = omega arith
behind_over at (i ∷ is) = omega (arith, behind_over (at + size_at at i) is)

pub too_far : (n : ℕ) → 65535 < n → within n ≡ None
too_far n lt = rw (lt-ltb 65535 n lt) refl

pub not_far : (n m : ℕ) → n ≤ 65535 → n ≡ m → Some n ≡ within m
not_far n m le e = rw (← e, le-ltb 65535 n le) refl

module _ (at : ℕ) (is : List Instr) (k : ℕ) (i : Instr) (next total : ℕ) where
  pub behind_on : k < length is → i ≡ get_or is k i → next ≡ at + size_at at i → behind at (drop k is) ≡ total → behind next (drop (k + 1) is) ≡ total
  behind_on lt e n so_far =
      let here : drop k is ≡ i ∷ drop (suc k) is = drop-cons is k i lt ∙ ap (λ (x : Instr). x ∷ drop (suc k) is) (sym e) in
      let one : behind at (drop k is) ≡ behind next (drop (suc k) is) = rw (here, n) refl in
      rw add-one (sym one ∙ so_far)

  pub behind_end : length is ≤ k → behind at (drop k is) ≡ total → at ≡ total
  behind_end le so_far =
      let none : drop k is ≡ [] = nil_from_length (drop k is) (omega (arith, length-drop k is)) in
      let one : behind at (drop k is) ≡ at = rw none refl in
      sym one ∙ so_far

-- each of a list's parts from a place on
pub drop_each : {X : Type 0} (P : X → Type 0) (xs : List X) (k : ℕ) (x : X) → k < length xs → x ≡ get_or xs k x → AllByRecursion P xs → P x
drop_each P [] k x lt e h = absurd (omega arith)
drop_each P (y ∷ ys) zero x lt e h = subst P (sym e) h.0
drop_each P (y ∷ ys) (suc k) x lt e h = drop_each P ys k x (omega arith) e h.1
