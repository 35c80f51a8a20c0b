-- Operands that aren't a switch's: what is read is spelled so, and what is spelled so is read.
use Rattle.std.proofs.Common.{◌≡◌, ℕ, ◌+◌, ◌^◌, ◌<◌, ◌≤◌, ℤ, pos, negsuc, ◌≤ℤ◌, Bool, true, ◌&&◌, eqb, ltb, leb, List, ◌++◌, Option, Some, None, Ok, refl, sym, ap, subst, arith}
use Rattle.std.specs.Int.{Width, w8, w16, to_be_bytes}
use Rattle.std.specs.List.{AllByRecursion}
use Rattle.std.proofs.lemmas.Bool.{eqb-true, eq-eqb, leb-true, le-leb, ltb-true, lt-ltb}
use Rattle.std.proofs.lemmas.Int.{ints}
use Rattle.jmodel.specs.declared.instruction.EntryKind.{EntryKind}
use Rattle.jmodel.specs.declared.instruction.EntryKind.TheVariants as kind
use Rattle.jmodel.specs.declared.instruction.Operands.{Operands}
use Rattle.jmodel.specs.declared.instruction.Operands.TheVariants.{Number, Local, LocalAdd, Pool, Interface, Dimensions, Target}
use Rattle.jmodel.specs.format.ClassFile.{Pool as Entries, u2}
use Rattle.jmodel.specs.format.Reading.{◌>>=◌, number_at, u2_at}
use Rattle.jmodel.specs.format.Instruction.{signed, number_text, local_text, increment_text, index_text, interface_text, dimensions_text, target_text, is_entry, argument_places, targets_of, IsNumber, IsArrayType, IsLocal, IsIncrement, IsIndex, IsInterface, IsDimensions, IsTarget, Names, Counts}
use Rattle.jmodel.specs.format.InstructionReading.{bad_instr, want, signed_at, target_at, is_count, signed_operand_at, array_type_at, local_at, increment_at, entry_operand_at, interface_at, dimensions_at, jump_at}
use Rattle.const_pool.proofs.Takes.{bind_ok, ok_is, want_ok, IsBytes, Takes, Takes-then, Takes-first, Takes-second, IsWide as IsWidth, wide16, number_takes, number_again}
use Rattle.const_pool.proofs.Entries.{both_true}
use Rattle.bytecode.proofs.NumberLaws.{wide8, IsSigned, signed8, signed_takes, signed_again, target_takes, target_again}

-- targets that can be places of code
abbrev pub AreInside : Operands → Type 0
AreInside o = AllByRecursion (λ t. t < 65535) (targets_of o)

both : (a b : Bool) → a ≡ true → b ≡ true → (a && b) ≡ true
both a b p q = rw (p, q) refl

module _ (bytes : List ℕ) (fits : IsBytes bytes) where
  -- ---- numbers

  pub number_operand_takes : (w : Width) (limit : ℕ) → IsSigned w limit → (at : ℕ) (x : Operands × ℕ) → signed_operand_at w bytes at ≡ Ok x → Takes bytes at (number_text w x.0) x.1 × IsNumber w x.0
  unfolding signed_operand_at
  number_operand_takes w limit s at x e =
      let a = bind_ok (signed_at w bytes at) (λ n. Ok (Number n.0, n.1)) x e in
      subst (λ (y : Operands × ℕ). Takes bytes at (number_text w y.0) y.1 × IsNumber w y.0) (ok_is (Number a.0.0, a.0.1) x a.2) (signed_takes w limit s bytes fits at a.0 a.1)

  pub number_operand_again : (w : Width) (limit : ℕ) → IsSigned w limit → (at : ℕ) (o : Operands) (next : ℕ) → IsNumber w o → Takes bytes at (number_text w o) next → signed_operand_at w bytes at ≡ Ok (o, next)
  unfolding signed_operand_at
  number_operand_again w limit s at (Number n) next h t = rw (signed_again w limit s bytes at n next h t) refl
  number_operand_again w limit s at o next h t = absurd h

  pub array_type_takes : (pc at : ℕ) (x : Operands × ℕ) → array_type_at pc bytes at ≡ Ok x → Takes bytes at (number_text w8 x.0) x.1 × IsArrayType x.0
  unfolding array_type_at
  array_type_takes pc at x e =
      let a = bind_ok (number_at w8 bytes at) (λ n. want (leb 4 n.0 && leb n.0 11) pc (Number (pos n.0), n.1)) x e in
      let w = want_ok (leb 4 a.0.0 && leb a.0.0 11) (bad_instr pc) (Ok (Number (pos a.0.0), a.0.1)) x a.2 in
      let b = both_true (leb 4 a.0.0) (leb a.0.0 11) w.0 in
      let low : pos 4 ≤ℤ pos a.0.0 = omega (arith, ints, leb-true 4 a.0.0 b.0) in
      let high : pos a.0.0 ≤ℤ pos 11 = omega (arith, ints, leb-true a.0.0 11 b.1) in
      subst (λ (y : Operands × ℕ). Takes bytes at (number_text w8 y.0) y.1 × IsArrayType y.0) (ok_is (Number (pos a.0.0), a.0.1) x w.1) ((number_takes w8 (2 ^ 8) wide8 bytes at a.0 fits a.1).0, (low, high))

  pub array_type_again : (pc at : ℕ) (o : Operands) (next : ℕ) → IsArrayType o → Takes bytes at (number_text w8 o) next → array_type_at pc bytes at ≡ Ok (o, next)
  unfolding array_type_at
  array_type_again pc at (Number n) next h t = by_sign n h t where
    by_sign : (n : ℤ) → IsArrayType (Number n) → Takes bytes at (number_text w8 (Number n)) next → array_type_at pc bytes at ≡ Ok (Number n, next)
    by_sign (pos k) h t =
        let low : 4 ≤ k = omega (arith, ints, h.0) in
        let high : k ≤ 11 = omega (arith, ints, h.1) in
        rw (number_again w8 (2 ^ 8) wide8 bytes at k next (omega arith) t, le-leb 4 k low, le-leb k 11 high) refl
    by_sign (negsuc k) h t = absurd (omega (arith, ints, h.0))
  array_type_again pc at o next h t = absurd h

  -- ---- locals

  pub local_takes : (at : ℕ) (x : Operands × ℕ) → local_at bytes at ≡ Ok x → Takes bytes at (local_text x.0) x.1 × IsLocal x.0
  unfolding local_at
  local_takes at x e =
      let a = bind_ok (number_at w8 bytes at) (λ n. Ok (Local n.0, n.1)) x e in
      subst (λ (y : Operands × ℕ). Takes bytes at (local_text y.0) y.1 × IsLocal y.0) (ok_is (Local a.0.0, a.0.1) x a.2) (number_takes w8 (2 ^ 8) wide8 bytes at a.0 fits a.1)

  pub local_again : (at : ℕ) (o : Operands) (next : ℕ) → IsLocal o → Takes bytes at (local_text o) next → local_at bytes at ≡ Ok (o, next)
  unfolding local_at
  local_again at (Local n) next h t = rw (number_again w8 (2 ^ 8) wide8 bytes at n next h t) refl
  local_again at o next h t = absurd h

  pub increment_takes : (at : ℕ) (x : Operands × ℕ) → increment_at bytes at ≡ Ok x → Takes bytes at (increment_text x.0) x.1 × IsIncrement x.0
  unfolding increment_at
  increment_takes at x e =
      let a = bind_ok (number_at w8 bytes at) (λ n. signed_at w8 bytes n.1 >>= λ add. Ok (LocalAdd n.0 add.0, add.1)) x e in
      let b = bind_ok (signed_at w8 bytes a.0.1) (λ add. Ok (LocalAdd a.0.0 add.0, add.1)) x a.2 in
      let t0 = number_takes w8 (2 ^ 8) wide8 bytes at a.0 fits a.1 in
      let t1 = signed_takes w8 (2 ^ 8) signed8 bytes fits a.0.1 b.0 b.1 in
      subst (λ (y : Operands × ℕ). Takes bytes at (increment_text y.0) y.1 × IsIncrement y.0) (ok_is (LocalAdd a.0.0 b.0.0, b.0.1) x b.2) (Takes-then bytes at (to_be_bytes w8 a.0.0) a.0.1 (signed w8 b.0.0) b.0.1 t0.0 t1.0, (t0.1, t1.1))

  pub increment_again : (at : ℕ) (o : Operands) (next : ℕ) → IsIncrement o → Takes bytes at (increment_text o) next → increment_at bytes at ≡ Ok (o, next)
  unfolding increment_at
  increment_again at (LocalAdd n add) next h t =
      let first = number_again w8 (2 ^ 8) wide8 bytes at n (at + 1) h.0 (Takes-first bytes at (to_be_bytes w8 n) (signed w8 add) next t) in
      let second = signed_again w8 (2 ^ 8) signed8 bytes (at + 1) add next h.1 (Takes-second bytes at (to_be_bytes w8 n) (signed w8 add) next t) in
      rw (first, second) refl
  increment_again at o next h t = absurd h

  -- ---- entries

  pub index_takes : (pool : Entries) (w : Width) (limit : ℕ) → IsWidth w limit → (k : EntryKind) (pc at : ℕ) (x : Operands × ℕ) → entry_operand_at pool w k pc bytes at ≡ Ok x → Takes bytes at (index_text w x.0) x.1 × IsIndex limit x.0 × Names pool k x.0
  unfolding entry_operand_at
  index_takes pool w limit wide k pc at x e =
      let a = bind_ok (number_at w bytes at) (λ i. want (is_entry pool k i.0) pc (Pool i.0, i.1)) x e in
      let b = want_ok (is_entry pool k a.0.0) (bad_instr pc) (Ok (Pool a.0.0, a.0.1)) x a.2 in
      let t = number_takes w limit wide bytes at a.0 fits a.1 in
      subst (λ (y : Operands × ℕ). Takes bytes at (index_text w y.0) y.1 × IsIndex limit y.0 × Names pool k y.0) (ok_is (Pool a.0.0, a.0.1) x b.1) (t.0, t.1, b.0)

  pub index_again : (pool : Entries) (w : Width) (limit : ℕ) → IsWidth w limit → (k : EntryKind) (pc at : ℕ) (o : Operands) (next : ℕ) → IsIndex limit o → Names pool k o → Takes bytes at (index_text w o) next → entry_operand_at pool w k pc bytes at ≡ Ok (o, next)
  unfolding entry_operand_at
  index_again pool w limit wide k pc at (Pool i) next h named t = rw (number_again w limit wide bytes at i next h t, named) refl
  index_again pool w limit wide k pc at o next h named t = absurd h

  counted : (o : Option ℕ) (n : ℕ) → is_count o n ≡ true → o ≡ Some n
  counted None n e = absurd cc
  counted (Some k) n e = ap (λ (m : ℕ). Some m) (eqb-true k n e)

  pub interface_takes : (pool : Entries) (pc at : ℕ) (x : Operands × ℕ) → interface_at pool pc bytes at ≡ Ok x → Takes bytes at (interface_text x.0) x.1 × IsInterface x.0 × Counts pool x.0
  unfolding interface_at
  interface_takes pool pc at x e =
      let a = bind_ok (u2_at bytes at) (λ i. number_at w8 bytes i.1 >>= λ count. number_at w8 bytes count.1 >>= λ last. want (is_count (argument_places pool i.0) count.0 && eqb last.0 0) pc (Interface i.0 count.0, last.1)) x e in
      let b = bind_ok (number_at w8 bytes a.0.1) (λ count. number_at w8 bytes count.1 >>= λ last. want (is_count (argument_places pool a.0.0) count.0 && eqb last.0 0) pc (Interface a.0.0 count.0, last.1)) x a.2 in
      let c = bind_ok (number_at w8 bytes b.0.1) (λ last. want (is_count (argument_places pool a.0.0) b.0.0 && eqb last.0 0) pc (Interface a.0.0 b.0.0, last.1)) x b.2 in
      let d = want_ok (is_count (argument_places pool a.0.0) b.0.0 && eqb c.0.0 0) (bad_instr pc) (Ok (Interface a.0.0 b.0.0, c.0.1)) x c.2 in
      let right = both_true (is_count (argument_places pool a.0.0) b.0.0) (eqb c.0.0 0) d.0 in
      let t0 = number_takes w16 (2 ^ 16) wide16 bytes at a.0 fits a.1 in
      let t1 = number_takes w8 (2 ^ 8) wide8 bytes a.0.1 b.0 fits b.1 in
      let t2 = number_takes w8 (2 ^ 8) wide8 bytes b.0.1 c.0 fits c.1 in
      let last : Takes bytes b.0.1 (to_be_bytes w8 0) c.0.1 = subst (λ (k : ℕ). Takes bytes b.0.1 (to_be_bytes w8 k) c.0.1) (eqb-true c.0.0 0 right.1) t2.0 in
      let e1 = Takes-then bytes a.0.1 (to_be_bytes w8 b.0.0) b.0.1 (to_be_bytes w8 0) c.0.1 t1.0 last in
      let e0 = Takes-then bytes at (u2 a.0.0) a.0.1 (to_be_bytes w8 b.0.0 ++ to_be_bytes w8 0) c.0.1 t0.0 e1 in
      subst (λ (y : Operands × ℕ). Takes bytes at (interface_text y.0) y.1 × IsInterface y.0 × Counts pool y.0) (ok_is (Interface a.0.0 b.0.0, c.0.1) x d.1) (e0, (t0.1, t1.1), counted (argument_places pool a.0.0) b.0.0 right.0)

  pub interface_again : (pool : Entries) (pc at : ℕ) (o : Operands) (next : ℕ) → IsInterface o → Counts pool o → Takes bytes at (interface_text o) next → interface_at pool pc bytes at ≡ Ok (o, next)
  unfolding interface_at
  interface_again pool pc at (Interface i n) next h right t =
      let r0 = Takes-second bytes at (u2 i) (to_be_bytes w8 n ++ to_be_bytes w8 0) next t in
      let first = number_again w16 (2 ^ 16) wide16 bytes at i (at + 2) h.0 (Takes-first bytes at (u2 i) (to_be_bytes w8 n ++ to_be_bytes w8 0) next t) in
      let second = number_again w8 (2 ^ 8) wide8 bytes (at + 2) n (at + 2 + 1) h.1 (Takes-first bytes (at + 2) (to_be_bytes w8 n) (to_be_bytes w8 0) next r0) in
      let third = number_again w8 (2 ^ 8) wide8 bytes (at + 2 + 1) 0 next (omega arith) (Takes-second bytes (at + 2) (to_be_bytes w8 n) (to_be_bytes w8 0) next r0) in
      let same : eqb n n ≡ true = eq-eqb n n refl in
      rw (first, second, third, right, same) refl
  interface_again pool pc at o next h right t = absurd h

  pub dimensions_takes : (pool : Entries) (pc at : ℕ) (x : Operands × ℕ) → dimensions_at pool pc bytes at ≡ Ok x → Takes bytes at (dimensions_text x.0) x.1 × IsDimensions x.0 × Names pool kind.Class x.0
  unfolding dimensions_at
  dimensions_takes pool pc at x e =
      let a = bind_ok (u2_at bytes at) (λ i. number_at w8 bytes i.1 >>= λ count. want (is_entry pool kind.Class i.0 && ltb 0 count.0) pc (Dimensions i.0 count.0, count.1)) x e in
      let b = bind_ok (number_at w8 bytes a.0.1) (λ count. want (is_entry pool kind.Class a.0.0 && ltb 0 count.0) pc (Dimensions a.0.0 count.0, count.1)) x a.2 in
      let d = want_ok (is_entry pool kind.Class a.0.0 && ltb 0 b.0.0) (bad_instr pc) (Ok (Dimensions a.0.0 b.0.0, b.0.1)) x b.2 in
      let right = both_true (is_entry pool kind.Class a.0.0) (ltb 0 b.0.0) d.0 in
      let t0 = number_takes w16 (2 ^ 16) wide16 bytes at a.0 fits a.1 in
      let t1 = number_takes w8 (2 ^ 8) wide8 bytes a.0.1 b.0 fits b.1 in
      let e0 = Takes-then bytes at (u2 a.0.0) a.0.1 (to_be_bytes w8 b.0.0) b.0.1 t0.0 t1.0 in
      subst (λ (y : Operands × ℕ). Takes bytes at (dimensions_text y.0) y.1 × IsDimensions y.0 × Names pool kind.Class y.0) (ok_is (Dimensions a.0.0 b.0.0, b.0.1) x d.1) (e0, (t0.1, ltb-true 0 b.0.0 right.1, t1.1), right.0)

  pub dimensions_again : (pool : Entries) (pc at : ℕ) (o : Operands) (next : ℕ) → IsDimensions o → Names pool kind.Class o → Takes bytes at (dimensions_text o) next → dimensions_at pool pc bytes at ≡ Ok (o, next)
  unfolding dimensions_at
  dimensions_again pool pc at (Dimensions i n) next h named t =
      let first = number_again w16 (2 ^ 16) wide16 bytes at i (at + 2) h.0 (Takes-first bytes at (u2 i) (to_be_bytes w8 n) next t) in
      let second = number_again w8 (2 ^ 8) wide8 bytes (at + 2) n next h.2 (Takes-second bytes at (u2 i) (to_be_bytes w8 n) next t) in
      rw (first, second, named, lt-ltb 0 n h.1) refl
  dimensions_again pool pc at o next h named t = absurd h

  -- ---- jumps

  pub jump_takes : (w : Width) (limit : ℕ) → IsSigned w limit → (pc at : ℕ) (x : Operands × ℕ) → jump_at w pc bytes at ≡ Ok x → AreInside x.0 → Takes bytes at (target_text w pc x.0) x.1 × IsTarget w pc x.0
  unfolding jump_at
  jump_takes w limit s pc at x e inside =
      let a = bind_ok (target_at w pc bytes at) (λ t. Ok (Target t.0, t.1)) x e in
      let is = ok_is (Target a.0.0, a.0.1) x a.2 in
      let lt : AreInside (Target a.0.0) = subst (λ (y : Operands × ℕ). AreInside y.0) (sym is) inside in
      subst (λ (y : Operands × ℕ). Takes bytes at (target_text w pc y.0) y.1 × IsTarget w pc y.0) is (target_takes w limit s pc bytes fits at a.0 a.1 lt.0)

  pub jump_again : (w : Width) (limit : ℕ) → IsSigned w limit → (pc at : ℕ) (o : Operands) (next : ℕ) → IsTarget w pc o → AreInside o → Takes bytes at (target_text w pc o) next → jump_at w pc bytes at ≡ Ok (o, next)
  unfolding jump_at
  jump_again w limit s pc at (Target t) next h inside text = rw (target_again w limit s pc bytes at t next inside.0 h text) refl
  jump_again w limit s pc at o next h inside text = absurd h
