-- Switches and wide instructions: what is read is spelled so, and what is spelled so is read.
use Rattle.std.proofs.Common.{◌≡◌, ℕ, zero, suc, ◌+◌, ◌^◌, ◌<◌, ◌≤◌, ℤ, pos, negsuc, ◌+ℤ◌, ◌-ℤ◌, ltb, List, [], ◌∷◌, ◌++◌, length, map, Option, Some, None, Ok, refl, sym, ap, subst, ◌∙◌, arith, FitsSigned}
use Rattle.std.specs.Int.{w8, w16, w32, to_be_bytes}
use Rattle.std.specs.List.{flat_map, AllByRecursion}
use Rattle.std.proofs.lemmas.Bool.{ltb-true, lt-ltb}
use Rattle.std.proofs.lemmas.Int.{ints}
use Rattle.jmodel.specs.declared.instruction.Form.{Form}
use Rattle.jmodel.specs.declared.instruction.Form.TheVariants as form
use Rattle.jmodel.specs.declared.instruction.Operands.{Operands}
use Rattle.jmodel.specs.declared.instruction.Operands.TheVariants.{Table, Lookup, Wide}
use Rattle.jmodel.specs.format.ClassFile.{u2, u4}
use Rattle.jmodel.specs.format.Reading.{◌>>=◌, run_at, number_at, u2_at, u4_at, items_at}
use Rattle.jmodel.specs.format.Instruction.{form_of, signed, distance, jump, padding, highest, pair_text, added, table_text, lookup_text, wide_text, ascend, FitsWide, IsTable, IsLookup, IsWide}
use Rattle.jmodel.specs.format.InstructionReading.{bad_instr, want, signed_at, target_at, positive, keys_from, table_of, table_at, pair_at, count_at, lookup_at, wide_of, wide_at}
use Rattle.const_pool.proofs.Takes.{bind_ok, ok_is, want_ok, IsBytes, Takes, Takes-nothing, Takes-then, Takes-first, Takes-second, run_takes, run_again, wide16, wide32, number_takes, number_again, items_again}
use Rattle.bytecode.proofs.NumberLaws.{wide8, signed16, signed32, signed_takes, signed_again, target_takes, target_again, good_items_take}
use Rattle.bytecode.proofs.FormLaws.{AreInside}

module _ (bytes : List ℕ) (fits : IsBytes bytes) where
  -- ---- wide

  -- what stands behind the local
  record IsAdded (op local : ℕ) (f : Option Form) (at : ℕ) (x : Operands × ℕ) : Type 0 where
    add : ℤ
    is : (Wide op local add, x.1) ≡ x
    takes : Takes bytes at (added f add) x.1
    fits_wide : FitsWide f add

  added_takes : (pc op local at : ℕ) (f : Option Form) (x : Operands × ℕ) → at ≤ length bytes → wide_of pc bytes op local f at ≡ Ok x → IsAdded op local f at x
  added_takes pc op local at (Some form.Local) x le e =
      subst (IsAdded op local (Some form.Local) at) (ok_is (Wide op local (pos 0), at) x e) (record { add = pos 0; is = refl; takes = Takes-nothing bytes at le; fits_wide = refl })
  added_takes pc op local at (Some form.Increment) x le e =
      let a = bind_ok (signed_at w16 bytes at) (λ add. Ok (Wide op local add.0, add.1)) x e in
      let t = signed_takes w16 (2 ^ 16) signed16 bytes fits at a.0 a.1 in
      subst (IsAdded op local (Some form.Increment) at) (ok_is (Wide op local a.0.0, a.0.1) x a.2) (record { add = a.0.0; is = refl; takes = t.0; fits_wide = t.1 })
  added_takes pc op local at f x le e = absurd cc

  added_again : (pc op local at : ℕ) (f : Option Form) (add : ℤ) (next : ℕ) → FitsWide f add → Takes bytes at (added f add) next → wide_of pc bytes op local f at ≡ Ok (Wide op local add, next)
  added_again pc op local at (Some form.Local) add next h t =
      let stays : at ≡ next = omega (arith, t.moved) in
      rw h (ap (λ (k : ℕ). Ok (Wide op local (pos 0), k)) stays)
  added_again pc op local at (Some form.Increment) add next h t = rw (signed_again w16 (2 ^ 16) signed16 bytes at add next h t) refl
  added_again pc op local at f add next h t = absurd h

  pub wide_takes : (pc at : ℕ) (x : Operands × ℕ) → wide_at pc bytes at ≡ Ok x → Takes bytes at (wide_text x.0) x.1 × IsWide x.0
  unfolding wide_at
  wide_takes pc at x e =
      let a = bind_ok (number_at w8 bytes at) (λ op. u2_at bytes op.1 >>= λ local. wide_of pc bytes op.0 local.0 (form_of op.0) local.1) x e in
      let b = bind_ok (u2_at bytes a.0.1) (λ local. wide_of pc bytes a.0.0 local.0 (form_of a.0.0) local.1) x a.2 in
      let t0 = number_takes w8 (2 ^ 8) wide8 bytes at a.0 fits a.1 in
      let t1 = number_takes w16 (2 ^ 16) wide16 bytes a.0.1 b.0 fits b.1 in
      let r = added_takes pc a.0.0 b.0.0 b.0.1 (form_of a.0.0) x t1.0.inside b.2 in
      let e1 = Takes-then bytes a.0.1 (u2 b.0.0) b.0.1 (added (form_of a.0.0) r.add) x.1 t1.0 r.takes in
      let e0 = Takes-then bytes at (to_be_bytes w8 a.0.0) a.0.1 (u2 b.0.0 ++ added (form_of a.0.0) r.add) x.1 t0.0 e1 in
      subst (λ (y : Operands × ℕ). Takes bytes at (wide_text y.0) y.1 × IsWide y.0) r.is (e0, (t0.1, t1.1, r.fits_wide))

  pub wide_again : (pc at : ℕ) (o : Operands) (next : ℕ) → IsWide o → Takes bytes at (wide_text o) next → wide_at pc bytes at ≡ Ok (o, next)
  unfolding wide_at
  wide_again pc at (Wide op local add) next h t =
      let tail : List ℕ = added (form_of op) add in
      let r0 = Takes-second bytes at (to_be_bytes w8 op) (u2 local ++ tail) next t in
      let first = number_again w8 (2 ^ 8) wide8 bytes at op (at + 1) h.0 (Takes-first bytes at (to_be_bytes w8 op) (u2 local ++ tail) next t) in
      let second = number_again w16 (2 ^ 16) wide16 bytes (at + 1) local (at + 1 + 2) h.1 (Takes-first bytes (at + 1) (u2 local) tail next r0) in
      let third = added_again pc op local (at + 1 + 2) (form_of op) add next h.2 (Takes-second bytes (at + 1) (u2 local) tail next r0) in
      rw (first, second) third
  wide_again pc at o next h t = absurd h

  -- ---- tables

  count_is : (z : ℤ) (n : ℕ) → positive z ≡ Some n → (z ≡ pos n) × (0 < n)
  count_is (pos zero) n e = absurd cc
  count_is (pos (suc k)) n e = let same : suc k ≡ n = cc in (ap pos same, omega (arith, same))
  count_is (negsuc k) n e = absurd cc

  is_count : (n : ℕ) → 0 < n → positive (pos n) ≡ Some n
  is_count zero lt = absurd (omega arith)
  is_count (suc n) lt = refl

  high_is : (low high : ℤ) (n : ℕ) → high -ℤ low +ℤ pos 1 ≡ pos n → low +ℤ pos n -ℤ pos 1 ≡ high
  high_is low high n e = omega (arith, ints, e)

  keys_again : (low : ℤ) (n : ℕ) → 0 < n → keys_from low (low +ℤ pos n -ℤ pos 1) ≡ Some n
  keys_again low n lt =
      let e : low +ℤ pos n -ℤ pos 1 -ℤ low +ℤ pos 1 ≡ pos n = omega (arith, ints) in
      rw e (is_count n lt)

  -- a target of code is not too far
  far_fits : (pc t : ℕ) → pc < 2 ^ 16 → t < 65535 → FitsSigned w32 (distance pc t)
  far_fits pc t lt lt' = by_sign (distance pc t) refl where
    by_sign : (z : ℤ) → distance pc t ≡ z → FitsSigned w32 z
    by_sign (pos k) e = let small : k < 2 ^ 31 = omega (arith, ints, e) in omega (arith, small)
    by_sign (negsuc k) e = let small : k < 2 ^ 31 = omega (arith, ints, e) in omega (arith, small)

  target_good : (pc at y next : ℕ) → target_at w32 pc bytes at ≡ Ok (y, next) → y < 65535 → Takes bytes at (jump w32 pc y) next × FitsSigned w32 (distance pc y)
  target_good pc at y next e lt = target_takes w32 (2 ^ 32) signed32 pc bytes fits at (y, next) e lt

  target_back : (pc : ℕ) → pc < 2 ^ 16 → (at y next : ℕ) → y < 65535 → Takes bytes at (jump w32 pc y) next → target_at w32 pc bytes at ≡ Ok (y, next)
  target_back pc lt at y next inside t = target_again w32 (2 ^ 32) signed32 pc bytes at y next inside (far_fits pc y lt inside) t

  -- what was read of a table behind its highest key
  targets_read : (pc other : ℕ) (low : ℤ) (at : ℕ) (o : Option ℕ) (x : Operands × ℕ) → table_of pc bytes other low o at ≡ Ok x → (n : ℕ) × (p : List ℕ × ℕ) × (o ≡ Some n) × (items_at (target_at w32 pc bytes) n at ≡ Ok p) × ((Table other low p.0, p.1) ≡ x)
  targets_read pc other low at None x e = absurd cc
  targets_read pc other low at (Some n) x e =
      let a = bind_ok (items_at (target_at w32 pc bytes) n at) (λ targets. Ok (Table other low targets.0, targets.1)) x e in
      (n, a.0, refl, a.1, ok_is (Table other low a.0.0, a.0.1) x a.2)

  pub table_takes : (pc at : ℕ) (x : Operands × ℕ) → table_at pc bytes at ≡ Ok x → AreInside x.0 → (pad : List ℕ) × (length pad ≡ padding pc) × Takes bytes at (table_text pad pc x.0) x.1 × IsTable x.0
  unfolding table_at
  table_takes pc at x e inside =
      let a = bind_ok (run_at bytes at (padding pc)) (λ pad. target_at w32 pc bytes pad.1 >>= λ other. signed_at w32 bytes other.1 >>= λ low. signed_at w32 bytes low.1 >>= λ high. table_of pc bytes other.0 low.0 (keys_from low.0 high.0) high.1) x e in
      let b = bind_ok (target_at w32 pc bytes a.0.1) (λ other. signed_at w32 bytes other.1 >>= λ low. signed_at w32 bytes low.1 >>= λ high. table_of pc bytes other.0 low.0 (keys_from low.0 high.0) high.1) x a.2 in
      let c = bind_ok (signed_at w32 bytes b.0.1) (λ low. signed_at w32 bytes low.1 >>= λ high. table_of pc bytes b.0.0 low.0 (keys_from low.0 high.0) high.1) x b.2 in
      let d = bind_ok (signed_at w32 bytes c.0.1) (λ high. table_of pc bytes b.0.0 c.0.0 (keys_from c.0.0 high.0) high.1) x c.2 in
      let r = targets_read pc b.0.0 c.0.0 d.0.1 (keys_from c.0.0 d.0.0) x d.2 in
      let good : AreInside (Table b.0.0 c.0.0 r.1.0) = subst (λ (y : Operands × ℕ). AreInside y.0) (sym r.4) inside in
      let t0 = run_takes bytes at (padding pc) a.0 a.1 in
      let t1 = target_takes w32 (2 ^ 32) signed32 pc bytes fits a.0.1 b.0 b.1 good.0 in
      let t2 = signed_takes w32 (2 ^ 32) signed32 bytes fits b.0.1 c.0 c.1 in
      let t3 = signed_takes w32 (2 ^ 32) signed32 bytes fits c.0.1 d.0 d.1 in
      let t4 = good_items_take bytes (target_at w32 pc bytes) (jump w32 pc) (λ t. t < 65535) (λ t. FitsSigned w32 (distance pc t)) (target_good pc) r.0 d.0.1 r.1 t3.0.inside r.3 good.1 in
      let k = count_is (d.0.0 -ℤ c.0.0 +ℤ pos 1) r.0 r.2 in
      let top : highest c.0.0 r.1.0 ≡ d.0.0 = ap (λ (m : ℕ). c.0.0 +ℤ pos m -ℤ pos 1) t4.1 ∙ high_is c.0.0 d.0.0 r.0 k.0 in
      let high : Takes bytes c.0.1 (signed w32 (highest c.0.0 r.1.0)) d.0.1 × FitsSigned w32 (highest c.0.0 r.1.0) = subst (λ (z : ℤ). Takes bytes c.0.1 (signed w32 z) d.0.1 × FitsSigned w32 z) (sym top) t3 in
      let list : List ℕ = flat_map (jump w32 pc) r.1.0 in
      let e3 = Takes-then bytes c.0.1 (signed w32 (highest c.0.0 r.1.0)) d.0.1 list r.1.1 high.0 t4.0 in
      let e2 = Takes-then bytes b.0.1 (signed w32 c.0.0) c.0.1 (signed w32 (highest c.0.0 r.1.0) ++ list) r.1.1 t2.0 e3 in
      let e1 = Takes-then bytes a.0.1 (jump w32 pc b.0.0) b.0.1 (signed w32 c.0.0 ++ (signed w32 (highest c.0.0 r.1.0) ++ list)) r.1.1 t1.0 e2 in
      let e0 = Takes-then bytes at a.0.0 a.0.1 (jump w32 pc b.0.0 ++ (signed w32 c.0.0 ++ (signed w32 (highest c.0.0 r.1.0) ++ list))) r.1.1 t0.0 e1 in
      let some : 0 < length r.1.0 = omega (arith, t4.1, k.1) in
      subst (λ (y : Operands × ℕ). (pad : List ℕ) × (length pad ≡ padding pc) × Takes bytes at (table_text pad pc y.0) y.1 × IsTable y.0) r.4 (a.0.0, t0.1, e0, (some, t2.1, high.1))

  pub table_again : (pc : ℕ) → pc < 2 ^ 16 → (at : ℕ) (pad : List ℕ) (o : Operands) (next : ℕ) → length pad ≡ padding pc → IsTable o → AreInside o → Takes bytes at (table_text pad pc o) next → table_at pc bytes at ≡ Ok (o, next)
  unfolding table_at
  table_again pc lt at pad (Table other low targets) next len h inside t =
      let m : ℕ = at + length pad in
      let x1 : List ℕ = jump w32 pc other in
      let x2 : List ℕ = signed w32 low in
      let x3 : List ℕ = signed w32 (highest low targets) in
      let x4 : List ℕ = flat_map (jump w32 pc) targets in
      let r0 = Takes-second bytes at pad (x1 ++ (x2 ++ (x3 ++ x4))) next t in
      let r1 = Takes-second bytes m x1 (x2 ++ (x3 ++ x4)) next r0 in
      let r2 = Takes-second bytes (m + 4) x2 (x3 ++ x4) next r1 in
      let r3 = Takes-second bytes (m + 4 + 4) x3 x4 next r2 in
      let padded = run_again bytes at (padding pc) pad m len (Takes-first bytes at pad (x1 ++ (x2 ++ (x3 ++ x4))) next t) in
      let first = target_back pc lt m other (m + 4) inside.0 (Takes-first bytes m x1 (x2 ++ (x3 ++ x4)) next r0) in
      let second = signed_again w32 (2 ^ 32) signed32 bytes (m + 4) low (m + 4 + 4) h.1 (Takes-first bytes (m + 4) x2 (x3 ++ x4) next r1) in
      let third = signed_again w32 (2 ^ 32) signed32 bytes (m + 4 + 4) (highest low targets) (m + 4 + 4 + 4) h.2 (Takes-first bytes (m + 4 + 4) x3 x4 next r2) in
      let keys : keys_from low (highest low targets) ≡ Some (length targets) = keys_again low (length targets) h.0 in
      let list = items_again bytes (target_at w32 pc bytes) (jump w32 pc) (λ t. t < 65535) (λ at y next h t. target_back pc lt at y next h t) targets (m + 4 + 4 + 4) next inside.1 r3 in
      rw (padded, first, second, third, keys, list) refl
  table_again pc lt at pad o next len h inside t = absurd h

  -- ---- pairs

  pair_good : (pc at : ℕ) (p : ℤ × ℕ) (next : ℕ) → pair_at pc bytes at ≡ Ok (p, next) → p.1 < 65535 → Takes bytes at (pair_text pc p) next × FitsSigned w32 p.0
  unfolding pair_at
  pair_good pc at p next e lt =
      let a = bind_ok (signed_at w32 bytes at) (λ key. target_at w32 pc bytes key.1 >>= λ t. Ok ((key.0, t.0), t.1)) (p, next) e in
      let b = bind_ok (target_at w32 pc bytes a.0.1) (λ t. Ok ((a.0.0, t.0), t.1)) (p, next) a.2 in
      let is = ok_is ((a.0.0, b.0.0), b.0.1) (p, next) b.2 in
      let inside : b.0.0 < 65535 = subst (λ (y : (ℤ × ℕ) × ℕ). y.0.1 < 65535) (sym is) lt in
      let t0 = signed_takes w32 (2 ^ 32) signed32 bytes fits at a.0 a.1 in
      let t1 = target_takes w32 (2 ^ 32) signed32 pc bytes fits a.0.1 b.0 b.1 inside in
      subst (λ (y : (ℤ × ℕ) × ℕ). Takes bytes at (pair_text pc y.0) y.1 × FitsSigned w32 y.0.0) is (Takes-then bytes at (signed w32 a.0.0) a.0.1 (jump w32 pc b.0.0) b.0.1 t0.0 t1.0, t0.1)

  abbrev IsGoodPair : ℤ × ℕ → Type 0
  IsGoodPair p = (p.1 < 65535) × FitsSigned w32 p.0

  pair_back : (pc : ℕ) → pc < 2 ^ 16 → (at : ℕ) (p : ℤ × ℕ) (next : ℕ) → IsGoodPair p → Takes bytes at (pair_text pc p) next → pair_at pc bytes at ≡ Ok (p, next)
  unfolding pair_at
  pair_back pc lt at p next h t =
      let first = signed_again w32 (2 ^ 32) signed32 bytes at p.0 (at + 4) h.1 (Takes-first bytes at (signed w32 p.0) (jump w32 pc p.1) next t) in
      let second = target_back pc lt (at + 4) p.1 next h.0 (Takes-second bytes at (signed w32 p.0) (jump w32 pc p.1) next t) in
      rw (first, second) refl

  abbrev target_in : ℤ × ℕ → ℕ
  target_in p = p.1

  pairs_inside : (ps : List (ℤ × ℕ)) → AllByRecursion (λ t. t < 65535) (map target_in ps) → AllByRecursion (λ (p : ℤ × ℕ). p.1 < 65535) ps
  pairs_inside [] h = tt
  pairs_inside (p ∷ ps) h = (h.0, pairs_inside ps h.1)

  good_pairs : (ps : List (ℤ × ℕ)) → AllByRecursion (λ t. t < 65535) (map target_in ps) → AllByRecursion (λ (p : ℤ × ℕ). FitsSigned w32 p.0) ps → AllByRecursion IsGoodPair ps
  good_pairs [] h k = tt
  good_pairs (p ∷ ps) h k = ((h.0, k.0), good_pairs ps h.1 k.1)

  count_takes : (pc at : ℕ) (x : ℕ × ℕ) → count_at pc bytes at ≡ Ok x → Takes bytes at (u4 x.0) x.1 × (x.0 < 2 ^ 31)
  unfolding count_at
  count_takes pc at x e =
      let a = bind_ok (u4_at bytes at) (λ n. want (ltb n.0 (2 ^ 31)) pc n) x e in
      let w = want_ok (ltb a.0.0 (2 ^ 31)) (bad_instr pc) (Ok a.0) x a.2 in
      let t = number_takes w32 (2 ^ 32) wide32 bytes at a.0 fits a.1 in
      subst (λ (y : ℕ × ℕ). Takes bytes at (u4 y.0) y.1 × (y.0 < 2 ^ 31)) (ok_is a.0 x w.1) (t.0, ltb-true a.0.0 (2 ^ 31) w.0)

  count_again : (pc at n next : ℕ) → n < 2 ^ 31 → Takes bytes at (u4 n) next → count_at pc bytes at ≡ Ok (n, next)
  unfolding count_at
  count_again pc at n next lt t = rw (number_again w32 (2 ^ 32) wide32 bytes at n next (omega arith) t, lt-ltb n (2 ^ 31) lt) refl

  pub lookup_takes : (pc at : ℕ) (x : Operands × ℕ) → lookup_at pc bytes at ≡ Ok x → AreInside x.0 → (pad : List ℕ) × (length pad ≡ padding pc) × Takes bytes at (lookup_text pad pc x.0) x.1 × IsLookup x.0
  unfolding lookup_at
  lookup_takes pc at x e inside =
      let a = bind_ok (run_at bytes at (padding pc)) (λ pad. target_at w32 pc bytes pad.1 >>= λ other. count_at pc bytes other.1 >>= λ count. items_at (pair_at pc bytes) count.0 count.1 >>= λ pairs. want (ascend pairs.0) pc (Lookup other.0 pairs.0, pairs.1)) x e in
      let b = bind_ok (target_at w32 pc bytes a.0.1) (λ other. count_at pc bytes other.1 >>= λ count. items_at (pair_at pc bytes) count.0 count.1 >>= λ pairs. want (ascend pairs.0) pc (Lookup other.0 pairs.0, pairs.1)) x a.2 in
      let c = bind_ok (count_at pc bytes b.0.1) (λ count. items_at (pair_at pc bytes) count.0 count.1 >>= λ pairs. want (ascend pairs.0) pc (Lookup b.0.0 pairs.0, pairs.1)) x b.2 in
      let d = bind_ok (items_at (pair_at pc bytes) c.0.0 c.0.1) (λ pairs. want (ascend pairs.0) pc (Lookup b.0.0 pairs.0, pairs.1)) x c.2 in
      let w = want_ok (ascend d.0.0) (bad_instr pc) (Ok (Lookup b.0.0 d.0.0, d.0.1)) x d.2 in
      let is = ok_is (Lookup b.0.0 d.0.0, d.0.1) x w.1 in
      let good : AreInside (Lookup b.0.0 d.0.0) = subst (λ (y : Operands × ℕ). AreInside y.0) (sym is) inside in
      let t0 = run_takes bytes at (padding pc) a.0 a.1 in
      let t1 = target_takes w32 (2 ^ 32) signed32 pc bytes fits a.0.1 b.0 b.1 good.0 in
      let t2 = count_takes pc b.0.1 c.0 c.1 in
      let t3 = good_items_take bytes (pair_at pc bytes) (pair_text pc) (λ p. p.1 < 65535) (λ p. FitsSigned w32 p.0) (pair_good pc) c.0.0 c.0.1 d.0 t2.0.inside d.1 (pairs_inside d.0.0 good.1) in
      let count : Takes bytes b.0.1 (u4 (length d.0.0)) c.0.1 × (length d.0.0 < 2 ^ 31) = subst (λ (n : ℕ). Takes bytes b.0.1 (u4 n) c.0.1 × (n < 2 ^ 31)) (sym t3.1) t2 in
      let list : List ℕ = flat_map (pair_text pc) d.0.0 in
      let e2 = Takes-then bytes b.0.1 (u4 (length d.0.0)) c.0.1 list d.0.1 count.0 t3.0 in
      let e1 = Takes-then bytes a.0.1 (jump w32 pc b.0.0) b.0.1 (u4 (length d.0.0) ++ list) d.0.1 t1.0 e2 in
      let e0 = Takes-then bytes at a.0.0 a.0.1 (jump w32 pc b.0.0 ++ (u4 (length d.0.0) ++ list)) d.0.1 t0.0 e1 in
      subst (λ (y : Operands × ℕ). (pad : List ℕ) × (length pad ≡ padding pc) × Takes bytes at (lookup_text pad pc y.0) y.1 × IsLookup y.0) is (a.0.0, t0.1, e0, (count.1, t3.2, w.0))

  pub lookup_again : (pc : ℕ) → pc < 2 ^ 16 → (at : ℕ) (pad : List ℕ) (o : Operands) (next : ℕ) → length pad ≡ padding pc → IsLookup o → AreInside o → Takes bytes at (lookup_text pad pc o) next → lookup_at pc bytes at ≡ Ok (o, next)
  unfolding lookup_at
  lookup_again pc lt at pad (Lookup other pairs) next len h inside t =
      let m : ℕ = at + length pad in
      let x1 : List ℕ = jump w32 pc other in
      let x2 : List ℕ = u4 (length pairs) in
      let x3 : List ℕ = flat_map (pair_text pc) pairs in
      let r0 = Takes-second bytes at pad (x1 ++ (x2 ++ x3)) next t in
      let r1 = Takes-second bytes m x1 (x2 ++ x3) next r0 in
      let r2 = Takes-second bytes (m + 4) x2 x3 next r1 in
      let padded = run_again bytes at (padding pc) pad m len (Takes-first bytes at pad (x1 ++ (x2 ++ x3)) next t) in
      let first = target_back pc lt m other (m + 4) inside.0 (Takes-first bytes m x1 (x2 ++ x3) next r0) in
      let second = count_again pc (m + 4) (length pairs) (m + 4 + 4) h.0 (Takes-first bytes (m + 4) x2 x3 next r1) in
      let list = items_again bytes (pair_at pc bytes) (pair_text pc) IsGoodPair (λ at y next h t. pair_back pc lt at y next h t) pairs (m + 4 + 4) next (good_pairs pairs inside.1 h.1) r2 in
      rw (padded, first, second, list, h.2) refl
  lookup_again pc lt at pad o next len h inside t = absurd h
