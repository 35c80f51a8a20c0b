-- The entries of a pool, one after another: second places stand behind the wide ones alone.
use Rattle.std.proofs.Common.{◌≡◌, ℕ, zero, suc, ◌+◌, ◌-◌, ◌<◌, ◌≤◌, Bool, true, false, List, [], ◌∷◌, ◌++◌, length, Ok, refl, sym, ap, subst, ◌∙◌, arith}
use Rattle.std.specs.List.{flat_map, AllByRecursion}
use Rattle.std.proofs.lemmas.List.Concat.{flat_map-cons}
use Rattle.jmodel.specs.declared.class_file.Constant.{Constant}
use Rattle.jmodel.specs.declared.class_file.Constant.TheVariants.{Utf8, Integer, Float, Long, Double, Class, Text, Field, Method, InterfaceMethod, NameAndType, Second}
use Rattle.jmodel.specs.format.ClassFile.{constant}
use Rattle.jmodel.specs.format.ClassRules.{is_wide, is_second, ArePlaced}
use Rattle.jmodel.specs.format.Reading.{◌>>=◌, items_at}
use Rattle.jmodel.specs.format.PoolReading.{Scan, after, entry_if, scan_at, entries_at}
use Rattle.const_pool.proofs.Takes.{bind_ok, ok_is, IsBytes, Takes, Takes-nothing, Takes-then, Takes-first, Takes-second}
use Rattle.const_pool.proofs.Entries.{IsPlain, constant_takes, constant_again}

abbrev scan : ℕ → Bool → ℕ → Scan
scan left due at = record { left = left; due = due; at = at }

-- what an entry that was read is, where a second place is due or not
pub record Scanned (bytes : List ℕ) (left : ℕ) (due : Bool) (at : ℕ) (c : Constant) (next : ℕ) : Type 0 where
  pub takes : Takes bytes at (constant c) next
  pub plain : IsPlain c
  pub second : is_second c ≡ due
  pub room : is_wide c ≡ true → 0 < left

module _ (bytes : List ℕ) where
  scanned : IsBytes bytes → (left : ℕ) (due : Bool) (at : ℕ) (x : Constant × ℕ) → at ≤ length bytes → entry_if due bytes left at ≡ Ok x → Scanned bytes left due at x.0 x.1
  scanned fits left true at x le e = subst (λ (y : Constant × ℕ). Scanned bytes left true at y.0 y.1) (ok_is (Second, at) x e) (record { takes = Takes-nothing bytes at le; plain = tt; second = refl; room = λ w. absurd cc })
  scanned fits left false at x le e = let t = constant_takes bytes fits left at x e in record { takes = t.0; plain = t.1; second = t.2; room = t.3 }

  is_place : (c : Constant) → is_second c ≡ true → c ≡ Second
  is_place (Utf8 b) e = absurd cc
  is_place (Integer n) e = absurd cc
  is_place (Float n) e = absurd cc
  is_place (Long n) e = absurd cc
  is_place (Double n) e = absurd cc
  is_place (Class n) e = absurd cc
  is_place (Text n) e = absurd cc
  is_place (Field a b) e = absurd cc
  is_place (Method a b) e = absurd cc
  is_place (InterfaceMethod a b) e = absurd cc
  is_place (NameAndType a b) e = absurd cc
  is_place Second e = refl

  rescanned : (left : ℕ) (due : Bool) (at : ℕ) (c : Constant) (next : ℕ) → Scanned bytes left due at c next → entry_if due bytes left at ≡ Ok (c, next)
  rescanned left true at c next s =
      let is : c ≡ Second = is_place c s.second in
      let t : Takes bytes at [] next = subst (λ (d : Constant). Takes bytes at (constant d) next) is s.takes in
      let stays : at ≡ next = omega (arith, t.moved) in
      ap (λ (n : ℕ). Ok (Second, n)) stays ∙ ap (λ (d : Constant). Ok (d, next)) (sym is)
  rescanned left false at c next s = constant_again bytes left at next c s.plain s.second s.room s.takes

  -- ---- all entries

  pub record AreScanned (n : ℕ) (due : Bool) (at : ℕ) (cs : List Constant) (next : ℕ) : Type 0 where
    pub takes : Takes bytes at (flat_map constant cs) next
    pub count : length cs ≡ n
    pub placed : ArePlaced due cs
    pub plain : AllByRecursion IsPlain cs

  scans : IsBytes bytes → (n : ℕ) (due : Bool) (at : ℕ) (x : List Constant × Scan) → at ≤ length bytes → (due ≡ true → 0 < n) → items_at (scan_at bytes) n (scan n due at) ≡ Ok x → AreScanned n due at x.0 x.1.at
  unfolding items_at scan_at
  scans fits zero due at x le room e =
      subst (λ (y : List Constant × Scan). AreScanned 0 due at y.0 y.1.at) (ok_is ([], scan 0 due at) x e) (record { takes = Takes-nothing bytes at le; count = refl; placed = not_due due room; plain = tt }) where
        not_due : (b : Bool) → (b ≡ true → 0 < 0) → b ≡ false
        not_due true h = absurd (let bad : 0 < 0 = h refl in omega arith)
        not_due false h = refl
  scans fits (suc n) due at x le room e =
      let a = bind_ok (scan_at bytes (scan (suc n) due at)) (λ first. items_at (scan_at bytes) n first.1 >>= λ others. Ok (first.0 ∷ others.0, others.1)) x e in
      let b = bind_ok (items_at (scan_at bytes) n a.0.1) (λ others. Ok (a.0.0 ∷ others.0, others.1)) x a.2 in
      let s = bind_ok (entry_if due bytes (suc n - 1) at) (λ c. Ok (after (suc n - 1) c)) a.0 a.1 in
      let one = scanned fits (suc n - 1) due at s.0 le s.1 in
      let is : after (suc n - 1) s.0 ≡ a.0 = ok_is (after (suc n - 1) s.0) a.0 s.2 in
      let pred : suc n - 1 ≡ n = omega arith in
      let state : a.0 ≡ (s.0.0, scan n (is_wide s.0.0) s.0.1) = sym is ∙ ap (λ (k : ℕ). after k s.0) pred in
      let rest : items_at (scan_at bytes) n (scan n (is_wide s.0.0) s.0.1) ≡ Ok b.0 = ap (λ (y : Constant × Scan). items_at (scan_at bytes) n y.1) (sym state) ∙ b.1 in
      let others = scans fits n (is_wide s.0.0) s.0.1 b.0 one.takes.inside (λ w. omega (arith, one.room w)) rest in
      let both = Takes-then bytes at (constant s.0.0) s.0.1 (flat_map constant b.0.0) b.0.1.at one.takes others.takes in
      let made : AreScanned (suc n) due at (s.0.0 ∷ b.0.0) b.0.1.at = record { takes = rw flat_map-cons both; count = ap suc others.count; placed = (one.second, others.placed); plain = (one.plain, others.plain) } in
      let same : (s.0.0 ∷ b.0.0, b.0.1) ≡ x = ap (λ (y : Constant × Scan). (y.0 ∷ b.0.0, b.0.1)) (sym state) ∙ ok_is (a.0.0 ∷ b.0.0, b.0.1) x b.2 in
      subst (λ (y : List Constant × Scan). AreScanned (suc n) due at y.0 y.1.at) same made

  pub entries_take : IsBytes bytes → (last at : ℕ) (x : List Constant × ℕ) → at ≤ length bytes → entries_at bytes last at ≡ Ok x → AreScanned last false at x.0 x.1
  unfolding entries_at
  entries_take fits last at x le e =
      let a = bind_ok (items_at (scan_at bytes) last (scan last false at)) (λ entries. Ok (entries.0, entries.1.at)) x e in
      let s = scans fits last false at a.0 le (λ h. absurd cc) a.1 in
      subst (λ (y : List Constant × ℕ). AreScanned last false at y.0 y.1) (ok_is (a.0.0, a.0.1.at) x a.2) s

  room_for : (c : Constant) (cs : List Constant) → ArePlaced (is_wide c) cs → is_wide c ≡ true → 0 < length cs
  room_for c [] placed w = absurd cc
  room_for c (d ∷ ds) placed w = omega arith

  rescans : (cs : List Constant) (due : Bool) (at next : ℕ) → ArePlaced due cs → AllByRecursion IsPlain cs → Takes bytes at (flat_map constant cs) next → items_at (scan_at bytes) (length cs) (scan (length cs) due at) ≡ Ok (cs, scan 0 false next)
  unfolding items_at scan_at
  rescans [] due at next placed plain t =
      let stays : at ≡ next = omega (arith, t.moved) in
      rw (placed, stays) refl
  rescans (c ∷ cs) due at next placed plain t =
      let whole : Takes bytes at (constant c ++ flat_map constant cs) next = rw flat_map-cons at t in
      let here = Takes-first bytes at (constant c) (flat_map constant cs) next whole in
      let pred : suc (length cs) - 1 ≡ length cs = omega arith in
      let one = rescanned (length cs) due at c (at + length (constant c)) (record { takes = here; plain = plain.0; second = placed.0; room = room_for c cs placed.1 }) in
      let others = rescans cs (is_wide c) (at + length (constant c)) next placed.1 plain.1 (Takes-second bytes at (constant c) (flat_map constant cs) next whole) in
      rw (pred, one, others) refl

  pub entries_again : (cs : List Constant) (at next : ℕ) → ArePlaced false cs → AllByRecursion IsPlain cs → Takes bytes at (flat_map constant cs) next → entries_at bytes (length cs) at ≡ Ok (cs, next)
  unfolding entries_at
  entries_again cs at next placed plain t = rw (rescans cs false at next placed plain t) refl
