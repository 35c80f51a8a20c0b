-- An entry that is read is spelled so, and what is spelled so is read.
use Rattle.std.proofs.Common.{◌≡◌, ℕ, suc, ◌+◌, ◌^◌, ◌<◌, ◌≤◌, Bool, true, false, not, cond, eqb, ltb, ◌&&◌, ◌||◌, List, [], ◌∷◌, ◌++◌, length, get_or, Option, Some, None, Result, Ok, Err, refl, sym, ap, subst, ◌∙◌, arith, inl, inr, ◌⊎◌, FitsSigned, ◌≢◌}
use Rattle.std.specs.Prelude.{position}
use Rattle.std.specs.Int.{w16, w32, w64, cast_signed, cast_unsigned}
use Rattle.std.specs.List.{AllByRecursion, position_or_len}
use Rattle.std.proofs.Math.Facts.{sfits_to_z, Fits-of_z}
use Rattle.std.proofs.lemmas.Int.{of_z-to_z, to_z-of_z}
use Rattle.std.proofs.lemmas.Bool.{eqb-true, eqb-false, ltb-true, ltb-false, lt-ltb, le-ltb, ne_eqb}
use Rattle.jmodel.specs.declared.class_file.Constant.{Constant}
use Rattle.jmodel.specs.declared.class_file.Constant.TheVariants.{Utf8, Integer, Float, Long, Double, Class, Text, Field, Method, InterfaceMethod, NameAndType, Second}
use Rattle.jmodel.specs.declared.refusal.Refusal.{Refusal}
use Rattle.jmodel.specs.declared.refusal.Refusal.TheVariants.{BadTag}
use Rattle.jmodel.specs.format.ClassFile.{u2, u4, u8, constant}
use Rattle.jmodel.specs.format.ClassRules.{IsTwoBytes, IsTextByte, is_wide, is_second}
use Rattle.jmodel.specs.format.Reading.{◌>>=◌, place, run_at, u2_at, u4_at, u8_at}
use Rattle.jmodel.specs.format.PoolReading.{is_bad_byte, text_of, text_at, word_at, wide_at, index_at, of_pair, pair_at, tagged_at, constant_at}
use Rattle.const_pool.proofs.Takes.{bind_ok, ok_is, IsBytes, Takes, Takes-then, Takes-first, Takes-second, run_takes, run_again, wide16, wide32, wide64, number_takes, number_again}

-- an entry's own limits
abbrev pub IsPlain : Constant → Type 0
IsPlain (Utf8 bytes) = (length bytes < 2 ^ 16) × AllByRecursion IsTextByte bytes
IsPlain (Integer n) = FitsSigned w32 n
IsPlain (Float bits) = bits < 2 ^ 32
IsPlain (Long n) = FitsSigned w64 n
IsPlain (Double bits) = bits < 2 ^ 64
IsPlain (Class name) = IsTwoBytes name
IsPlain (Text text) = IsTwoBytes text
IsPlain (Field a b) = IsTwoBytes a × IsTwoBytes b
IsPlain (Method a b) = IsTwoBytes a × IsTwoBytes b
IsPlain (InterfaceMethod a b) = IsTwoBytes a × IsTwoBytes b
IsPlain (NameAndType a b) = IsTwoBytes a × IsTwoBytes b
IsPlain Second = Unit {0}

-- which way a test went
pub chosen : {A : Type 0} (b : Bool) (x y z : A) → cond b x y ≡ z → ((b ≡ true) × (x ≡ z)) ⊎ ((b ≡ false) × (y ≡ z))
chosen true x y z e = inl (refl, e)
chosen false x y z e = inr (refl, e)

pub either : (a b : Bool) → (a || b) ≡ true → (a ≡ true) ⊎ (b ≡ true)
either true b e = inl refl
either false b e = inr e

pub both_true : (a b : Bool) → (a && b) ≡ true → (a ≡ true) × (b ≡ true)
both_true true b e = (refl, e)
both_true false b e = absurd cc

-- ---- texts

pub none_passes : {X : Type 0} (p : X → Bool) (xs : List X) → length xs ≤ position_or_len p xs → AllByRecursion (λ x. p x ≡ false) xs
none_passes p [] h = tt
none_passes p (x ∷ xs) h = by_test (p x) refl h (λ le. none_passes p xs le) where
  by_test : (b : Bool) → p x ≡ b → suc (length xs) ≤ cond (not b) (1 + position_or_len p xs) 0 → (length xs ≤ position_or_len p xs → AllByRecursion (λ x. p x ≡ false) xs) → (p x ≡ false) × AllByRecursion (λ x. p x ≡ false) xs
  by_test true e le others = absurd (omega arith)
  by_test false e le others = (e, others (omega arith))

pub passes_none : {X : Type 0} (p : X → Bool) (xs : List X) → AllByRecursion (λ x. p x ≡ false) xs → position_or_len p xs ≡ length xs
passes_none p [] h = refl
passes_none p (x ∷ xs) h = let one : cond (not (p x)) (1 + position_or_len p xs) 0 ≡ 1 + position_or_len p xs = rw h.0 refl in one ∙ omega (arith, passes_none p xs h.1)

pub nowhere : {X : Type 0} (p : X → Bool) (xs : List X) → position p xs ≡ None → AllByRecursion (λ x. p x ≡ false) xs
nowhere p xs e = by_test (ltb (position_or_len p xs) (length xs)) refl e where
  by_test : (b : Bool) → ltb (position_or_len p xs) (length xs) ≡ b → cond b (Some (position_or_len p xs)) None ≡ None → AllByRecursion (λ x. p x ≡ false) xs
  by_test true l h = absurd cc
  by_test false l h = none_passes p xs (ltb-false _ _ l)

pub no_place : {X : Type 0} (p : X → Bool) (xs : List X) → AllByRecursion (λ x. p x ≡ false) xs → position p xs ≡ None
no_place p xs h = let past : ltb (position_or_len p xs) (length xs) ≡ false = le-ltb _ _ (omega (arith, passes_none p xs h)) in rw past refl

good : (b : ℕ) → is_bad_byte b ≡ false → IsTextByte b
good b e = by_test (eqb b 0) refl e where
  by_test : (t : Bool) → eqb b 0 ≡ t → (t || ltb 239 b) ≡ false → IsTextByte b
  by_test true p h = absurd cc
  by_test false p h = (omega (arith, eqb-false b 0 p), omega (arith, ltb-false 239 b h))

not_bad : (b : ℕ) → IsTextByte b → is_bad_byte b ≡ false
not_bad b h = let no : eqb b 0 ≡ false = ne_eqb b 0 (λ e. omega arith) in rw no (le-ltb 239 b (omega arith))

pub good_text : (xs : List ℕ) → AllByRecursion (λ x. is_bad_byte x ≡ false) xs → AllByRecursion IsTextByte xs
good_text [] h = tt
good_text (x ∷ xs) h = (good x h.0, good_text xs h.1)

pub text_good : (xs : List ℕ) → AllByRecursion IsTextByte xs → AllByRecursion (λ x. is_bad_byte x ≡ false) xs
text_good [] h = tt
text_good (x ∷ xs) h = (not_bad x h.0, text_good xs h.1)

-- ---- an entry behind its tag

pub record IsEntry (bytes : List ℕ) (left tag at : ℕ) (c : Constant) (next : ℕ) : Type 0 where
  pub body : List ℕ
  pub is : constant c ≡ tag ∷ body
  pub takes : Takes bytes at body next
  pub plain : IsPlain c
  pub first : is_second c ≡ false
  pub room : is_wide c ≡ true → 0 < left

module _ (bytes : List ℕ) (fits : IsBytes bytes) (left : ℕ) where
  text_takes : (at : ℕ) (x : Constant × ℕ) → text_at bytes at ≡ Ok x → IsEntry bytes left 1 at x.0 x.1
  unfolding text_at
  text_takes at x e =
      let a = bind_ok (u2_at bytes at) (λ n. run_at bytes n.1 n.0 >>= λ run. text_of n.1 run (position is_bad_byte run.0)) x e in
      let b = bind_ok (run_at bytes a.0.1 a.0.0) (λ run. text_of a.0.1 run (position is_bad_byte run.0)) x a.2 in
      let n = number_takes w16 (2 ^ 16) wide16 bytes at a.0 fits a.1 in
      let r = run_takes bytes a.0.1 a.0.0 b.0 b.1 in
      let len : Takes bytes at (u2 (length b.0.0)) a.0.1 = subst (λ (k : ℕ). Takes bytes at (u2 k) a.0.1) (sym r.1) n.0 in
      let both = Takes-then bytes at (u2 (length b.0.0)) a.0.1 b.0.0 b.0.1 len r.0 in
      by_place a.0.1 b.0.1 b.0.0 (position is_bad_byte b.0.0) refl b.2 (omega (arith, r.1, n.1)) both where
        by_place : (start next : ℕ) (text : List ℕ) (o : Option ℕ) → position is_bad_byte text ≡ o → text_of start (text, next) o ≡ Ok x → length text < 2 ^ 16 → Takes bytes at (u2 (length text) ++ text) next → IsEntry bytes left 1 at x.0 x.1
        by_place start next text None p h short t =
            subst (λ (y : Constant × ℕ). IsEntry bytes left 1 at y.0 y.1) (ok_is (Utf8 text, next) x h) (record { body = u2 (length text) ++ text; is = refl; takes = t; plain = (short, good_text text (nowhere is_bad_byte text p)); first = refl; room = λ w. absurd cc })
        by_place start next text (Some i) p h short t = absurd cc

  word_takes : (tag at : ℕ) (x : Constant × ℕ) → (eqb tag 3 || eqb tag 4) ≡ true → word_at tag bytes at ≡ Ok x → IsEntry bytes left tag at x.0 x.1
  unfolding word_at
  word_takes tag at x which e =
      let a = bind_ok (u4_at bytes at) (λ n. Ok (cond (eqb tag 3) (Integer (cast_signed w32 n.0)) (Float n.0), n.1)) x e in
      let n = number_takes w32 (2 ^ 32) wide32 bytes at a.0 fits a.1 in
      subst (λ (y : Constant × ℕ). IsEntry bytes left tag at y.0 y.1) (ok_is (cond (eqb tag 3) (Integer (cast_signed w32 a.0.0)) (Float a.0.0), a.0.1) x a.2) (by_tag (eqb tag 3) refl which a.0.0 a.0.1 n) where
        by_tag : (b : Bool) → eqb tag 3 ≡ b → (b || eqb tag 4) ≡ true → (n next : ℕ) → Takes bytes at (u4 n) next × (n < 2 ^ 32) → IsEntry bytes left tag at (cond b (Integer (cast_signed w32 n)) (Float n)) next
        by_tag true p w n next t =
            record { body = u4 n; is = ap (λ (k : ℕ). 3 ∷ u4 k) (of_z-to_z w32 n t.1) ∙ ap (λ (k : ℕ). k ∷ u4 n) (sym (eqb-true tag 3 p)); takes = t.0; plain = sfits_to_z (record { fits = t.1 }); first = refl; room = λ w. absurd cc }
        by_tag false p w n next t = record { body = u4 n; is = ap (λ (k : ℕ). k ∷ u4 n) (sym (eqb-true tag 4 w)); takes = t.0; plain = t.1; first = refl; room = λ w. absurd cc }

  wide_takes : (tag at : ℕ) (x : Constant × ℕ) → (eqb tag 5 || eqb tag 6) ≡ true → 0 < left → wide_at tag bytes at ≡ Ok x → IsEntry bytes left tag at x.0 x.1
  unfolding wide_at
  wide_takes tag at x which room e =
      let a = bind_ok (u8_at bytes at) (λ n. Ok (cond (eqb tag 5) (Long (cast_signed w64 n.0)) (Double n.0), n.1)) x e in
      let n = number_takes w64 (2 ^ 64) wide64 bytes at a.0 fits a.1 in
      subst (λ (y : Constant × ℕ). IsEntry bytes left tag at y.0 y.1) (ok_is (cond (eqb tag 5) (Long (cast_signed w64 a.0.0)) (Double a.0.0), a.0.1) x a.2) (by_tag (eqb tag 5) refl which a.0.0 a.0.1 n) where
        by_tag : (b : Bool) → eqb tag 5 ≡ b → (b || eqb tag 6) ≡ true → (n next : ℕ) → Takes bytes at (u8 n) next × (n < 2 ^ 64) → IsEntry bytes left tag at (cond b (Long (cast_signed w64 n)) (Double n)) next
        by_tag true p w n next t =
            record { body = u8 n; is = ap (λ (k : ℕ). 5 ∷ u8 k) (of_z-to_z w64 n t.1) ∙ ap (λ (k : ℕ). k ∷ u8 n) (sym (eqb-true tag 5 p)); takes = t.0; plain = sfits_to_z (record { fits = t.1 }); first = refl; room = λ _. room }
        by_tag false p w n next t = record { body = u8 n; is = ap (λ (k : ℕ). k ∷ u8 n) (sym (eqb-true tag 6 w)); takes = t.0; plain = t.1; first = refl; room = λ _. room }

  index_takes : (tag at : ℕ) (x : Constant × ℕ) → (eqb tag 7 || eqb tag 8) ≡ true → index_at tag bytes at ≡ Ok x → IsEntry bytes left tag at x.0 x.1
  unfolding index_at
  index_takes tag at x which e =
      let a = bind_ok (u2_at bytes at) (λ n. Ok (cond (eqb tag 7) (Class n.0) (Text n.0), n.1)) x e in
      let n = number_takes w16 (2 ^ 16) wide16 bytes at a.0 fits a.1 in
      subst (λ (y : Constant × ℕ). IsEntry bytes left tag at y.0 y.1) (ok_is (cond (eqb tag 7) (Class a.0.0) (Text a.0.0), a.0.1) x a.2) (by_tag (eqb tag 7) refl which a.0.0 a.0.1 n) where
        by_tag : (b : Bool) → eqb tag 7 ≡ b → (b || eqb tag 8) ≡ true → (n next : ℕ) → Takes bytes at (u2 n) next × (n < 2 ^ 16) → IsEntry bytes left tag at (cond b (Class n) (Text n)) next
        by_tag true p w n next t = record { body = u2 n; is = ap (λ (k : ℕ). k ∷ u2 n) (sym (eqb-true tag 7 p)); takes = t.0; plain = t.1; first = refl; room = λ w. absurd cc }
        by_tag false p w n next t = record { body = u2 n; is = ap (λ (k : ℕ). k ∷ u2 n) (sym (eqb-true tag 8 w)); takes = t.0; plain = t.1; first = refl; room = λ w. absurd cc }

  abbrev Made : ℕ → ℕ → ℕ → ℕ → ℕ → Constant → Type 0
  Made tag at a b next c = Takes bytes at (u2 a ++ u2 b) next → a < 2 ^ 16 → b < 2 ^ 16 → IsEntry bytes left tag at c next

  pair_takes : (tag at : ℕ) (x : Constant × ℕ) → 8 < tag → tag < 13 → pair_at tag bytes at ≡ Ok x → IsEntry bytes left tag at x.0 x.1
  unfolding pair_at
  pair_takes tag at x low high e =
      let a = bind_ok (u2_at bytes at) (λ a. u2_at bytes a.1 >>= λ b. Ok (of_pair tag a.0 b.0, b.1)) x e in
      let b = bind_ok (u2_at bytes a.0.1) (λ b. Ok (of_pair tag a.0.0 b.0, b.1)) x a.2 in
      let n = number_takes w16 (2 ^ 16) wide16 bytes at a.0 fits a.1 in
      let m = number_takes w16 (2 ^ 16) wide16 bytes a.0.1 b.0 fits b.1 in
      subst (λ (y : Constant × ℕ). IsEntry bytes left tag at y.0 y.1) (ok_is (of_pair tag a.0.0 b.0.0, b.0.1) x b.2) (nine (eqb tag 9) refl a.0.0 b.0.0 b.0.1 (Takes-then bytes at (u2 a.0.0) a.0.1 (u2 b.0.0) b.0.1 n.0 m.0) n.1 m.1) where
        eleven : (p : Bool) → eqb tag 11 ≡ p → tag ≢ 9 → tag ≢ 10 → (a b next : ℕ) → Made tag at a b next (cond p (InterfaceMethod a b) (NameAndType a b))
        eleven true p n9 n10 a b next t f g = record { body = u2 a ++ u2 b; is = ap (λ (k : ℕ). k ∷ (u2 a ++ u2 b)) (sym (eqb-true tag 11 p)); takes = t; plain = (f, g); first = refl; room = λ w. absurd cc }
        eleven false p n9 n10 a b next t f g = record { body = u2 a ++ u2 b; is = ap (λ (k : ℕ). k ∷ (u2 a ++ u2 b)) (omega (arith, eqb-false tag 11 p)); takes = t; plain = (f, g); first = refl; room = λ w. absurd cc }

        ten : (p : Bool) → eqb tag 10 ≡ p → tag ≢ 9 → (a b next : ℕ) → Made tag at a b next (cond p (Method a b) (cond (eqb tag 11) (InterfaceMethod a b) (NameAndType a b)))
        ten true p n9 a b next t f g = record { body = u2 a ++ u2 b; is = ap (λ (k : ℕ). k ∷ (u2 a ++ u2 b)) (sym (eqb-true tag 10 p)); takes = t; plain = (f, g); first = refl; room = λ w. absurd cc }
        ten false p n9 a b next t f g = eleven (eqb tag 11) refl n9 (eqb-false tag 10 p) a b next t f g

        nine : (p : Bool) → eqb tag 9 ≡ p → (a b next : ℕ) → Made tag at a b next (cond p (Field a b) (cond (eqb tag 10) (Method a b) (cond (eqb tag 11) (InterfaceMethod a b) (NameAndType a b))))
        nine true p a b next t f g = record { body = u2 a ++ u2 b; is = ap (λ (k : ℕ). k ∷ (u2 a ++ u2 b)) (sym (eqb-true tag 9 p)); takes = t; plain = (f, g); first = refl; room = λ w. absurd cc }
        nine false p a b next t f g = ten (eqb tag 10) refl (eqb-false tag 9 p) a b next t f g

  abbrev bad : ℕ → Result (Constant × ℕ) Refusal
  bad start = Err (BadTag (place start))

  pub tagged_takes : (start tag at : ℕ) (x : Constant × ℕ) → tagged_at start left tag bytes at ≡ Ok x → IsEntry bytes left tag at x.0 x.1
  unfolding tagged_at
  tagged_takes start tag at x e = one (eqb tag 1) refl e where
    five : (b : Bool) → (ltb 8 tag && ltb tag 13) ≡ b → cond b (pair_at tag bytes at) (bad start) ≡ Ok x → IsEntry bytes left tag at x.0 x.1
    five true p h = let r = both_true (ltb 8 tag) (ltb tag 13) p in pair_takes tag at x (ltb-true 8 tag r.0) (ltb-true tag 13 r.1) h
    five false p h = absurd cc

    four : (b : Bool) → (eqb tag 7 || eqb tag 8) ≡ b → cond b (index_at tag bytes at) (cond (ltb 8 tag && ltb tag 13) (pair_at tag bytes at) (bad start)) ≡ Ok x → IsEntry bytes left tag at x.0 x.1
    four true p h = index_takes tag at x p h
    four false p h = five (ltb 8 tag && ltb tag 13) refl h

    three : (b : Bool) → ((eqb tag 5 || eqb tag 6) && ltb 0 left) ≡ b → cond b (wide_at tag bytes at) (cond (eqb tag 7 || eqb tag 8) (index_at tag bytes at) (cond (ltb 8 tag && ltb tag 13) (pair_at tag bytes at) (bad start))) ≡ Ok x → IsEntry bytes left tag at x.0 x.1
    three true p h = let r = both_true (eqb tag 5 || eqb tag 6) (ltb 0 left) p in wide_takes tag at x r.0 (ltb-true 0 left r.1) h
    three false p h = four (eqb tag 7 || eqb tag 8) refl h

    two : (b : Bool) → (eqb tag 3 || eqb tag 4) ≡ b → cond b (word_at tag bytes at) (cond ((eqb tag 5 || eqb tag 6) && ltb 0 left) (wide_at tag bytes at) (cond (eqb tag 7 || eqb tag 8) (index_at tag bytes at) (cond (ltb 8 tag && ltb tag 13) (pair_at tag bytes at) (bad start)))) ≡ Ok x → IsEntry bytes left tag at x.0 x.1
    two true p h = word_takes tag at x p h
    two false p h = three ((eqb tag 5 || eqb tag 6) && ltb 0 left) refl h

    one : (b : Bool) → eqb tag 1 ≡ b → cond b (text_at bytes at) (cond (eqb tag 3 || eqb tag 4) (word_at tag bytes at) (cond ((eqb tag 5 || eqb tag 6) && ltb 0 left) (wide_at tag bytes at) (cond (eqb tag 7 || eqb tag 8) (index_at tag bytes at) (cond (ltb 8 tag && ltb tag 13) (pair_at tag bytes at) (bad start))))) ≡ Ok x → IsEntry bytes left tag at x.0 x.1
    one true p h = subst (λ (k : ℕ). IsEntry bytes left k at x.0 x.1) (sym (eqb-true tag 1 p)) (text_takes at x h)
    one false p h = two (eqb tag 3 || eqb tag 4) refl h

  -- ---- an entry with its tag

  pub constant_takes : (at : ℕ) (x : Constant × ℕ) → constant_at bytes left at ≡ Ok x → Takes bytes at (constant x.0) x.1 × IsPlain x.0 × (is_second x.0 ≡ false) × (is_wide x.0 ≡ true → 0 < left)
  unfolding constant_at
  constant_takes at x e =
      let a = bind_ok (run_at bytes at 1) (λ tag. tagged_at at left (get_or tag.0 0 0) bytes tag.1) x e in
      let r = run_takes bytes at 1 a.0 a.1 in
      let tag = single a.0.0 r.1 in
      let entry = tagged_takes at (get_or a.0.0 0 0) a.0.1 x a.2 in
      let first : Takes bytes at (get_or a.0.0 0 0 ∷ []) a.0.1 = rw (← tag) r.0 in
      let whole = Takes-then bytes at (get_or a.0.0 0 0 ∷ []) a.0.1 entry.body x.1 first entry.takes in
      (rw entry.is whole, entry.plain, entry.first, entry.room) where
        single : (text : List ℕ) → length text ≡ 1 → text ≡ get_or text 0 0 ∷ []
        single [] h = absurd (omega arith)
        single (b ∷ []) h = refl
        single (b ∷ c ∷ bs) h = absurd (omega arith)

-- ---- what is spelled is read

module _ (bytes : List ℕ) (left at next : ℕ) where
  tag_again : (tag : ℕ) (body : List ℕ) → Takes bytes at (tag ∷ body) next → constant_at bytes left at ≡ tagged_at at left tag bytes (at + 1)
  unfolding constant_at
  tag_again tag body t = rw (run_again bytes at 1 (tag ∷ []) (at + 1) refl (Takes-first bytes at (tag ∷ []) body next t)) refl

  body_takes : (tag : ℕ) (body : List ℕ) → Takes bytes at (tag ∷ body) next → Takes bytes (at + 1) body next
  body_takes tag body t = Takes-second bytes at (tag ∷ []) body next t

  u2_again : (n : ℕ) → n < 2 ^ 16 → Takes bytes (at + 1) (u2 n) next → u2_at bytes (at + 1) ≡ Ok (n, next)
  u2_again n lt t = number_again w16 (2 ^ 16) wide16 bytes (at + 1) n next lt t

  pair_again : (tag a b : ℕ) → a < 2 ^ 16 → b < 2 ^ 16 → Takes bytes (at + 1) (u2 a ++ u2 b) next → pair_at tag bytes (at + 1) ≡ Ok (of_pair tag a b, next)
  unfolding pair_at
  pair_again tag a b la lb t =
      let first = number_again w16 (2 ^ 16) wide16 bytes (at + 1) a (at + 1 + 2) la (Takes-first bytes (at + 1) (u2 a) (u2 b) next t) in
      let second = number_again w16 (2 ^ 16) wide16 bytes (at + 1 + 2) b next lb (Takes-second bytes (at + 1) (u2 a) (u2 b) next t) in
      rw (first, second) refl

  text_again : (text : List ℕ) → length text < 2 ^ 16 → AllByRecursion IsTextByte text → Takes bytes (at + 1) (u2 (length text) ++ text) next → text_at bytes (at + 1) ≡ Ok (Utf8 text, next)
  unfolding text_at
  text_again text short good t =
      let len = number_again w16 (2 ^ 16) wide16 bytes (at + 1) (length text) (at + 1 + 2) short (Takes-first bytes (at + 1) (u2 (length text)) text next t) in
      let run = run_again bytes (at + 1 + 2) (length text) text next refl (Takes-second bytes (at + 1) (u2 (length text)) text next t) in
      rw (len, run, no_place is_bad_byte text (text_good text good)) refl

  word_again : (tag n : ℕ) → n < 2 ^ 32 → Takes bytes (at + 1) (u4 n) next → word_at tag bytes (at + 1) ≡ Ok (cond (eqb tag 3) (Integer (cast_signed w32 n)) (Float n), next)
  unfolding word_at
  word_again tag n lt t = rw (number_again w32 (2 ^ 32) wide32 bytes (at + 1) n next lt t) refl

  wide_again : (tag n : ℕ) → n < 2 ^ 64 → Takes bytes (at + 1) (u8 n) next → wide_at tag bytes (at + 1) ≡ Ok (cond (eqb tag 5) (Long (cast_signed w64 n)) (Double n), next)
  unfolding wide_at
  wide_again tag n lt t = rw (number_again w64 (2 ^ 64) wide64 bytes (at + 1) n next lt t) refl

  index_again : (tag n : ℕ) → n < 2 ^ 16 → Takes bytes (at + 1) (u2 n) next → index_at tag bytes (at + 1) ≡ Ok (cond (eqb tag 7) (Class n) (Text n), next)
  unfolding index_at
  index_again tag n lt t = rw (u2_again n lt t) refl

  pub constant_again : (c : Constant) → IsPlain c → is_second c ≡ false → (is_wide c ≡ true → 0 < left) → Takes bytes at (constant c) next → constant_at bytes left at ≡ Ok (c, next)
  unfolding tagged_at
  constant_again (Utf8 text) p s w t = tag_again 1 (u2 (length text) ++ text) t ∙ text_again text p.0 p.1 (body_takes 1 (u2 (length text) ++ text) t)
  constant_again (Integer n) p s w t = tag_again 3 (u4 (cast_unsigned w32 n)) t ∙ word_again 3 (cast_unsigned w32 n) ((Fits-of_z {w = w32} p).fits) (body_takes 3 (u4 (cast_unsigned w32 n)) t) ∙ ap (λ z. Ok (Integer z, next)) (to_z-of_z w32 n p)
  constant_again (Float n) p s w t = tag_again 4 (u4 n) t ∙ word_again 4 n p (body_takes 4 (u4 n) t)
  constant_again (Long n) p s w t = tag_again 5 (u8 (cast_unsigned w64 n)) t ∙ rw (lt-ltb 0 left (w refl)) (wide_again 5 (cast_unsigned w64 n) ((Fits-of_z {w = w64} p).fits) (body_takes 5 (u8 (cast_unsigned w64 n)) t)) ∙ ap (λ z. Ok (Long z, next)) (to_z-of_z w64 n p)
  constant_again (Double n) p s w t = tag_again 6 (u8 n) t ∙ rw (lt-ltb 0 left (w refl)) (wide_again 6 n p (body_takes 6 (u8 n) t))
  constant_again (Class n) p s w t = tag_again 7 (u2 n) t ∙ index_again 7 n p (body_takes 7 (u2 n) t)
  constant_again (Text n) p s w t = tag_again 8 (u2 n) t ∙ index_again 8 n p (body_takes 8 (u2 n) t)
  constant_again (Field a b) p s w t = tag_again 9 (u2 a ++ u2 b) t ∙ pair_again 9 a b p.0 p.1 (body_takes 9 (u2 a ++ u2 b) t)
  constant_again (Method a b) p s w t = tag_again 10 (u2 a ++ u2 b) t ∙ pair_again 10 a b p.0 p.1 (body_takes 10 (u2 a ++ u2 b) t)
  constant_again (InterfaceMethod a b) p s w t = tag_again 11 (u2 a ++ u2 b) t ∙ pair_again 11 a b p.0 p.1 (body_takes 11 (u2 a ++ u2 b) t)
  constant_again (NameAndType a b) p s w t = tag_again 12 (u2 a ++ u2 b) t ∙ pair_again 12 a b p.0 p.1 (body_takes 12 (u2 a ++ u2 b) t)
  constant_again Second p s w t = absurd cc
