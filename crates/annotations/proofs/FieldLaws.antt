-- Fields: what is read is spelled so, and what is spelled so is read.
use Rattle.std.proofs.Common.{◌≡◌, ℕ, ◌+◌, ◌^◌, ◌<◌, ◌≤◌, Bool, true, false, cond, ltb, List, [], ◌∷◌, ◌++◌, length, take, drop, Result, Ok, Err, refl, sym, ap, subst, ◌∙◌, arith}
use Rattle.std.specs.Prelude.{is_some}
use Rattle.std.specs.Int.{w8, w16, from_be_bytes, to_be_bytes}
use Rattle.std.proofs.lemmas.Bool.{ltb-false, le-ltb}
use Rattle.std.proofs.lemmas.List.{take_at, drop-drop, take-append-drop, length-take, length-drop}
use Rattle.jmodel.specs.format.ClassFile.{Pool, u2}
use Rattle.jmodel.specs.format.Pool.{utf8}
use Rattle.const_pool.proofs.Takes.{IsBytes, IsBytes-part, IsWide, wide16, Takes}
use Rattle.jmodel.specs.format.AnnotationRules.{IsText}
use Rattle.jmodel.specs.format.AnnotationReading.{◌>>=◌, run_at, u1_at, u2_at, text_at}

-- ---- steps that may fail

-- the value of a step that did not fail
pub bind_ok : {A B : Type 0} (r : Result A ℕ) (f : A → Result B ℕ) (y : B) → (r >>= f) ≡ Ok y → (x : A) × (r ≡ Ok x) × (f x ≡ Ok y)
bind_ok (Ok x) f y e = (x, refl, e)
bind_ok (Err d) f y e = absurd cc

-- a test that did not fail
pub want_ok : {A : Type 0} (b : Bool) (d : ℕ) (r : Result A ℕ) (y : A) → cond b r (Err d) ≡ Ok y → (b ≡ true) × (r ≡ Ok y)
want_ok true d r y e = (refl, e)
want_ok false d r y e = absurd cc

guard_ok : {A : Type 0} (b : Bool) (d : ℕ) (r : Result A ℕ) (y : A) → cond b (Err d) r ≡ Ok y → (b ≡ false) × (r ≡ Ok y)
guard_ok true d r y e = absurd cc
guard_ok false d r y e = (refl, e)

abbrev pub fine : {A : Type 0} → A → Result A ℕ
fine x = Ok x

pub ok_is : {A : Type 0} (x y : A) → fine x ≡ fine y → x ≡ y
ok_is x y e = cc

-- ---- bytes and numbers

one_byte : (bytes : List ℕ) → length bytes ≡ 1 → IsBytes bytes → to_be_bytes w8 (from_be_bytes w8 bytes) ≡ bytes
one_byte [] len fits = absurd (omega arith)
one_byte (b ∷ []) len fits = ap (λ (n : ℕ). n ∷ []) (omega (arith, fits 0))
one_byte (b ∷ c ∷ cs) len fits = absurd (omega arith)

wide8 : IsWide w8 (2 ^ 8)
wide8 = record {
  len = λ n. refl;
  back = one_byte;
  again = λ n lt. omega arith;
  below = λ bytes fits. omega (arith, fits 0);
}

module _ (bytes : List ℕ) where
  run_takes : (at n : ℕ) (x : List ℕ × ℕ) → run_at bytes at n ≡ Ok x → Takes bytes at x.0 x.1 × (length x.0 ≡ n)
  unfolding run_at
  run_takes at n x e =
      let g = guard_ok (ltb (length bytes) (at + n)) at (Ok (take n (drop at bytes), at + n)) x e in
      let long : at + n ≤ length bytes = ltb-false _ _ g.0 in
      let len : length (take n (drop at bytes)) ≡ n = omega (arith, length-take n (drop at bytes), length-drop at bytes) in
      let whole : drop at bytes ≡ take n (drop at bytes) ++ drop (at + n) bytes = sym (take-append-drop n (drop at bytes)) ∙ ap (λ (r : List ℕ). take n (drop at bytes) ++ r) (drop-drop n at bytes) in
      let made : Takes bytes at (take n (drop at bytes)) (at + n) = record { parts = whole; moved = omega (arith, len); inside = long } in
      subst (λ (y : List ℕ × ℕ). Takes bytes at y.0 y.1 × (length y.0 ≡ n)) (ok_is (take n (drop at bytes), at + n) x g.1) (made, len)

  run_again : (at n : ℕ) (text : List ℕ) (next : ℕ) → length text ≡ n → Takes bytes at text next → run_at bytes at n ≡ Ok (text, next)
  unfolding run_at
  run_again at n text next len t =
      let long : ltb (length bytes) (at + n) ≡ false = le-ltb _ _ (omega (arith, t.moved, t.inside, len)) in
      let front : take n (drop at bytes) ≡ text = ap (take n) t.parts ∙ take_at text (drop next bytes) n len in
      let after : at + n ≡ next = omega (arith, t.moved, len) in
      rw (long, front, after) refl

  pub u1_takes : IsBytes bytes → (at : ℕ) (x : ℕ × ℕ) → u1_at bytes at ≡ Ok x → Takes bytes at (to_be_bytes w8 x.0) x.1 × (x.0 < 2 ^ 8)
  unfolding u1_at
  u1_takes fits at x e =
      let b = bind_ok (run_at bytes at 1) (λ run. Ok (from_be_bytes w8 run.0, run.1)) x e in
      let t = run_takes at 1 b.0 b.1 in
      let part = IsBytes-part bytes at b.0.0 b.0.1 fits t.0 in
      let same : to_be_bytes w8 (from_be_bytes w8 b.0.0) ≡ b.0.0 = one_byte b.0.0 t.1 part in
      let made : Takes bytes at (to_be_bytes w8 (from_be_bytes w8 b.0.0)) b.0.1 = rw same t.0 in
      subst (λ (y : ℕ × ℕ). Takes bytes at (to_be_bytes w8 y.0) y.1 × (y.0 < 2 ^ 8)) (ok_is (from_be_bytes w8 b.0.0, b.0.1) x b.2) (made, wide8.below b.0.0 part)

  pub u1_again : (at n next : ℕ) → n < 2 ^ 8 → Takes bytes at (to_be_bytes w8 n) next → u1_at bytes at ≡ Ok (n, next)
  unfolding u1_at
  u1_again at n next lt t = rw (run_again at 1 (to_be_bytes w8 n) next refl t, wide8.again n lt) refl

  pub u2_takes : IsBytes bytes → (at : ℕ) (x : ℕ × ℕ) → u2_at bytes at ≡ Ok x → Takes bytes at (u2 x.0) x.1 × (x.0 < 2 ^ 16)
  unfolding u2_at
  u2_takes fits at x e =
      let b = bind_ok (run_at bytes at 2) (λ run. Ok (from_be_bytes w16 run.0, run.1)) x e in
      let t = run_takes at 2 b.0 b.1 in
      let part = IsBytes-part bytes at b.0.0 b.0.1 fits t.0 in
      let same : to_be_bytes w16 (from_be_bytes w16 b.0.0) ≡ b.0.0 = wide16.back b.0.0 t.1 part in
      let made : Takes bytes at (to_be_bytes w16 (from_be_bytes w16 b.0.0)) b.0.1 = rw same t.0 in
      subst (λ (y : ℕ × ℕ). Takes bytes at (u2 y.0) y.1 × (y.0 < 2 ^ 16)) (ok_is (from_be_bytes w16 b.0.0, b.0.1) x b.2) (made, wide16.below b.0.0 part)

  pub u2_again : (at n next : ℕ) → n < 2 ^ 16 → Takes bytes at (u2 n) next → u2_at bytes at ≡ Ok (n, next)
  unfolding u2_at
  u2_again at n next lt t = rw (run_again at 2 (u2 n) next refl t, wide16.again n lt) refl

  pub text_takes : (pool : Pool) → IsBytes bytes → (at : ℕ) (x : ℕ × ℕ) → text_at pool bytes at ≡ Ok x → Takes bytes at (u2 x.0) x.1 × IsText pool x.0
  unfolding text_at
  text_takes pool fits at x e =
      let a = bind_ok (u2_at bytes at) (λ i. cond (is_some (utf8 pool i.0)) (Ok i) (Err at)) x e in
      let w = want_ok (is_some (utf8 pool a.0.0)) at (Ok a.0) x a.2 in
      let t = u2_takes fits at a.0 a.1 in
      subst (λ (y : ℕ × ℕ). Takes bytes at (u2 y.0) y.1 × IsText pool y.0) (ok_is a.0 x w.1) (t.0, (t.1, w.0))

  pub text_again : (pool : Pool) (at i next : ℕ) → IsText pool i → Takes bytes at (u2 i) next → text_at pool bytes at ≡ Ok (i, next)
  unfolding text_at
  text_again pool at i next h t = rw (u2_again at i next h.0 t, h.1) refl
