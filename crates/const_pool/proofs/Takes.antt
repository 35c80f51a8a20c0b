-- What is read is spelled so, and what is spelled so is read: runs, numbers and items.
use Rattle.std.proofs.Common.{◌≡◌, ℕ, zero, suc, ◌+◌, ◌^◌, ◌<◌, ◌≤◌, Bool, true, false, cond, ltb, List, [], ◌∷◌, ◌++◌, length, get_or, take, drop, Result, Ok, Err, refl, sym, ap, subst, ◌∙◌, append_assoc, arith, inl, inr}
use Rattle.std.specs.Int.{Width, w16, w32, w64, byte_len, from_be_bytes, to_be_bytes}
use Rattle.std.specs.List.{flat_map, AllByRecursion}
use Rattle.std.proofs.lemmas.Bool.{cases_lt, ltb-false, le-ltb}
use Rattle.std.proofs.lemmas.List.{take_at, drop_at, drop-drop, take-append-drop, length-append, length-take, length-drop, get_or-drop, get_or-take, get_or_past}
use Rattle.std.proofs.lemmas.List.Concat.{flat_map-cons}
use Rattle.std.proofs.lemmas.Nat.{be_bytes_2, be_bytes_4, be_bytes_8, from_be_bytes-to_be_bytes_2, from_be_bytes-to_be_bytes_4, from_be_bytes-to_be_bytes_8}
use Rattle.jmodel.specs.declared.refusal.Refusal.{Refusal}
use Rattle.jmodel.specs.declared.refusal.Refusal.TheVariants.{Truncated}
use Rattle.jmodel.specs.format.ClassFile.{u2}
use Rattle.jmodel.specs.format.Reading.{◌>>=◌, place, run_at, number_at, u2_at, items_at}

-- ---- steps that may fail

-- the value of a step that did not fail
pub bind_ok : {A B : Type 0} (r : Result A Refusal) (f : A → Result B Refusal) (y : B) → (r >>= f) ≡ Ok y → (x : A) × (r ≡ Ok x) × (f x ≡ Ok y)
bind_ok (Ok x) f y e = (x, refl, e)
bind_ok (Err d) f y e = absurd cc

-- tests that did not fail
pub guard_ok : {A : Type 0} (b : Bool) (d : Refusal) (r : Result A Refusal) (y : A) → cond b (Err d) r ≡ Ok y → (b ≡ false) × (r ≡ Ok y)
guard_ok true d r y e = absurd cc
guard_ok false d r y e = (refl, e)

pub want_ok : {A : Type 0} (b : Bool) (d : Refusal) (r : Result A Refusal) (y : A) → cond b r (Err d) ≡ Ok y → (b ≡ true) × (r ≡ Ok y)
want_ok true d r y e = (refl, e)
want_ok false d r y e = absurd cc

abbrev pub fine : {A : Type 0} → A → Result A Refusal
fine x = Ok x

pub ok_is : {A : Type 0} (x y : A) → fine x ≡ fine y → x ≡ y
ok_is x y e = cc

-- ---- bytes

abbrev pub IsBytes : List ℕ → Type 0
IsBytes bytes = (i : ℕ) → get_or bytes i 0 < 256

IsBytes-drop : (n : ℕ) (bytes : List ℕ) → IsBytes bytes → IsBytes (drop n bytes)
IsBytes-drop n bytes h i = rw get_or-drop (h (n + i))

IsBytes-take : (n : ℕ) (bytes : List ℕ) → IsBytes bytes → IsBytes (take n bytes)
IsBytes-take n bytes h i =
    elim (cases_lt i n) [
      | inl lt ↦ rw (get_or-take n bytes i 0 lt) (h i)
      | inr le ↦ rw (get_or_past (take n bytes) i 0 (omega (arith, length-take n bytes))) (omega arith)
    ]

-- the text stands at a place, and next is the place after it
pub record Takes (bytes : List ℕ) (at : ℕ) (text : List ℕ) (next : ℕ) : Type 0 where
  pub parts : drop at bytes ≡ text ++ drop next bytes
  pub moved : next ≡ at + length text
  pub inside : next ≤ length bytes

module _ (bytes : List ℕ) where
  pub Takes-nothing : (at : ℕ) → at ≤ length bytes → Takes bytes at [] at
  Takes-nothing at le = record { parts = refl; moved = omega arith; inside = le }

  pub Takes-then : (at : ℕ) (x : List ℕ) (middle : ℕ) (y : List ℕ) (next : ℕ) → Takes bytes at x middle → Takes bytes middle y next → Takes bytes at (x ++ y) next
  Takes-then at x middle y next p q = record { parts = p.parts ∙ ap (λ (t : List ℕ). x ++ t) q.parts ∙ sym (append_assoc x y (drop next bytes)); moved = omega (arith, length-append x y, p.moved, q.moved); inside = q.inside }

  rest_at : (at : ℕ) (x y : List ℕ) (next : ℕ) → Takes bytes at (x ++ y) next → drop (at + length x) bytes ≡ y ++ drop next bytes
  rest_at at x y next t = sym (drop-drop (length x) at bytes) ∙ ap (drop (length x)) (t.parts ∙ append_assoc x y (drop next bytes)) ∙ drop_at x (y ++ drop next bytes) (length x) refl

  pub Takes-first : (at : ℕ) (x y : List ℕ) (next : ℕ) → Takes bytes at (x ++ y) next → Takes bytes at x (at + length x)
  Takes-first at x y next t = record { parts = t.parts ∙ append_assoc x y (drop next bytes) ∙ ap (λ (r : List ℕ). x ++ r) (sym (rest_at at x y next t)); moved = refl; inside = omega (arith, t.moved, t.inside, length-append x y) }

  pub Takes-second : (at : ℕ) (x y : List ℕ) (next : ℕ) → Takes bytes at (x ++ y) next → Takes bytes (at + length x) y next
  Takes-second at x y next t = record { parts = rest_at at x y next t; moved = omega (arith, t.moved, length-append x y); inside = t.inside }

  -- the start of a text lies in the bytes
  pub Takes-start : (at : ℕ) (x : List ℕ) (next : ℕ) → Takes bytes at x next → at ≤ length bytes
  Takes-start at x next t = omega (arith, t.moved, t.inside)

  -- ---- runs

  pub run_takes : (at n : ℕ) (x : List ℕ × ℕ) → run_at bytes at n ≡ Ok x → Takes bytes at x.0 x.1 × (length x.0 ≡ n)
  unfolding run_at
  run_takes at n x e =
      let g = guard_ok (ltb (length bytes) (at + n)) (Truncated (place at)) (Ok (take n (drop at bytes), at + n)) x e in
      let long : at + n ≤ length bytes = ltb-false _ _ g.0 in
      let len : length (take n (drop at bytes)) ≡ n = omega (arith, length-take n (drop at bytes), length-drop at bytes) in
      let whole : drop at bytes ≡ take n (drop at bytes) ++ drop (at + n) bytes = sym (take-append-drop n (drop at bytes)) ∙ ap (λ (r : List ℕ). take n (drop at bytes) ++ r) (drop-drop n at bytes) in
      let made : Takes bytes at (take n (drop at bytes)) (at + n) = record { parts = whole; moved = omega (arith, len); inside = long } in
      subst (λ (y : List ℕ × ℕ). Takes bytes at y.0 y.1 × (length y.0 ≡ n)) (ok_is (take n (drop at bytes), at + n) x g.1) (made, len)

  pub run_again : (at n : ℕ) (text : List ℕ) (next : ℕ) → length text ≡ n → Takes bytes at text next → run_at bytes at n ≡ Ok (text, next)
  unfolding run_at
  run_again at n text next len t =
      let long : ltb (length bytes) (at + n) ≡ false = le-ltb _ _ (omega (arith, t.moved, t.inside, len)) in
      let front : take n (drop at bytes) ≡ text = ap (take n) t.parts ∙ take_at text (drop next bytes) n len in
      let after : at + n ≡ next = omega (arith, t.moved, len) in
      rw (long, front, after) refl

-- ---- numbers

pub record IsWide (w : Width) (limit : ℕ) : Type 0 where
  pub len : (n : ℕ) → length (to_be_bytes w n) ≡ byte_len w
  pub back : (bytes : List ℕ) → length bytes ≡ byte_len w → IsBytes bytes → to_be_bytes w (from_be_bytes w bytes) ≡ bytes
  pub again : (n : ℕ) → n < limit → from_be_bytes w (to_be_bytes w n) ≡ n
  pub below : (bytes : List ℕ) → IsBytes bytes → from_be_bytes w bytes < limit

pub wide16 : IsWide w16 (2 ^ 16)
wide16 = record {
  len = λ n. refl;
  back = λ bytes len fits. be_bytes_2 bytes _ len fits refl;
  again = λ n lt. from_be_bytes-to_be_bytes_2 n lt;
  below = λ bytes fits. omega (arith, fits 0, fits 1);
}

pub wide32 : IsWide w32 (2 ^ 32)
wide32 = record {
  len = λ n. refl;
  back = λ bytes len fits. be_bytes_4 bytes _ len fits refl;
  again = λ n lt. from_be_bytes-to_be_bytes_4 n lt;
  below = λ bytes fits. omega (arith, fits 0, fits 1, fits 2, fits 3);
}

pub wide64 : IsWide w64 (2 ^ 64)
wide64 = record {
  len = λ n. refl;
  back = λ bytes len fits. be_bytes_8 bytes _ len fits refl;
  again = λ n lt. from_be_bytes-to_be_bytes_8 n lt;
  below = λ bytes fits. omega (arith, fits 0, fits 1, fits 2, fits 3, fits 4, fits 5, fits 6, fits 7);
}

pub IsBytes-part : (bytes : List ℕ) (at : ℕ) (text : List ℕ) (next : ℕ) → IsBytes bytes → Takes bytes at text next → IsBytes text
IsBytes-part bytes at text next fits t =
    let is : take (length text) (drop at bytes) ≡ text = ap (take (length text)) t.parts ∙ take_at text (drop next bytes) (length text) refl in
    rw (← is) (IsBytes-take (length text) (drop at bytes) (IsBytes-drop at bytes fits))

pub number_takes : (w : Width) (limit : ℕ) (wide : IsWide w limit) (bytes : List ℕ) (at : ℕ) (x : ℕ × ℕ) → IsBytes bytes → number_at w bytes at ≡ Ok x → Takes bytes at (to_be_bytes w x.0) x.1 × (x.0 < limit)
unfolding number_at
number_takes w limit wide bytes at x fits e =
    let b = bind_ok (run_at bytes at (byte_len w)) (λ run. Ok (from_be_bytes w run.0, run.1)) x e in
    let t = run_takes bytes at (byte_len w) b.0 b.1 in
    let part = IsBytes-part bytes at b.0.0 b.0.1 fits t.0 in
    let same : to_be_bytes w (from_be_bytes w b.0.0) ≡ b.0.0 = wide.back b.0.0 t.1 part in
    let made : Takes bytes at (to_be_bytes w (from_be_bytes w b.0.0)) b.0.1 = rw same t.0 in
    subst (λ (y : ℕ × ℕ). Takes bytes at (to_be_bytes w y.0) y.1 × (y.0 < limit)) (ok_is (from_be_bytes w b.0.0, b.0.1) x b.2) (made, wide.below b.0.0 part)

pub number_again : (w : Width) (limit : ℕ) (wide : IsWide w limit) (bytes : List ℕ) (at n next : ℕ) → n < limit → Takes bytes at (to_be_bytes w n) next → number_at w bytes at ≡ Ok (n, next)
unfolding number_at
number_again w limit wide bytes at n next lt t = rw (run_again bytes at (byte_len w) (to_be_bytes w n) next (wide.len n) t, wide.again n lt) refl

-- ---- items

module _ (bytes : List ℕ) {A : Type 0} (read : ℕ → Result (A × ℕ) Refusal) (spell : A → List ℕ) (Fits : A → Type 0) where
  abbrev pub Reads : Type 0
  Reads = (at : ℕ) (y : A) (next : ℕ) → read at ≡ Ok (y, next) → Takes bytes at (spell y) next × Fits y

  abbrev pub Rereads : Type 0
  Rereads = (at : ℕ) (y : A) (next : ℕ) → Fits y → Takes bytes at (spell y) next → read at ≡ Ok (y, next)

  pub items_take : Reads → (n at : ℕ) (x : List A × ℕ) → at ≤ length bytes → items_at read n at ≡ Ok x → Takes bytes at (flat_map spell x.0) x.1 × (length x.0 ≡ n) × AllByRecursion Fits x.0
  unfolding items_at
  items_take each zero at x le e =
      subst (λ (y : List A × ℕ). Takes bytes at (flat_map spell y.0) y.1 × (length y.0 ≡ 0) × AllByRecursion Fits y.0) (ok_is ([], at) x e) (Takes-nothing bytes at le, refl, tt)
  items_take each (suc n) at x le e =
      let a = bind_ok (read at) (λ first. items_at read n first.1 >>= λ others. Ok (first.0 ∷ others.0, others.1)) x e in
      let b = bind_ok (items_at read n a.0.1) (λ others. Ok (a.0.0 ∷ others.0, others.1)) x a.2 in
      let first = each at a.0.0 a.0.1 a.1 in
      let second = items_take each n a.0.1 b.0 first.0.inside b.1 in
      let both = Takes-then bytes at (spell a.0.0) a.0.1 (flat_map spell b.0.0) b.0.1 first.0 second.0 in
      let made : List A × ℕ = (a.0.0 ∷ b.0.0, b.0.1) in
      subst (λ (y : List A × ℕ). Takes bytes at (flat_map spell y.0) y.1 × (length y.0 ≡ suc n) × AllByRecursion Fits y.0) (ok_is made x b.2) (rw flat_map-cons both, ap suc second.1, (first.1, second.2))

  pub items_again : Rereads → (ys : List A) (at next : ℕ) → AllByRecursion Fits ys → Takes bytes at (flat_map spell ys) next → items_at read (length ys) at ≡ Ok (ys, next)
  unfolding items_at
  items_again each [] at next fits t = ap (λ (k : ℕ). Ok ([], k)) (omega (arith, t.moved))
  items_again each (y ∷ ys) at next fits t =
      let whole : Takes bytes at (spell y ++ flat_map spell ys) next = rw flat_map-cons at t in
      let one = each at y (at + length (spell y)) fits.0 (Takes-first bytes at (spell y) (flat_map spell ys) next whole) in
      let others = items_again each ys (at + length (spell y)) next fits.1 (Takes-second bytes at (spell y) (flat_map spell ys) next whole) in
      rw (one, others) refl

  -- items behind their count
  abbrev pub counted : ℕ → Result (List A × ℕ) Refusal
  counted at = u2_at bytes at >>= λ count. items_at read count.0 count.1

  pub counted_take : IsBytes bytes → Reads → (at : ℕ) (x : List A × ℕ) → counted at ≡ Ok x → Takes bytes at (u2 (length x.0) ++ flat_map spell x.0) x.1 × (length x.0 < 2 ^ 16) × AllByRecursion Fits x.0
  counted_take fits each at x e =
      let a = bind_ok (u2_at bytes at) (λ count. items_at read count.0 count.1) x e in
      let count = number_takes w16 (2 ^ 16) wide16 bytes at a.0 fits a.1 in
      let all = items_take each a.0.0 a.0.1 x count.0.inside a.2 in
      let first : Takes bytes at (u2 (length x.0)) a.0.1 = subst (λ (k : ℕ). Takes bytes at (u2 k) a.0.1) (sym all.1) count.0 in
      (Takes-then bytes at (u2 (length x.0)) a.0.1 (flat_map spell x.0) x.1 first all.0, omega (arith, all.1, count.1), all.2)

  pub counted_again : Rereads → (ys : List A) (at next : ℕ) → length ys < 2 ^ 16 → AllByRecursion Fits ys → Takes bytes at (u2 (length ys) ++ flat_map spell ys) next → counted at ≡ Ok (ys, next)
  counted_again each ys at next few fits t =
      let count = number_again w16 (2 ^ 16) wide16 bytes at (length ys) (at + 2) few (Takes-first bytes at (u2 (length ys)) (flat_map spell ys) next t) in
      let all = items_again each ys (at + 2) next fits (Takes-second bytes at (u2 (length ys)) (flat_map spell ys) next t) in
      rw (count, all) refl
