-- A descriptor is told by the one that has the context as last parameter.
use Rattle.std.proofs.Common.{◌≡◌, ℕ, suc, ◌+◌, List, [], ◌∷◌, ◌++◌, length, take, drop, Bool, true, false, refl, sym, ap, ◌∙◌, arith, length-append}
use Rattle.std.specs.Prelude.{not, ◌==◌}
use Rattle.objects.specs.rewriting.Rewriting.{before_end, context_type, with_context}

-- with the context where the parameters end, inside a class's name or not
abbrev inserted : Bool → List ℕ → List ℕ
inserted b d = take (before_end b d) d ++ context_type ++ drop (before_end b d) d

-- the parameters end here, or the next byte belongs to them
data Ends (c : ℕ) (cs : List ℕ) : Bool → Type 0 where
  stops : (is : (c == 41) ≡ true) → Ends c cs false
  goes : (is : (c == 41) ≡ false) → Ends c cs false
  inside : Ends c cs true

ends_at : (b : Bool) (c : ℕ) (cs : List ℕ) → Ends c cs b
ends_at true c cs = inside
ends_at false c cs = go (c == 41) refl
  where
    go : (b : Bool) → (c == 41) ≡ b → Ends c cs false
    go true is = stops is
    go false is = goes is

end_stops : (c : ℕ) (cs : List ℕ) → (c == 41) ≡ true → before_end false (c ∷ cs) ≡ 0
end_stops c cs is = rw is refl

end_goes : (c : ℕ) (cs : List ℕ) → (c == 41) ≡ false → before_end false (c ∷ cs) ≡ suc (before_end (c == 76) cs)
end_goes c cs is = rw is refl

insert_stops : (c : ℕ) (cs : List ℕ) → (c == 41) ≡ true → inserted false (c ∷ cs) ≡ context_type ++ (c ∷ cs)
insert_stops c cs is = rw (end_stops c cs is) refl

insert_goes : (c : ℕ) (cs : List ℕ) → (c == 41) ≡ false → inserted false (c ∷ cs) ≡ c ∷ inserted (c == 76) cs
insert_goes c cs is = rw (end_goes c cs is) refl

ten_more : (n : ℕ) → suc (suc (suc (suc (suc (suc (suc (suc (suc (suc n))))))))) ≡ n + 10
ten_more n = omega arith

count : (n : ℕ) → suc (suc (suc (suc (suc (suc (suc (suc (suc (suc (suc (suc (suc (suc (suc (suc (suc (suc (suc (suc (suc (suc (suc (suc (suc (suc (suc (suc (suc (suc (suc n)))))))))))))))))))))))))))))) ≡ n + 31
count n =
    let a = ten_more n in
    let b = ten_more (n + 10) in
    let c = ten_more (n + 20) in
    omega (arith, a, b, c)

-- the context's type is read to its end
past_context : (b : Bool) (r : List ℕ) → before_end b (context_type ++ r) ≡ before_end false r + 31
past_context true r = count (before_end false r)
past_context false r = count (before_end false r)

ends_later : (b : Bool) (d : List ℕ) → before_end b (inserted b d) ≡ before_end b d + 31
ends_later true [] = past_context true []
ends_later false [] = past_context false []
ends_later b (c ∷ cs) = go b (ends_at b c cs) (λ a. ends_later a cs)
  where
    go : (b : Bool) → Ends c cs b → ((a : Bool) → before_end a (inserted a cs) ≡ before_end a cs + 31) → before_end b (inserted b (c ∷ cs)) ≡ before_end b (c ∷ cs) + 31
    go true inside rest = let e = rest (not (c == 59)) in omega (arith, e)
    go false (stops is) rest = rw (insert_stops c cs is) (past_context false (c ∷ cs))
    go false (goes is) rest =
        let e = rest (c == 76) in
        let a = end_goes c (inserted (c == 76) cs) is in
        let z = end_goes c cs is in
        rw (insert_goes c cs is) (omega (arith, e, a, z))

longer : (b : Bool) (d : List ℕ) → length (inserted b d) ≡ length d + 31
longer true [] = refl
longer false [] = refl
longer b (c ∷ cs) = go b (ends_at b c cs) (λ a. longer a cs)
  where
    go : (b : Bool) → Ends c cs b → ((a : Bool) → length (inserted a cs) ≡ length cs + 31) → length (inserted b (c ∷ cs)) ≡ length (c ∷ cs) + 31
    go true inside rest = let e = rest (not (c == 59)) in omega (arith, e)
    go false (stops is) rest = rw (insert_stops c cs is) (let e : length context_type ≡ 31 = refl in omega (arith, e, length-append context_type (c ∷ cs)))
    go false (goes is) rest = let e = rest (c == 76) in rw (insert_goes c cs is) (omega (arith, e))

same_tail : (a b : ℕ) (xs ys : List ℕ) → a ∷ xs ≡ b ∷ ys → (a ≡ b) × (xs ≡ ys)
same_tail a b xs ys e = (cc, cc)

same_behind : (zs xs ys : List ℕ) → zs ++ xs ≡ zs ++ ys → xs ≡ ys
same_behind [] xs ys e = e
same_behind (z ∷ zs) xs ys e = same_behind zs xs ys (same_tail z z (zs ++ xs) (zs ++ ys) e).1

injective : (b : Bool) (x y : List ℕ) → inserted b x ≡ inserted b y → x ≡ y
injective b [] [] e = refl
injective b [] (d ∷ ds) e = let l = ap length e in let m = longer b [] in let n = longer b (d ∷ ds) in absurd (omega (arith, l, m, n))
injective b (c ∷ cs) [] e = let l = ap length e in let m = longer b (c ∷ cs) in let n = longer b [] in absurd (omega (arith, l, m, n))
injective b (c ∷ cs) (d ∷ ds) e = go b (ends_at b c cs) (ends_at b d ds) e (λ a. injective a cs ds)
  where
    -- one ends where the other goes on
    apart : (c : ℕ) (cs : List ℕ) (d : ℕ) (ds : List ℕ) → (c == 41) ≡ true → (d == 41) ≡ false → inserted false (c ∷ cs) ≡ inserted false (d ∷ ds) → ⊥
    apart c cs d ds is isnt e =
        let a = ap (before_end false) e in
        let m = ends_later false (c ∷ cs) in
        let n = ends_later false (d ∷ ds) in
        let y = end_stops c cs is in
        let z = end_goes d ds isnt in
        absurd (omega (arith, a, m, n, y, z))

    on : (a : ℕ → Bool) → (inserted (a c) cs ≡ inserted (a c) ds → cs ≡ ds) → c ∷ inserted (a c) cs ≡ d ∷ inserted (a d) ds → c ∷ cs ≡ d ∷ ds
    on a rest e =
        let s = same_tail c d (inserted (a c) cs) (inserted (a d) ds) e in
        let tail : cs ≡ ds = rest (s.1 ∙ ap (λ n. inserted (a n) ds) (sym s.0)) in
        rw (s.0, tail) refl

    go : (b : Bool) → Ends c cs b → Ends d ds b → inserted b (c ∷ cs) ≡ inserted b (d ∷ ds) → ((a : Bool) → inserted a cs ≡ inserted a ds → cs ≡ ds) → c ∷ cs ≡ d ∷ ds
    go true inside inside e rest = on (λ n. not (n == 59)) (rest (not (c == 59))) e
    go false (stops is) (stops isnt) e rest = same_behind context_type (c ∷ cs) (d ∷ ds) (sym (insert_stops c cs is) ∙ e ∙ insert_stops d ds isnt)
    go false (stops is) (goes isnt) e rest = absurd (apart c cs d ds is isnt e)
    go false (goes is) (stops isnt) e rest = absurd (apart d ds c cs isnt is (sym e))
    go false (goes is) (goes isnt) e rest = on (λ n. n == 76) (rest (c == 76)) (sym (insert_goes c cs is) ∙ e ∙ insert_goes d ds isnt)

-- Different descriptors have different duplicates.
pub with_context_told : (x y : List ℕ) → with_context x ≡ with_context y → x ≡ y
with_context_told x y e = injective false x y e
