-- Lists of one type over and over.
use Rattle.std.proofs.Common.{◌≡◌, ℕ, zero, suc, ◌+◌, ◌/◌, ◌<◌, List, [], ◌∷◌, ◌++◌, Bool, true, false, length, replicate, take, drop, slice_set, ◌-◌, ◌≤◌, refl, sym, ap, subst, arith, ◌∙◌}
use Rattle.std.proofs.Math.Seq.{take-append_seam, drop-append_seam}
use Rattle.std.proofs.lemmas.List.{length-replicate, take-replicate, drop-replicate, replicate-append-replicate, take-append-drop}
use Rattle.jmodel.specs.declared.typing.VType.{VType}
use Rattle.type_lists.specs.Named.{is_named, are_named}

none_named : (n : ℕ) (t : VType) → is_named t ≡ false → are_named (replicate n t) ≡ false
none_named zero t e = refl
none_named (suc n) t e = rw e (none_named n t e)

pub run_named : (n : ℕ) (t : VType) → 0 < n → is_named t ≡ are_named (replicate n t)
run_named zero t h = absurd (omega (arith, h))
run_named (suc n) t h = by (is_named t) refl
  where
    by : (b : Bool) → is_named t ≡ b → is_named t ≡ are_named (replicate (suc n) t)
    by true e = rw e refl
    by false e = rw e (sym (none_named n t e))

pub run_parted : (n : ℕ) (t : VType) (ts : List VType) → replicate n t ≡ ts → 0 < n → (ts ≡ replicate (length ts) t) × (0 < length ts)
run_parted n t ts e h =
    let m = length-replicate n t in
    subst (λ (ts : List VType). (ts ≡ replicate (length ts) t) × (0 < length ts)) e (ap (λ (k : ℕ). replicate k t) (sym m), subst (λ (k : ℕ). 0 < k) (sym m) h)

pub both_parts : (n : ℕ) (ts l r t : List VType) → l ≡ take n ts → r ≡ drop n ts → t ≡ l ++ r → t ≡ ts
both_parts n ts l r t e f g = rw (g, e, f) (take-append-drop n ts)

pub set_before : (xs ys : List VType) (i : ℕ) (t : VType) → i < length xs → slice_set (xs ++ ys) i t ≡ slice_set xs i t ++ ys
set_before [] ys i t h = absurd (omega (arith, h))
set_before (x ∷ xs) ys zero t h = refl
set_before (x ∷ xs) ys (suc i) t h = ap (◌∷◌ x) (set_before xs ys i t (omega (arith, h)))

pub set_behind : (xs ys : List VType) (i : ℕ) (t : VType) → length xs ≤ i → slice_set (xs ++ ys) i t ≡ xs ++ slice_set ys (i - length xs) t
set_behind [] ys i t h = let e : i - 0 ≡ i = omega arith in rw e refl
set_behind (x ∷ xs) ys zero t h = absurd (omega (arith, h))
set_behind (x ∷ xs) ys (suc i) t h =
    let e : suc i - length (x ∷ xs) ≡ i - length xs = omega arith in
    rw e (ap (◌∷◌ x) (set_behind xs ys i t (omega (arith, h))))

pub set_same : (n i : ℕ) (t : VType) → slice_set (replicate n t) i t ≡ replicate n t
set_same zero i t = refl
set_same (suc n) zero t = refl
set_same (suc n) (suc i) t = ap (◌∷◌ t) (set_same n i t)

-- two runs of one type are one run
pub runs_join : (n : ℕ) (xs ys : List VType) (t u : VType) → n ≡ length xs + length ys → xs ≡ replicate (length xs) t → ys ≡ replicate (length ys) u → t ≡ u → replicate n t ≡ xs ++ ys
runs_join n xs ys t u k e f g =
    let h : replicate (length ys) t ≡ ys = ap (replicate (length ys)) g ∙ sym f in
    ap (λ (n : ℕ). replicate n t) k ∙ sym (replicate-append-replicate (length xs) (length ys) t) ∙ ap (λ (xs : List VType). xs ++ replicate (length ys) t) (sym e) ∙ ap (λ (ys : List VType). xs ++ ys) h

-- the halves of a run
pub run_left : (k n : ℕ) (ts : List VType) (t : VType) → ts ≡ replicate n t → k ≤ n → replicate k t ≡ take k ts
run_left k n ts t e h = sym (ap (take k) e ∙ take-replicate k n t h)

pub run_right : (k n : ℕ) (ts : List VType) (t : VType) → ts ≡ replicate n t → replicate (n - k) t ≡ drop k ts
run_right k n ts t e = sym (ap (drop k) e ∙ drop-replicate k n t)

-- the parts of a list
pub left_part : (n : ℕ) (xs ys : List VType) → length xs ≡ n → xs ≡ take n (xs ++ ys)
left_part n xs ys e = sym (ap (λ (n : ℕ). take n (xs ++ ys)) (sym e) ∙ take-append_seam xs ys)

pub right_part : (n : ℕ) (xs ys : List VType) → length xs ≡ n → ys ≡ drop n (xs ++ ys)
right_part n xs ys e = sym (ap (λ (n : ℕ). drop n (xs ++ ys)) (sym e) ∙ drop-append_seam xs ys)

-- a run in two parts
pub run_parts : (n m : ℕ) (t : VType) → m < n → replicate n t ≡ replicate m t ++ replicate (n - m) t
run_parts n m t h = let e : n ≡ m + (n - m) = omega (arith, h) in ap (λ (k : ℕ). replicate k t) e ∙ sym (replicate-append-replicate m (n - m) t)

pub in_before : (n m i : ℕ) (t v : VType) → i < m → m < n → slice_set (replicate m t) i v ++ replicate (n - m) t ≡ slice_set (replicate n t) i v
in_before n m i t v h g =
    let k = length-replicate m t in
    sym (ap (λ (xs : List VType). slice_set xs i v) (run_parts n m t g) ∙ set_before (replicate m t) (replicate (n - m) t) i v (subst (λ (k : ℕ). i < k) (sym k) h))

pub in_behind : (n m i : ℕ) (t v : VType) → m ≤ i → m < n → replicate m t ++ slice_set (replicate (n - m) t) (i - m) v ≡ slice_set (replicate n t) i v
in_behind n m i t v h g =
    let k = length-replicate m t in
    let e = set_behind (replicate m t) (replicate (n - m) t) i v (subst (λ (k : ℕ). k ≤ i) (sym k) h) in
    sym (ap (λ (xs : List VType). slice_set xs i v) (run_parts n m t g) ∙ subst (λ (k : ℕ). slice_set (replicate m t ++ replicate (n - m) t) i v ≡ replicate m t ++ slice_set (replicate (n - m) t) (i - k) v) k e)
