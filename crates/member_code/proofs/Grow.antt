-- What is put for each item, as a loop collects it.
use Rattle.std.proofs.Common.{◌≡◌, ℕ, suc, ◌+◌, ◌≤◌, ◌<◌, List, [], ◌∷◌, ◌++◌, length, drop, get_or, Result, Ok, Err, refl, sym, ap, ◌∙◌, append_assoc, add-one, drop-cons}
use Rattle.std.proofs.lemmas.List.{append-nil, drop_all}
use Rattle.jmodel.specs.declared.refusal.Refusal.{Refusal}
use Rattle.jmodel.specs.declared.refusal.Halt.{Halt}
use Rattle.jmodel.specs.declared.refusal.Halt.TheVariants as halts
use Rattle.jmodel.specs.format.Reading.{◌>>=◌, Fails}
use Rattle.jmodel.specs.format.ClassFile.{Pool}
use Rattle.member_code.specs.Growing.{grow_from}

-- what was put before, and what is still put
abbrev pub with_front : {A : Type 0} → List A → Result (List A × Pool) Refusal → Result (List A × Pool) Refusal
with_front front read = read >>= λ x. Ok (front ++ x.0, x.1)

pub regroup : {A : Type 0} (front : List A) (y : A) (read : Result (List A × Pool) Refusal) → with_front front (read >>= λ x. Ok (y ∷ x.0, x.1)) ≡ with_front (front ++ y ∷ []) read
regroup {A} front y (Ok x) = ap (λ (ys : List A). Ok (ys, x.1)) (simp append_assoc)
regroup front y (Err f) = refl

-- the rest of a list begins with the item of its place
pub item_is : {A : Type 0} (xs : List A) (i : ℕ) (x : A) → i < length xs → x ≡ get_or xs i x → drop i xs ≡ x ∷ drop (i + 1) xs
item_is {A} xs i x h is =
    let one : drop i xs ≡ get_or xs i x ∷ drop (suc i) xs = drop-cons xs i x h in
    one ∙ ap (λ (y : A). y ∷ drop (suc i) xs) (sym is) ∙ ap (λ (n : ℕ). x ∷ drop n xs) (sym (add-one i))

module _ {A B : Type 0} (f : ℕ → A → Pool → Result (B × Pool) Refusal) where
  pub goes_on : (front : List B) (xs : List A) (i : ℕ) (x : A) (y : B) (pool next : Pool) (total : Result (List B × Pool) Refusal) → drop i xs ≡ x ∷ drop (i + 1) xs → f i x pool ≡ Ok (y, next)
      → with_front front (grow_from f i (drop i xs) pool) ≡ total → with_front (front ++ y ∷ []) (grow_from f (i + 1) (drop (i + 1) xs) next) ≡ total
  goes_on front xs i x y pool next total item gives so_far =
      let rest = grow_from f (i + 1) (drop (i + 1) xs) next in
      let one : grow_from f i (drop i xs) pool ≡ (rest >>= λ zs. Ok (y ∷ zs.0, zs.1)) = rw (item, gives) refl in
      sym (regroup front y rest) ∙ sym (ap (with_front front) one) ∙ so_far

  pub ends : (e : Halt) (front : List B) (xs : List A) (i : ℕ) (x : A) (pool : Pool) (total : Result (List B × Pool) Refusal) → drop i xs ≡ x ∷ drop (i + 1) xs → Fails e (f i x pool)
      → with_front front (grow_from f i (drop i xs) pool) ≡ total → Fails e total
  ends halts.NoMemory front xs i x pool total item gives so_far = tt
  ends (halts.Refused d) front xs i x pool total item gives so_far =
      let one : with_front front (grow_from f i (drop i xs) pool) ≡ Err d = rw (item, gives) refl in
      sym so_far ∙ one

  pub is_done : (front : List B) (xs : List A) (i : ℕ) (pool : Pool) (total : Result (List B × Pool) Refusal) → length xs ≤ i → with_front front (grow_from f i (drop i xs) pool) ≡ total → total ≡ Ok (front, pool)
  is_done front xs i pool total le so_far =
      let one : with_front front (grow_from f i (drop i xs) pool) ≡ Ok (front ++ [], pool) = rw (drop_all i xs le) refl in
      sym so_far ∙ one ∙ ap (λ (ys : List B). Ok (ys, pool)) (append-nil front)
