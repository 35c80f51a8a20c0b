-- What is kept of the entries at the front of a pool.
use Rattle.std.proofs.Common.{◌≡◌, ℕ, zero, suc, ◌-◌, ◌<◌, true, ltb, List, [], ◌∷◌, length, take, get_or, Option, Some, refl, sym, ap, subst, ◌∙◌, arith}
use Rattle.std.proofs.lemmas.Bool.{ltb-true}
use Rattle.jmodel.specs.format.ClassFile.{Pool}
use Rattle.jmodel.specs.format.Pool.{utf8}
use Rattle.const_pool.specs.Places.{entry_places, places_at, IsKept}

-- a front of what is kept is what is kept of a front
pub kept_shorter : (n : ℕ) (kept : List (Option ℕ)) (pool : Pool) → IsKept kept pool → IsKept (take n kept) (take n pool)
kept_shorter zero kept pool h = refl
kept_shorter (suc n) [] pool h = refl
kept_shorter (suc n) (o ∷ kept) [] h = absurd cc
kept_shorter (suc n) (o ∷ kept) (c ∷ pool) h =
    let head : o ≡ entry_places c = cc in
    let rest : IsKept kept pool = cc in
    rw head (ap (λ (xs : List (Option ℕ)). entry_places c ∷ xs) (kept_shorter n kept pool rest))

at_place : (kept : List (Option ℕ)) (pool : Pool) (i : ℕ) (o : Option ℕ) → IsKept kept pool → i < length kept → o ≡ get_or kept i o → o ≡ places_at pool (suc i)
at_place [] pool i o h lt e = absurd (omega (arith, lt))
at_place (p ∷ kept) [] i o h lt e = absurd cc
at_place (p ∷ kept) (c ∷ pool) zero o h lt e =
    let head : p ≡ entry_places c = cc in
    e ∙ head
at_place (p ∷ kept) (c ∷ pool) (suc i) o h lt e =
    let rest : IsKept kept pool = cc in
    at_place kept pool i o rest (omega (arith, lt)) e

-- what is kept at an index whose text is there is what the text describes
pub kept_at : (kept found : List (Option ℕ)) (pool : Pool) (i : ℕ) (text : List ℕ) (o : Option ℕ) → IsKept kept pool → found ≡ kept → utf8 pool i ≡ Some text → ltb (i - 1) (length found) ≡ true → o ≡ get_or found (i - 1) o → o ≡ places_at pool i
kept_at kept found pool zero text o h same t lt e = absurd cc
kept_at kept found pool (suc i) text o h same t lt e =
    let at : suc i - 1 ≡ i = omega arith in
    let below : i < length found = subst (λ (n : ℕ). n < length found) at (ltb-true (suc i - 1) (length found) lt) in
    at_place found pool i o (subst (λ (xs : List (Option ℕ)). IsKept xs pool) (sym same) h) below (subst (λ (n : ℕ). o ≡ get_or found n o) at e)
