-- Where the objects of static fields lie.
use Rattle.std.proofs.Common.{◌≡◌, ℕ, suc, ◌+◌, ◌≤◌, List, [], ◌∷◌, ◌++◌, length, take, true, refl, sym, ap, ◌∙◌, arith}
use Rattle.std.specs.Prelude.{sum_by}
use Rattle.std.proofs.Math.Seq.{take-append_seam}
use Rattle.std.proofs.lemmas.List.{length-append}
use Rattle.std.proofs.lemmas.List.Sums.{sum_by-append}
use Rattle.jmodel.specs.format.ClassFile.{ClassFile}
use Rattle.objects.specs.linking.Members.{statics}
use Rattle.objects.specs.linking.StaticBases.{has_base, base_words, base_of, bases_end}

module _ (cs : List ClassFile) where
  -- the classes from the n-th on are these
  pub record IsRest (n : ℕ) (ds : List ClassFile) : Type 0 where
    pub front : List ClassFile
    pub many : length front ≡ n
    pub whole : front ++ ds ≡ cs

  pub all_rest : IsRest 0 cs
  all_rest = record { front = []; many = refl; whole = refl }

  pub append_one : {A : Type 0} (xs : List A) (y : A) (ys : List A) → (xs ++ y ∷ []) ++ ys ≡ xs ++ y ∷ ys
  append_one [] y ys = refl
  append_one {A} (x ∷ xs) y ys = ap (λ (l : List A). x ∷ l) (append_one xs y ys)

  abbrev pub next_rest : (n : ℕ) (d : ClassFile) (ds : List ClassFile) → IsRest n (d ∷ ds) → IsRest (suc n) ds
  next_rest n d ds h = record {
    front = h.front ++ d ∷ [];
    many = omega (arith, length-append h.front (d ∷ []), h.many);
    whole = append_one h.front d ds ∙ h.whole;
  }

  pub base_at_front : (n : ℕ) (ds : List ClassFile) (h : IsRest n ds) → base_of cs n ≡ 2 + sum_by base_words h.front
  base_at_front n ds h =
      let cut : take n cs ≡ h.front = ap (λ (k : ℕ). take k cs) (sym h.many) ∙ ap (take (length h.front)) (sym h.whole) ∙ take-append_seam h.front ds in
      ap (λ (l : List ClassFile). 2 + sum_by base_words l) cut

  pub base_after : (n : ℕ) (d : ClassFile) (ds : List ClassFile) → IsRest n (d ∷ ds) → base_of cs (suc n) ≡ base_of cs n + base_words d
  base_after n d ds h =
      let one : sum_by base_words (d ∷ []) ≡ base_words d = omega arith in
      omega (arith, base_at_front n (d ∷ ds) h, base_at_front (suc n) ds (next_rest n d ds h), sum_by-append base_words h.front (d ∷ []), one)

  pub base_last : (n : ℕ) → IsRest n [] → base_of cs n ≡ bases_end cs
  base_last n h =
      let all : h.front ≡ cs = sym (append_none h.front) ∙ h.whole in
      base_at_front n [] h ∙ ap (λ (l : List ClassFile). 2 + sum_by base_words l) all
    where
      append_none : {A : Type 0} (xs : List A) → xs ++ [] ≡ xs
      append_none [] = refl
      append_none {A} (x ∷ xs) = ap (λ (l : List A). x ∷ l) (append_none xs)

  -- a base lies below the end of all
  pub base_below : (n : ℕ) (ds : List ClassFile) → IsRest n ds → base_of cs n ≤ bases_end cs
  base_below n [] h = omega (arith, base_last n h)
  base_below n (d ∷ ds) h = omega (arith, base_after n d ds h, base_below (suc n) ds (next_rest n d ds h))

pub words_with : (d : ClassFile) → has_base d ≡ true → base_words d ≡ length (statics d) + 1
words_with d h = rw h refl
