-- Reading items one after another, as a loop does.
use Rattle.std.proofs.Common.{◌≡◌, ℕ, suc, ◌-◌, ◌+◌, ◌≤◌, ◌<◌, List, [], ◌∷◌, ◌++◌, Result, Ok, Err, refl, sym, ap, ◌∙◌, append_assoc, arith}
use Rattle.std.proofs.lemmas.List.{append-nil}
use Rattle.jmodel.specs.declared.refusal.Refusal.{Refusal}
use Rattle.jmodel.specs.declared.refusal.Halt.{Halt}
use Rattle.jmodel.specs.declared.refusal.Halt.TheVariants as halts
use Rattle.jmodel.specs.format.Reading.{◌>>=◌, Fails, items_at}

-- what was read before, and what is still read
abbrev pub with_front : {A S : Type 0} → List A → Result (List A × S) Refusal → Result (List A × S) Refusal
with_front front read = read >>= λ x. Ok (front ++ x.0, x.1)

regroup : {A S : Type 0} (front : List A) (y : A) (read : Result (List A × S) Refusal) → with_front front (read >>= λ x. Ok (y ∷ x.0, x.1)) ≡ with_front (front ++ y ∷ []) read
regroup {A} front y (Ok x) = ap (λ (ys : List A). Ok (ys, x.1)) (simp append_assoc)
regroup front y (Err f) = refl

module _ {A S : Type 0} (read : S → Result (A × S) Refusal) where
  pub goes_on : (front : List A) (count i : ℕ) (s : S) (y : A) (next : S) (total : Result (List A × S) Refusal) → i < count → read s ≡ Ok (y, next)
      → with_front front (items_at read (count - i) s) ≡ total → with_front (front ++ y ∷ []) (items_at read (count - (i + 1)) next) ≡ total
  unfolding items_at
  goes_on front count i s y next total lt h so_far =
      let k : count - i ≡ suc (count - (i + 1)) = omega arith in
      let one : with_front front (items_at read (count - i) s) ≡ with_front (front ++ y ∷ []) (items_at read (count - (i + 1)) next) = rw (k, h) (regroup front y (items_at read (count - (i + 1)) next)) in
      sym one ∙ so_far

  pub ends : (e : Halt) (front : List A) (count i : ℕ) (s : S) (total : Result (List A × S) Refusal) → i < count → Fails e (read s)
      → with_front front (items_at read (count - i) s) ≡ total → Fails e total
  unfolding items_at
  ends halts.NoMemory front count i s total lt h so_far = tt
  ends (halts.Refused f) front count i s total lt h so_far =
      let k : count - i ≡ suc (count - (i + 1)) = omega arith in
      let one : with_front front (items_at read (count - i) s) ≡ Err f = rw (k, h) refl in
      sym so_far ∙ one

  pub is_done : (front : List A) (count i : ℕ) (s : S) (total : Result (List A × S) Refusal) → count ≤ i → with_front front (items_at read (count - i) s) ≡ total → total ≡ Ok (front, s)
  unfolding items_at
  is_done front count i s total le so_far =
      let k : count - i ≡ 0 = omega arith in
      let one : with_front front (items_at read (count - i) s) ≡ Ok (front, s) = rw k (ap (λ (ys : List A). Ok (ys, s)) (append-nil front)) in
      sym so_far ∙ one

-- what fails first fails
pub first_fails : {A B : Type 0} (e : Halt) (r : Result A Refusal) (f : A → Result B Refusal) → Fails e r → Fails e (r >>= f)
first_fails halts.NoMemory r f h = tt
first_fails (halts.Refused d) r f h = rw h refl
