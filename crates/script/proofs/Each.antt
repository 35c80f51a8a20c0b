-- What each item gives by its place, as a loop collects it.
use Rattle.std.proofs.Common.{◌≡◌, ◌<◌, ◌≤◌, ℕ, zero, suc, arith, ◌+◌, List, [], ◌∷◌, ◌++◌, length, map, drop, get_or, Result, Ok, Err, refl, sym, ap, ◌∙◌, append_assoc, add-one}
use Rattle.std.proofs.lemmas.List.{append-nil, drop_all, length-map}
use Rattle.jmodel.specs.declared.refusal.Refusal.{Refusal}
use Rattle.jmodel.specs.declared.refusal.Halt.{Halt}
use Rattle.jmodel.specs.declared.refusal.Halt.TheVariants as halts
use Rattle.jmodel.specs.format.Reading.{◌>>=◌, Fails}
use Rattle.script.specs.Json.{each_from}

-- what was collected before, and what is still collected
abbrev pub with_front : {B : Type 0} → List B → Result (List B) Refusal → Result (List B) Refusal
with_front front (Ok ys) = Ok (front ++ ys)
with_front front (Err r) = Err r

front_nil : {B : Type 0} (o : Result (List B) Refusal) → with_front [] o ≡ o
front_nil (Ok ys) = refl
front_nil (Err r) = refl

-- an item in front of what is still collected
abbrev in_front : {B : Type 0} → B → Result (List B) Refusal → Result (List B) Refusal
in_front y rest = rest >>= λ ys. Ok (y ∷ ys)

regroup : {B : Type 0} (front : List B) (y : B) (rest : Result (List B) Refusal) → with_front front (in_front y rest) ≡ with_front (front ++ y ∷ []) rest
regroup {B} front y (Ok ys) = ap (λ (l : List B). Ok l) (simp append_assoc)
regroup front y (Err r) = refl

-- the rest of what is seen of a list begins with what is seen of the item of its place, which is its own default
item_seen : {V A : Type 0} (seen : V → A) (vs : List V) (i : ℕ) (v : V) → i < length vs → v ≡ get_or vs i v → drop i (map seen vs) ≡ seen v ∷ drop (suc i) (map seen vs)
item_seen seen [] i v h is = absurd (omega (arith, h))
item_seen {V} {A} seen (w ∷ vs) zero v h is = ap (λ (z : V). seen z ∷ map seen vs) (sym is)
item_seen seen (w ∷ vs) (suc i) v h is = item_seen seen vs i v (omega (arith, h)) is

module _ {A B : Type 0} (f : ℕ → A → Result B Refusal) where
  pub starts : (xs : List A) → with_front [] (each_from f 0 (drop 0 xs)) ≡ each_from f 0 xs
  starts xs = front_nil (each_from f 0 xs)

  step : (i : ℕ) (x : A) (y : B) (rest : List A) → f i x ≡ Ok y → each_from f i (x ∷ rest) ≡ in_front y (each_from f (suc i) rest)
  step i x y rest e = rw e refl

  fault : (i : ℕ) (x : A) (r : Refusal) (rest : List A) → f i x ≡ Err r → each_from f i (x ∷ rest) ≡ Err r
  fault i x r rest e = rw e refl

  goes_on : (front : List B) (xs : List A) (i : ℕ) (x : A) (y : B) (total : Result (List B) Refusal) → drop i xs ≡ x ∷ drop (suc i) xs → f i x ≡ Ok y
      → with_front front (each_from f i (drop i xs)) ≡ total → with_front (front ++ y ∷ []) (each_from f (suc i) (drop (suc i) xs)) ≡ total
  goes_on front xs i x y total item gives so_far =
      let one = ap (each_from f i) item ∙ step i x y (drop (suc i) xs) gives in
      sym (regroup front y (each_from f (suc i) (drop (suc i) xs))) ∙ sym (ap (with_front front) one) ∙ so_far

  ends : (h : Halt) (front : List B) (xs : List A) (i : ℕ) (x : A) (total : Result (List B) Refusal) → drop i xs ≡ x ∷ drop (suc i) xs → Fails h (f i x)
      → with_front front (each_from f i (drop i xs)) ≡ total → Fails h total
  ends halts.NoMemory front xs i x total item fails so_far = tt
  ends (halts.Refused r) front xs i x total item fails so_far =
      sym so_far ∙ ap (with_front front) (ap (each_from f i) item ∙ fault i x r (drop (suc i) xs) fails)

  -- an item was collected
  pub next : {V : Type 0} (seen : V → A) (vs : List V) (i : ℕ) (v : V) (old new : List B) (y : B) (total : Result (List B) Refusal)
      → i < length vs → v ≡ get_or vs i v → f i (seen v) ≡ Ok y → new ≡ old ++ y ∷ []
      → with_front old (each_from f i (drop i (map seen vs))) ≡ total → with_front new (each_from f (i + 1) (drop (i + 1) (map seen vs))) ≡ total
  next seen vs i v old new y total less is gives added so_far =
      ap (λ (l : List B). with_front l (each_from f (i + 1) (drop (i + 1) (map seen vs)))) added
      ∙ ap (λ (n : ℕ). with_front (old ++ y ∷ []) (each_from f n (drop n (map seen vs)))) (add-one i)
      ∙ goes_on old (map seen vs) i (seen v) y total (item_seen seen vs i v less is) gives so_far

  -- an item has a fault
  pub fails : {V : Type 0} (seen : V → A) (vs : List V) (i : ℕ) (v : V) (h : Halt) (old : List B) (total : Result (List B) Refusal)
      → i < length vs → v ≡ get_or vs i v → Fails h (f i (seen v)) → with_front old (each_from f i (drop i (map seen vs))) ≡ total → Fails h total
  fails seen vs i v h old total less is fault so_far = ends h old (map seen vs) i (seen v) total (item_seen seen vs i v less is) fault so_far

  -- none is left
  pub is_done : {V : Type 0} (seen : V → A) (vs : List V) (i : ℕ) (old : List B) (total : Result (List B) Refusal)
      → length vs ≤ i → with_front old (each_from f i (drop i (map seen vs))) ≡ total → total ≡ Ok old
  is_done seen vs i old total le so_far =
      let none : drop i (map seen vs) ≡ [] = drop_all i (map seen vs) (omega (arith, le, length-map vs seen)) in
      sym so_far ∙ ap (λ (ys : List A). with_front old (each_from f i ys)) none ∙ ap (λ (ys : List B). Ok ys) (append-nil old)
