-- Gates that went to threads and came back.
use Rattle.std.proofs.Common.{◌≡◌, ◌≢◌, ◌≤◌, ◌<◌, ◌+◌, ℕ, zero, suc, List, [], ◌∷◌, ◌++◌, length, map, set, get_or, take, drop, append_assoc, Option, Some, None, refl, sym, ◌∙◌, ap, arith}
use Rattle.std.specs.Prelude.{slice_get}
use Rattle.std.proofs.lemmas.List.{length-map, length-append, map-append}
use Rattle.objects.specs.declared.event.Event.{Event}

-- the first of what gates told, and the same at a place of those that got a gate
pub told_at : {P : Type 0} → (a : P → Option (List Event)) → (ps : List P) → (left : List (Option (List Event))) → (i : ℕ) → (p : P) → slice_get ps i ≡ Some p → get_or (map a ps ++ left) i None ≡ a p
told_at a [] left i p h = cc
told_at a (q ∷ ps) left zero p h = let e : q ≡ p = cc in ap a e
told_at a (q ∷ ps) left (suc i) p h = told_at a ps left i p h

-- behind those that got a gate nothing changed
pub told_behind : {P R : Type 0} → (a : P → Option (List Event)) → (b : R → Option (List Event)) → (ps : List P) → (rs : List R) → (left : List (Option (List Event))) → length ps ≡ length rs → (i : ℕ)
    → length rs ≤ i → get_or (map b rs ++ left) i None ≡ get_or (map a ps ++ left) i None
told_behind a b [] [] left same i high = refl
told_behind a b [] (r ∷ rs) left same i high = absurd (omega (arith, same))
told_behind a b (p ∷ ps) [] left same i high = absurd (omega (arith, same))
told_behind a b (p ∷ ps) (r ∷ rs) left same zero high = absurd (omega (arith, high))
told_behind a b (p ∷ ps) (r ∷ rs) left same (suc i) high = told_behind a b ps rs left (omega (arith, same)) i (omega (arith, high))

pub told_long : {P R : Type 0} → (a : P → Option (List Event)) → (b : R → Option (List Event)) → (ps : List P) → (rs : List R) → (left : List (Option (List Event))) → length ps ≡ length rs
    → length (map b rs ++ left) ≡ length (map a ps ++ left)
told_long a b ps rs left same =
    let one = length-append (map b rs) left in
    let other = length-append (map a ps) left in
    let first = length-map rs b in
    let second = length-map ps a in
    omega (arith, one, other, first, second, same)

-- what the gates told, in two parts
pub told_parts : {P G : Type 0} → (told : G → Option (List Event)) → (gate : P → G) → (ps : List P) → (left all : List G) → map gate ps ++ left ≡ all → map told all ≡ map (λ p. told (gate p)) ps ++ map told left
told_parts told gate ps left all is = ap (map told) (sym is) ∙ map-append told (map gate ps) left ∙ ap (λ (l : List (Option (List Event))). l ++ map told left) (again ps)
  where
    again : (qs : List _) → map told (map gate qs) ≡ map (λ p. told (gate p)) qs
    again [] = refl
    again (q ∷ qs) = ap (λ (l : List (Option (List Event))). told (gate q) ∷ l) (again qs)

-- the first of a list and the rest
pub taken_off : {G : Type 0} → (xs new : List G) → (x : G) → 0 < length xs → x ≡ get_or xs 0 x → new ≡ take 0 xs ++ drop (0 + 1) xs → xs ≡ x ∷ new
taken_off [] new x some first rest = absurd (omega (arith, some))
taken_off (y ∷ xs) new x some first rest = ap (λ z. z ∷ xs) (sym first) ∙ ap (λ l. x ∷ l) (sym rest)

-- one more got a gate
pub given_more : {X G : Type 0} → (given new : List (X × G)) → (yielded : List X) → (one : X) → (gate : G) → (gates left all : List G) → map (λ p. p.0) given ≡ yielded → map (λ p. p.1) given ++ gates ≡ all
    → gates ≡ gate ∷ left → new ≡ given ++ (one, gate) ∷ [] → (map (λ p. p.0) new ≡ yielded ++ one ∷ []) × (map (λ p. p.1) new ++ left ≡ all)
given_more given new yielded one gate gates left all ones parts off pushed = (
  ap (map (λ p. p.0)) pushed ∙ map-append (λ p. p.0) given ((one, gate) ∷ []) ∙ ap (λ l. l ++ one ∷ []) ones,
  ap (λ l. map (λ p. p.1) l ++ left) pushed ∙ ap (λ l. l ++ left) (map-append (λ p. p.1) given ((one, gate) ∷ [])) ∙ append_assoc (map (λ p. p.1) given) (gate ∷ []) left
      ∙ ap (λ l. map (λ p. p.1) given ++ l) (sym off) ∙ parts,
)

-- one more of a list that is made of another
pub mapped_push : {A B : Type 0} → (f : A → B) → (xs : List A) → (x : A) → (ys new : List B) → (y : B) → ys ≡ map f xs → y ≡ f x → new ≡ ys ++ y ∷ [] → new ≡ map f (xs ++ x ∷ [])
mapped_push f xs x ys new y are is pushed = pushed ∙ ap (λ l. l ++ y ∷ []) are ∙ ap (λ z. map f xs ++ z ∷ []) is ∙ sym (map-append f xs (x ∷ []))

-- one gate of several
pub told_set_here : {G : Type 0} → (told : G → Option (List Event)) → (gs : List G) → (n : ℕ) → (g : G) → n < length gs → get_or (map told (set gs n g)) n None ≡ told g
told_set_here told [] n g low = absurd (omega (arith, low))
told_set_here told (h ∷ gs) zero g low = refl
told_set_here told (h ∷ gs) (suc n) g low = told_set_here told gs n g (omega (arith, low))

pub told_set_other : {G : Type 0} → (told : G → Option (List Event)) → (gs : List G) → (n : ℕ) → (g : G) → (k : ℕ) → k ≢ n → get_or (map told (set gs n g)) k None ≡ get_or (map told gs) k None
told_set_other told [] n g k ne = refl
told_set_other told (h ∷ gs) zero g zero ne = absurd (ne refl)
told_set_other told (h ∷ gs) zero g (suc k) ne = refl
told_set_other told (h ∷ gs) (suc n) g zero ne = refl
told_set_other told (h ∷ gs) (suc n) g (suc k) ne = told_set_other told gs n g k (λ e. ne (ap suc e))

pub told_set_long : {G : Type 0} → (told : G → Option (List Event)) → (gs : List G) → (n : ℕ) → (g : G) → length (map told (set gs n g)) ≡ length (map told gs)
told_set_long told [] n g = refl
told_set_long told (h ∷ gs) zero g = refl
told_set_long told (h ∷ gs) (suc n) g = ap suc (told_set_long told gs n g)

pub told_got : {G : Type 0} → (told : G → Option (List Event)) → (gs : List G) → (n : ℕ) → (g : G) → n < length gs → g ≡ get_or gs n g → get_or (map told gs) n None ≡ told g
told_got told [] n g low is = absurd (omega (arith, low))
told_got told (h ∷ gs) zero g low is = ap told (sym is)
told_got told (h ∷ gs) (suc n) g low is = told_got told gs n g (omega (arith, low)) is
