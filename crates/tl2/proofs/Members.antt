-- What lists have.
use Rattle.std.proofs.Common.{◌≡◌, ◌⊎◌, ◌||◌, ◌==◌, ◌%◌, ℕ, Bool, true, cond, List, [], ◌∷◌, ◌++◌, All, filter, length, reverse, slice_index, zero, suc, ◌<◌, refl, sym, ap, ◌∙◌, inl, inr, ⊎_elim, subst, eq-eqb, arith}
use Rattle.std.proofs.lemmas.List.{reverse-append, reverse-reverse}
use Rattle.std.proofs.lemmas.List.Elements.{All-nil, All-cons, All-head, All-tail}
use Rattle.tx_table.specs.Book.{Map, In}
use Rattle.tx_table.specs.Plays.{keys}
use Rattle.tl2.specs.Plans.{touches}
use Rattle.tl2.proofs.Keys.{by_bool}

pub all_in : {A : Type 0} (P : A → Type 0) (ls : List A) (p : A) → All P ls → In p ls → P p
all_in P [] p all i = absurd i
all_in P (l ∷ ls) p all (inl e) = subst P (sym e) (All-head P l ls all)
all_in P (l ∷ ls) p all (inr i) = all_in P ls p (All-tail P l ls all) i

pub all_from : {A : Type 0} (P : A → Type 0) (ls : List A) → ((p : A) → In p ls → P p) → All P ls
all_from P [] f = All-nil P
all_from P (l ∷ ls) f = All-cons P l ls (f l (inl refl)) (all_from P ls (λ p i. f p (inr i)))

in_either : {A : Type 0} (xs ys : List A) (a : A) → In a (xs ++ ys) → In a xs ⊎ In a ys
in_either [] ys a i = inr i
in_either (x ∷ xs) ys a (inl e) = inl (inl e)
in_either {A} (x ∷ xs) ys a (inr i) = ⊎_elim (λ (j : In a xs). inl (inr j)) (λ (j : In a ys). inr j) (in_either xs ys a i)

pub in_reversed : {A : Type 0} (xs : List A) (a : A) → In a (reverse xs) → In a xs
in_reversed [] a i = absurd i
in_reversed {A} (x ∷ xs) a i = ⊎_elim (λ (j : In a (reverse xs)). inr (in_reversed xs a j)) (λ (j : In a (x ∷ [])). ⊎_elim (λ (e : a ≡ x). inl e) (λ (n : ⊥). absurd n) j)
    (in_either (reverse xs) (x ∷ []) a (subst (λ (l : List A). In a l) (reverse-append (x ∷ []) xs) i))

pub in_turned : {A : Type 0} (xs : List A) (a : A) → In a xs → In a (reverse xs)
in_turned xs a i = in_reversed (reverse xs) a (subst (In a) (sym (reverse-reverse xs)) i)

-- what holds of each element of a reversed list, holds of each of the list
pub all_reversed : {A : Type 0} (P : A → Type 0) (xs : List A) → All P (reverse xs) → All P xs
all_reversed P xs all = all_from P xs (λ p i. all_in P (reverse xs) p all (in_turned xs p i))

pub all_turned : {A : Type 0} (P : A → Type 0) (xs : List A) → All P xs → All P (reverse xs)
all_turned P xs all = all_from P (reverse xs) (λ p i. all_in P xs p all (in_reversed xs p i))

pub in_keys : (m : Map ℕ) (b x : ℕ) → In (b, x) m → In b (keys m)
in_keys [] b x i = absurd i
in_keys (y ∷ m) b x (inl e) = inl (ap (λ (p : ℕ × ℕ). p.0) e)
in_keys (y ∷ m) b x (inr i) = inr (in_keys m b x i)

pub in_at : (xs : List ℕ) (i : ℕ) → i < length xs → In (slice_index xs i) xs
in_at [] zero l = let no : ⊥ = omega arith in absurd no
in_at [] (suc i) l = let no : ⊥ = omega arith in absurd no
in_at (x ∷ xs) zero l = inl refl
in_at (x ∷ xs) (suc i) l = inr (in_at xs i (omega arith))

pub in_filter : (p : ℕ → Bool) (xs : List ℕ) (b : ℕ) → In b (filter p xs) → In b xs × (p b ≡ true)
in_filter p [] b i = absurd i
in_filter p (x ∷ xs) b i = by_bool (p x)
    (λ t. ⊎_elim (λ (e : b ≡ x). (inl e, ap p e ∙ t)) (λ (j : In b (filter p xs)). let h = in_filter p xs b j in (inr h.0, h.1))
    (subst (In b) (ap (λ (c : Bool). cond c (x ∷ filter p xs) (filter p xs)) t) i))
    (λ f. let h = in_filter p xs b (subst (In b) (ap (λ (c : Bool). cond c (x ∷ filter p xs) (filter p xs)) f) i) in (inr h.0, h.1))

pub filter_in : (p : ℕ → Bool) (xs : List ℕ) (b : ℕ) → In b xs → p b ≡ true → In b (filter p xs)
filter_in p [] b i e = absurd i
filter_in p (x ∷ xs) b (inl q) e = subst (In b) (sym (ap (λ (c : Bool). cond c (x ∷ filter p xs) (filter p xs)) (ap p (sym q) ∙ e))) (inl q)
filter_in p (x ∷ xs) b (inr i) e = by_bool (p x)
    (λ t. subst (In b) (sym (ap (λ (c : Bool). cond c (x ∷ filter p xs) (filter p xs)) t)) (inr (filter_in p xs b i e)))
    (λ f. subst (In b) (sym (ap (λ (c : Bool). cond c (x ∷ filter p xs) (filter p xs)) f)) (filter_in p xs b i e))

-- an address touches its own stripe
pub in_touches : (xs : List ℕ) (b : ℕ) → In b xs → touches xs (b % 4096) ≡ true
in_touches [] b i = absurd i
in_touches (x ∷ xs) b (inl e) = ap (λ (c : Bool). c || touches xs (b % 4096)) (eq-eqb (x % 4096) (b % 4096) (ap (λ (k : ℕ). k % 4096) (sym e)))
in_touches (x ∷ xs) b (inr i) = by_bool (x % 4096 == b % 4096)
    (λ t. ap (λ (c : Bool). c || touches xs (b % 4096)) t)
    (λ f. ap (λ (c : Bool). c || touches xs (b % 4096)) f ∙ in_touches xs b i)
