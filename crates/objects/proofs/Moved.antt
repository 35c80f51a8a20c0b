-- Slots of original code and of its duplicate, which has the context among its locals.
use Rattle.std.proofs.Common.{◌≡◌, ◌≢◌, ℕ, ℤ, zero, suc, ◌+◌, ◌-◌, ◌*◌, ◌%◌, ◌^◌, ◌<◌, List, [], ◌∷◌, ◌++◌, length, Some, refl, ap, subst, ◌∙◌, arith}
use Rattle.std.specs.Prelude.{pos, negsuc, slice_get, slice_set, replicate, FitsSigned}
use Rattle.std.specs.Int.{w32, w64, cast_signed, cast_unsigned}
use Rattle.std.proofs.lemmas.Nat.{mod-mul-add}
use Rattle.std.proofs.lemmas.Int.{to_z-of_z}
use Rattle.objects.specs.declared.op.Slot.{Slot}
use Rattle.objects.specs.declared.op.Slot.TheVariants.{Int, Long, Second, Ref, Context, Empty}
use Rattle.objects.specs.semantics.Step.{Taken, Took, TooFew, take_args}

abbrev pub FitsInt : ℤ → Type 0
FitsInt x = FitsSigned w32 x

-- a slot of original code
abbrev pub IsPlain : Slot → Type 0
IsPlain (Int x) = FitsSigned w32 x
IsPlain (Ref o) = Unit {0}
IsPlain (Long x) = Unit {0}
IsPlain Second = Unit {0}
IsPlain Empty = Unit {0}
IsPlain v = ⊥

abbrev pub ArePlain : List Slot → Type 0
ArePlain [] = Unit {0}
ArePlain (v ∷ s) = IsPlain v × ArePlain s

pub plain_append : (s t : List Slot) → ArePlain s → ArePlain t → ArePlain (s ++ t)
plain_append [] t p q = q
plain_append (v ∷ s) t p q = (p.0, plain_append s t p.1 q)

pub plain_empty : (n : ℕ) → ArePlain (replicate n Empty)
plain_empty zero = tt
plain_empty (suc n) = (tt, plain_empty n)

pub plain_at : (l : List Slot) (i : ℕ) (v : Slot) → ArePlain l → slice_get l i ≡ Some v → IsPlain v
plain_at [] i v p h = cc
plain_at (x ∷ l) zero v p h = let e : x ≡ v = cc in subst IsPlain e p.0
plain_at (x ∷ l) (suc i) v p h = plain_at l i v p.1 h

pub plain_set : (l : List Slot) (i : ℕ) (v : Slot) → ArePlain l → IsPlain v → ArePlain (slice_set l i v)
plain_set [] i v p q = tt
plain_set (x ∷ l) zero v p q = (q, p.1)
plain_set (x ∷ l) (suc i) v p q = (p.0, plain_set l i v p.1 q)

-- arguments taken from a stack, and the same with the context on top
pub data TakenAlike (n : ℕ) : Taken → Taken → Type 0 where
  few : TakenAlike n TooFew TooFew
  took : (args s : List Slot) → length args ≡ n → ArePlain args → ArePlain s → TakenAlike n (Took args s) (Took (args ++ Context ∷ []) s)

taken_alike : (n p : ℕ) (acc s : List Slot) → p + length acc ≡ n → ArePlain acc → ArePlain s → TakenAlike n (take_args p acc s) (take_args p (acc ++ Context ∷ []) s)
taken_alike n zero acc s e a b = took acc s (omega arith) a b
taken_alike n (suc p) acc [] e a b = few
taken_alike n (suc p) acc (v ∷ s) e a b = let e' : p + length (v ∷ acc) ≡ n = omega arith in taken_alike n p (v ∷ acc) s e' (b.0, a) b.1

pub takes_alike : (p : ℕ) (s : List Slot) → ArePlain s → TakenAlike p (take_args p [] s) (take_args (p + 1) [] (Context ∷ s))
takes_alike p s b =
    let e : p + 1 ≡ suc p = omega arith in
    let z : p + 0 ≡ p = omega arith in
    rw e (taken_alike p p [] s z tt b)

-- arguments that were pushed one after another
abbrev pub pushed_on : List Slot → List Slot → List Slot
pushed_on [] s = s
pushed_on (v ∷ vs) s = pushed_on vs (v ∷ s)

pub takes_back : (vs : List Slot) (n : ℕ) (acc s : List Slot) → take_args (length vs + n) acc (pushed_on vs s) ≡ take_args n (vs ++ acc) s
takes_back [] n acc s = let e : 0 + n ≡ n = omega arith in ap (λ (k : ℕ). take_args k acc s) e
takes_back (v ∷ vs) n acc s =
    let e : length (v ∷ vs) + n ≡ length vs + suc n = omega arith in
    ap (λ (k : ℕ). take_args k acc (pushed_on vs (v ∷ s))) e ∙ takes_back vs (suc n) acc (v ∷ s)

-- lists with an item set
pub get_set_same : {A : Type 0} (xs : List A) (i : ℕ) (x : A) → i < length xs → slice_get (slice_set xs i x) i ≡ Some x
get_set_same [] i x h = absurd (omega arith)
get_set_same (y ∷ xs) zero x h = refl
get_set_same (y ∷ xs) (suc i) x h = let h' : i < length xs = omega arith in get_set_same xs i x h'

pub get_set_other : {A : Type 0} (xs : List A) (i j : ℕ) (x : A) → j ≢ i → slice_get (slice_set xs i x) j ≡ slice_get xs j
get_set_other [] i j x h = refl
get_set_other (y ∷ xs) zero zero x h = absurd (h refl)
get_set_other (y ∷ xs) zero (suc j) x h = refl
get_set_other (y ∷ xs) (suc i) zero x h = refl
get_set_other (y ∷ xs) (suc i) (suc j) x h = get_set_other xs i j x (λ e. h (ap suc e))

-- an int that fits its width comes back from its word
pub narrow : (x : ℤ) → FitsSigned w32 x → cast_signed w32 (cast_unsigned w64 x % 2 ^ 32) ≡ x
narrow (pos n) h =
    let lt : n < 2 ^ 31 = h.sfits in
    let e : n % 2 ^ 32 ≡ n = omega arith in
    ap (cast_signed w32) e ∙ to_z-of_z w32 (pos n) h
narrow (negsuc n) h =
    let lt : n < 2 ^ 31 = h.sfits in
    let e : 2 ^ 64 - suc n ≡ (2 ^ 32 - 1) * 2 ^ 32 + (2 ^ 32 - suc n) = omega arith in
    let b : 2 ^ 32 - suc n < 2 ^ 32 = omega arith in
    ap (λ (k : ℕ). cast_signed w32 (k % 2 ^ 32)) e ∙ ap (cast_signed w32) (mod-mul-add (2 ^ 32 - 1) (2 ^ 32) (2 ^ 32 - suc n) b) ∙ to_z-of_z w32 (negsuc n) h
