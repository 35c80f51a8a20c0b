-- Types of the locals of a duplicate, up to those that it has more for a long: those of the method, with the context among them. Of a long that the
-- context parts nothing is left.
use Rattle.std.proofs.Common.{◌≡◌, ℕ, zero, suc, ◌+◌, ◌<◌, ◌≤◌, List, [], ◌∷◌, length, Some, Bool, true, false, refl, sym, ap, subst, ◌∙◌, arith}
use Rattle.std.specs.Prelude.{slice_get, slice_set, nat_lt, if◌then◌else◌}
use Rattle.std.proofs.lemmas.Bool.Decides.{nat_tests}
use Rattle.jmodel.specs.declared.typing.VType.{VType}
use Rattle.jmodel.specs.declared.typing.VType.TheVariants.{Int, Long, Second, Null, Ref, Uninit, UninitThis, Top}
use Rattle.objects.specs.semantics.Program.{Program}
use Rattle.objects.specs.typing.TypeOrder.{context_class, IsWithin, AreWithin, IsLocals, IsLocalsAfter}
use Rattle.objects.specs.rewriting.Rewriting.{moved}
use Rattle.objects.proofs.Agreeing.{IsOneKind}

abbrev pub context : VType
context = Ref context_class

-- a type so many places before the context's
abbrev pub before : VType → ℕ → VType
before Long zero = Top
before t p = t

-- types right behind it
abbrev pub after : List VType → List VType
after (Second ∷ ls) = Top ∷ ls
after ls = ls

abbrev pub copied : ℕ → List VType → List VType
copied zero ls = context ∷ after ls
copied (suc p) [] = []
copied (suc p) (t ∷ ls) = before t p ∷ copied p ls

-- ---- they are types of locals

abbrev carried : Bool → ℕ → Bool
carried true (suc p) = true
carried b p = false

after_locals : (ls : List VType) → IsLocals ls → IsLocals (after ls)
after_locals [] h = tt
after_locals (Second ∷ ls) h = absurd h
after_locals (t ∷ ls) h = h

copied_after : (b : Bool) (p : ℕ) (ls : List VType) → IsLocalsAfter b ls → IsLocalsAfter (carried b p) (copied p ls)
copied_after false zero ls h = after_locals ls h
copied_after true zero (Second ∷ ls) h = h
copied_after true zero [] h = absurd h
copied_after true zero (t ∷ ls) h = absurd h
copied_after false (suc p) [] h = tt
copied_after true (suc p) [] h = absurd h
copied_after true (suc p) (Second ∷ ls) h = copied_after false p ls h
copied_after true (suc p) (t ∷ ls) h = absurd h
copied_after false (suc zero) (Long ∷ ls) h = copied_after true zero ls h
copied_after false (suc (suc p)) (Long ∷ ls) h = copied_after true (suc p) ls h
copied_after false (suc p) (Second ∷ ls) h = absurd h
copied_after false (suc p) (t ∷ ls) h = copied_after false p ls h

pub copied_locals : (p : ℕ) (ls : List VType) → IsLocals ls → IsLocals (copied p ls)
copied_locals p ls h = copied_after false p ls h

-- ---- wider types have wider copies

module _ (Q : Program) (con : IsWithin Q context context) where
  before_within : (t u : VType) (p : ℕ) → IsWithin Q t u → IsWithin Q (before t p) (before u p)
  before_within t Top p h = refl
  before_within Long Long zero h = refl
  before_within Long Long (suc p) h = refl
  before_within Long u p h = cc
  before_within t Long p h = cc
  before_within t u p h = h

  after_within : (ls ms : List VType) → AreWithin Q ls ms → AreWithin Q (after ls) (after ms)
  after_within [] [] h = tt
  after_within [] (u ∷ ms) h = absurd h
  after_within (t ∷ ls) [] h = absurd h
  after_within (Second ∷ ls) (Second ∷ ms) h = (refl, h.1)
  after_within (Second ∷ ls) (Top ∷ ms) h = (refl, h.1)
  after_within (Second ∷ ls) (u ∷ ms) h = let e = h.0 in cc
  after_within (t ∷ ls) (Second ∷ ms) h = let e = h.0 in cc
  after_within (t ∷ ls) (u ∷ ms) h = h

  pub copied_within : (p : ℕ) (ls ms : List VType) → AreWithin Q ls ms → AreWithin Q (copied p ls) (copied p ms)
  copied_within zero ls ms h = (con, after_within ls ms h)
  copied_within (suc p) [] [] h = tt
  copied_within (suc p) [] (u ∷ ms) h = absurd h
  copied_within (suc p) (t ∷ ls) [] h = absurd h
  copied_within (suc p) (t ∷ ls) (u ∷ ms) h = (before_within t u p h.0, copied_within p ls ms h.1)

-- ---- where a value lies, and the context

abbrev pub IsPlainKind : VType → Type 0
IsPlainKind Long = ⊥
IsPlainKind Second = ⊥
IsPlainKind t = Unit {0}

pub one_plain : (t : VType) → IsOneKind t → IsPlainKind t
one_plain Int k = tt
one_plain Null k = tt
one_plain (Ref n) k = tt
one_plain (Uninit p) k = tt
one_plain UninitThis k = tt
one_plain t k = absurd k

plain_before : (t : VType) (p : ℕ) → IsPlainKind t → before t p ≡ t
plain_before Long p k = absurd k
plain_before t p k = refl

plain_after : (t : VType) (ls : List VType) → IsPlainKind t → after (t ∷ ls) ≡ t ∷ ls
plain_after Second ls k = absurd k
plain_after t ls k = refl

low : (p : ℕ) (ls : List VType) (i : ℕ) (t : VType) → i < p → slice_get ls i ≡ Some t → IsPlainKind t → slice_get (copied p ls) i ≡ Some t
low zero ls i t lt e k = absurd (omega (arith, lt))
low (suc p) [] i t lt e k = cc
low (suc p) (x ∷ ls) zero t lt e k = let s : x ≡ t = cc in ap (λ (y : VType). Some (before y p)) s ∙ ap (λ (y : VType). Some y) (plain_before t p k)
low (suc p) (x ∷ ls) (suc i) t lt e k = low p ls i t (omega (arith, lt)) e k

behind : (ls : List VType) (i : ℕ) (t : VType) → slice_get ls i ≡ Some t → IsPlainKind t → slice_get (after ls) i ≡ Some t
behind [] i t e k = cc
behind (Second ∷ ls) zero t e k = let s : Second ≡ t = cc in absurd (subst IsPlainKind (sym s) k)
behind (Second ∷ ls) (suc i) t e k = e
behind (x ∷ ls) i t e k = e

high : (p : ℕ) (ls : List VType) (i : ℕ) (t : VType) → p ≤ i → slice_get ls i ≡ Some t → IsPlainKind t → slice_get (copied p ls) (suc i) ≡ Some t
high zero ls i t le e k = behind ls i t e k
high (suc p) [] i t le e k = cc
high (suc p) (x ∷ ls) zero t le e k = absurd (omega (arith, le))
high (suc p) (x ∷ ls) (suc i) t le e k = high p ls i t (omega (arith, le)) e k

pub copied_plain : (p : ℕ) (ls : List VType) (i : ℕ) (t : VType) → slice_get ls i ≡ Some t → IsPlainKind t → slice_get (copied p ls) (moved p i) ≡ Some t
copied_plain p ls i t e k = by (nat_lt i p) refl
  where
    by : (b : Bool) → nat_lt i p ≡ b → slice_get (copied p ls) (if b then i else i + 1) ≡ Some t
    by true is = let lt : i < p = grind (arith, nat_tests) in low p ls i t lt e k
    by false is =
        let le : p ≤ i = grind (arith, nat_tests) in
        let z : i + 1 ≡ suc i = omega arith in
        ap (slice_get (copied p ls)) z ∙ high p ls i t le e k

pub copied_context : (p : ℕ) (ls : List VType) → p ≤ length ls → slice_get (copied p ls) p ≡ Some context
copied_context zero ls le = refl
copied_context (suc p) [] le = absurd (omega (arith, le))
copied_context (suc p) (t ∷ ls) le = copied_context p ls (omega (arith, le))

pub copied_length : (p : ℕ) (ls : List VType) → p ≤ length ls → length (copied p ls) ≡ length ls + 1
copied_length zero [] le = refl
copied_length zero (Second ∷ ls) le = omega arith
copied_length zero (t ∷ ls) le = omega arith
copied_length (suc p) [] le = absurd (omega (arith, le))
copied_length (suc p) (t ∷ ls) le = let e = copied_length p ls (omega (arith, le)) in omega (arith, e)

-- ---- a place that takes a value of one place, or nothing

after_set : (ls : List VType) (i : ℕ) (t : VType) → IsPlainKind t → after (slice_set ls i t) ≡ slice_set (after ls) i t
after_set [] i t k = refl
after_set (Second ∷ ls) zero t k = plain_after t ls k
after_set (Second ∷ ls) (suc i) t k = refl
after_set (x ∷ ls) zero t k = plain_after t ls k
after_set (x ∷ ls) (suc i) t k = refl

low_set : (p : ℕ) (ls : List VType) (i : ℕ) (t : VType) → i < p → IsPlainKind t → copied p (slice_set ls i t) ≡ slice_set (copied p ls) i t
low_set zero ls i t lt k = absurd (omega (arith, lt))
low_set (suc p) [] i t lt k = refl
low_set (suc p) (x ∷ ls) zero t lt k = ap (λ (y : VType). y ∷ copied p ls) (plain_before t p k)
low_set (suc p) (x ∷ ls) (suc i) t lt k = ap (λ (l : List VType). before x p ∷ l) (low_set p ls i t (omega (arith, lt)) k)

high_set : (p : ℕ) (ls : List VType) (i : ℕ) (t : VType) → p ≤ i → IsPlainKind t → copied p (slice_set ls i t) ≡ slice_set (copied p ls) (suc i) t
high_set zero ls i t le k = ap (λ (l : List VType). context ∷ l) (after_set ls i t k)
high_set (suc p) [] i t le k = refl
high_set (suc p) (x ∷ ls) zero t le k = absurd (omega (arith, le))
high_set (suc p) (x ∷ ls) (suc i) t le k = ap (λ (l : List VType). before x p ∷ l) (high_set p ls i t (omega (arith, le)) k)

pub copied_set : (p : ℕ) (ls : List VType) (i : ℕ) (t : VType) → IsPlainKind t → copied p (slice_set ls i t) ≡ slice_set (copied p ls) (moved p i) t
copied_set p ls i t k = by (nat_lt i p) refl
  where
    by : (b : Bool) → nat_lt i p ≡ b → copied p (slice_set ls i t) ≡ slice_set (copied p ls) (if b then i else i + 1) t
    by true is = let lt : i < p = grind (arith, nat_tests) in low_set p ls i t lt k
    by false is =
        let le : p ≤ i = grind (arith, nat_tests) in
        let z : suc i ≡ i + 1 = omega arith in
        high_set p ls i t le k ∙ ap (λ (j : ℕ). slice_set (copied p ls) j t) z
