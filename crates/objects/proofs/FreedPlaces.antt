-- What is left of a long whose one place is written, in lists with others behind them.
use Rattle.std.proofs.Common.{◌≡◌, ◌≢◌, ℕ, zero, suc, ◌+◌, ◌-◌, ◌<◌, List, [], ◌∷◌, ◌++◌, length, Option, Some, refl, sym, ap, ◌∙◌, arith}
use Rattle.std.specs.Prelude.{slice_get, slice_set}
use Rattle.std.proofs.lemmas.List.{length-set}
use Rattle.std.proofs.lemmas.Option.{slice_get_within}
use Rattle.jmodel.specs.declared.typing.VType.{VType}
use Rattle.jmodel.specs.declared.typing.VType.TheVariants.{Long, Second, Top}
use Rattle.objects.specs.typing.TypeOrder.{IsLocals}
use Rattle.objects.specs.typing.Typing.{freed, freed_by}
use Rattle.objects.proofs.Moved.{get_set_same, get_set_other}
use Rattle.objects.proofs.CopiedLongs.{IsWhole, whole}

pub set_front : (xs ys : List VType) (q : ℕ) (t : VType) → q < length xs → slice_set (xs ++ ys) q t ≡ slice_set xs q t ++ ys
set_front [] ys q t lt = absurd (omega (arith, lt))
set_front (x ∷ xs) ys zero t lt = refl
set_front (x ∷ xs) ys (suc q) t lt = ap (λ (l : List VType). x ∷ l) (set_front xs ys q t (omega (arith, lt)))

pub get_same : (xs ys : List VType) (q : ℕ) → q < length xs → slice_get (xs ++ ys) q ≡ slice_get xs q
get_same [] ys q lt = absurd (omega (arith, lt))
get_same (x ∷ xs) ys zero lt = refl
get_same (x ∷ xs) ys (suc q) lt = get_same xs ys q (omega (arith, lt))

pub freed_front : (xs ys : List VType) (q : ℕ) → IsWhole xs q → q < length xs → freed q (xs ++ ys) ≡ freed q xs ++ ys
freed_front xs ys q w lt = ap (λ (o : Option VType). freed_by o q (xs ++ ys)) (get_same xs ys q lt) ∙ by (slice_get xs q) refl
  where
    by : (o : Option VType) → slice_get xs q ≡ o → freed_by o q (xs ++ ys) ≡ freed_by o q xs ++ ys
    by (Some Long) e = let next : q + 1 < length xs = let h = slice_get_within xs (suc q) Second (w.first e) in omega (arith, h) in set_front xs ys (q + 1) Top next
    by (Some Second) e = let back : q - 1 < length xs = omega (arith, lt) in set_front xs ys (q - 1) Top back
    by o e = refl

freed_by_size : (o : Option VType) (i : ℕ) (ls : List VType) → length (freed_by o i ls) ≡ length ls
freed_by_size (Some Second) i ls = length-set ls (i - 1) Top
freed_by_size (Some Long) i ls = length-set ls (i + 1) Top
freed_by_size o i ls = refl

pub freed_size : (i : ℕ) (ls : List VType) → length (freed i ls) ≡ length ls
freed_size i ls = freed_by_size (slice_get ls i) i ls

-- what is left was there
top_known : (t : VType) → t ≢ Top → (ls : List VType) (i j : ℕ) → slice_get (slice_set ls i Top) j ≡ Some t → slice_get ls j ≡ Some t
top_known t ne [] i j e = e
top_known t ne (x ∷ ls) zero zero e = absurd (ne (let s : Top ≡ t = cc in sym s))
top_known t ne (x ∷ ls) zero (suc j) e = e
top_known t ne (x ∷ ls) (suc i) zero e = e
top_known t ne (x ∷ ls) (suc i) (suc j) e = top_known t ne ls i j e

pub freed_known : (t : VType) → t ≢ Top → (ls : List VType) (i j : ℕ) → slice_get (freed i ls) j ≡ Some t → slice_get ls j ≡ Some t
freed_known t ne ls i j = by (slice_get ls i)
  where
    by : (o : Option VType) → slice_get (freed_by o i ls) j ≡ Some t → slice_get ls j ≡ Some t
    by (Some Second) e = top_known t ne ls (i - 1) j e
    by (Some Long) e = top_known t ne ls (i + 1) j e
    by o e = e

-- behind a place that is freed, a long is whole
pub whole_next : (ls : List VType) (i : ℕ) → IsLocals ls → suc i < length ls → IsWhole (freed i ls) (suc i)
whole_next ls i h room = record { second = λ e. absurd (no_second e); first = first }
  where
    not_top : Second ≢ Top
    not_top e = cc

    long_not_top : Long ≢ Top
    long_not_top e = cc

    -- the second place of a long is freed with the first
    no_second : slice_get (freed i ls) (suc i) ≡ Some Second → ⊥
    no_second e =
        let was = freed_known Second not_top ls i (suc i) e in
        let f = (whole ls (suc i) h).second was in
        let at : i ≡ f.0 = let g = f.1 in omega (arith, g) in
        let long : slice_get ls i ≡ Some Long = ap (slice_get ls) at ∙ f.2 in
        let z : i + 1 ≡ suc i = omega arith in
        let gone : slice_get (freed i ls) (suc i) ≡ Some Top = ap (λ (o : Option VType). slice_get (freed_by o i ls) (suc i)) long ∙ ap (λ (x : ℕ). slice_get (slice_set ls x Top) (suc i)) z ∙ get_set_same ls (suc i) Top room in
        cc

    kept : (o : Option VType) → slice_get (freed_by o i ls) (suc (suc i)) ≡ slice_get ls (suc (suc i))
    kept (Some Second) = get_set_other ls (i - 1) (suc (suc i)) Top (λ d. omega (arith, d))
    kept (Some Long) = get_set_other ls (i + 1) (suc (suc i)) Top (λ d. omega (arith, d))
    kept o = refl

    first : slice_get (freed i ls) (suc i) ≡ Some Long → slice_get (freed i ls) (suc (suc i)) ≡ Some Second
    first e = kept (slice_get ls i) ∙ (whole ls (suc i) h).first (freed_known Long long_not_top ls i (suc i) e)
