-- What the access flags of a method say together.
use Rattle.std.proofs.Common.{◌≡◌, ℕ, zero, suc, ◌<◌, Bool, true, false, not, refl, sym, ap, ◌∙◌, arith, nat_eq}
use Rattle.std.specs.Prelude.{bit_and, ◌&&◌, ◌||◌, ◌==◌}
use Rattle.std.proofs.lemmas.Bool.Decides.{nat_tests, Decides-eqb}
use Rattle.std.proofs.lemmas.Nat.{and_assoc, and_le_r}

-- ---- a test that each number below a bound passes

abbrev pub all_below : (ℕ → Bool) → ℕ → Bool
all_below p zero = true
all_below p (suc n) = p n && all_below p n

both : (a b : Bool) → (a && b) ≡ true → (a ≡ true) × (b ≡ true)
both true b e = (refl, e)
both false b e = cc

pub passes_below : (p : ℕ → Bool) (n : ℕ) → all_below p n ≡ true → (x : ℕ) → x < n → p x ≡ true
passes_below p zero e x less = absurd (omega arith)
passes_below p (suc n) e x less = go (nat_eq x n) refl (passes_below p n (both (p n) (all_below p n) e).1 x)
  where
    go : (b : Bool) → nat_eq x n ≡ b → (x < n → p x ≡ true) → p x ≡ true
    go true is rest = ap p ((Decides-eqb x n).0 is) ∙ (both (p n) (all_below p n) e).0
    go false is rest = rest (grind (arith, nat_tests))

-- ---- flags

is_zero : (n : ℕ) → (n == 0) ≡ true → n ≡ 0
is_zero n e = (Decides-eqb n 0).0 e

-- a static initialiser is static, and not abstract
pub static_bit : (f : ℕ) → nat_eq (bit_and f 0x408) 8 ≡ true → not (bit_and f 8 == 0) ≡ true
static_bit f e =
    let whole : bit_and f 0x408 ≡ 8 = (Decides-eqb (bit_and f 0x408) 8).0 e in
    let one : bit_and f 8 ≡ 8 = sym (and_assoc 8 f 0x408) ∙ ap (λ n. bit_and n 8) whole in
    ap (λ n. not (n == 0)) one

pub not_abstract : (f : ℕ) → nat_eq (bit_and f 0x408) 8 ≡ true → bit_and f 0x400 ≡ 0
not_abstract f e =
    let whole : bit_and f 0x408 ≡ 8 = (Decides-eqb (bit_and f 0x408) 8).0 e in
    sym (and_assoc 0x400 f 0x408) ∙ ap (λ n. bit_and n 0x400) whole

-- a method that is neither native nor abstract has code
pub abstract_by : (f : ℕ) → bit_and f 0x500 ≡ 0 → bit_and f 0x400 ≡ 0
abstract_by f e = sym (and_assoc 0x400 f 0x500) ∙ ap (λ n. bit_and n 0x400) e

abbrev is_apart : ℕ → Bool
is_apart y = not (bit_and y 0x100 == 0) || (not (bit_and y 0x400 == 0) || (not (bit_and y 0x500 == y) || y == 0))

each_apart : all_below is_apart 1281 ≡ true
each_apart = refl

third : (a b c d : Bool) → a ≡ true → b ≡ true → c ≡ true → (not a || (not b || (not c || d))) ≡ true → d ≡ true
third true true true d p q r e = e
third true true false d p q r e = cc
third true false c d p q r e = cc
third false b c d p q r e = cc

pub has_code_by : (f : ℕ) → bit_and f 0x100 ≡ 0 → bit_and f 0x400 ≡ 0 → bit_and f 0x500 ≡ 0
has_code_by f native abstract =
    let y : ℕ = bit_and f 0x500 in
    let few : bit_and f 0x500 < 1281 = omega (arith, and_le_r f 0x500) in
    let a : bit_and (bit_and f 0x500) 0x100 ≡ 0 = and_assoc 0x100 f 0x500 ∙ native in
    let b : bit_and (bit_and f 0x500) 0x400 ≡ 0 = and_assoc 0x400 f 0x500 ∙ abstract in
    let c : bit_and (bit_and f 0x500) 0x500 ≡ bit_and f 0x500 = and_assoc 0x500 f 0x500 in
    let d = passes_below is_apart 1281 each_apart (bit_and f 0x500) few in
    is_zero _ (third (bit_and (bit_and f 0x500) 0x100 == 0) (bit_and (bit_and f 0x500) 0x400 == 0) (bit_and (bit_and f 0x500) 0x500 == bit_and f 0x500) (bit_and f 0x500 == 0)
    ((Decides-eqb _ 0).1 a) ((Decides-eqb _ 0).1 b) ((Decides-eqb _ _).1 c) d)
