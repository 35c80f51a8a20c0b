-- Numbers of the types of words: what a field keeps is one, and comes back from its word.
use Rattle.std.proofs.Common.{◌≡◌, ℕ, ℤ, suc, ◌+◌, ◌-◌, ◌*◌, ◌%◌, ◌^◌, ◌<◌, refl, ap, ◌∙◌, arith}
use Rattle.std.specs.Prelude.{pos, negsuc, FitsSigned}
use Rattle.std.specs.Int.{w8, w16, w32, w64, cast_signed, cast_unsigned}
use Rattle.std.proofs.lemmas.Nat.{mod-mul-add}
use Rattle.std.proofs.lemmas.Int.{ints, to_z-of_z}
use Rattle.objects.specs.declared.op.WordType.{WordType}
use Rattle.objects.specs.declared.op.WordType.TheVariants as word
use Rattle.objects.specs.semantics.WordTypes.{IsNumberOf, narrowed}
use Rattle.objects.proofs.Moved.{narrow}

-- a type of ints
abbrev pub IsIntType : WordType → Type 0
IsIntType word.Reference = ⊥
IsIntType word.Long = ⊥
IsIntType t = Unit {0}

pub narrowed_number : (t : WordType) (x : ℤ) → IsIntType t → FitsSigned w32 x → IsNumberOf t (narrowed t x)
narrowed_number word.Boolean x i h = omega arith
narrowed_number word.Byte x i h = omega (arith, ints)
narrowed_number word.Char x i h = omega arith
narrowed_number word.Short x i h = omega (arith, ints)
narrowed_number word.Int x i h = h
narrowed_number word.Long x i h = absurd i
narrowed_number word.Reference x i h = absurd i

pub number_fits : (t : WordType) (x : ℤ) → IsIntType t → IsNumberOf t x → FitsSigned w32 x
number_fits word.Boolean (pos n) i h = record { sfits = omega arith }
number_fits word.Boolean (negsuc n) i h = absurd h
number_fits word.Byte x i h = omega (arith, ints)
number_fits word.Char (pos n) i h = record { sfits = omega arith }
number_fits word.Char (negsuc n) i h = absurd h
number_fits word.Short x i h = omega (arith, ints)
number_fits word.Int x i h = h
number_fits word.Long x i h = absurd i
number_fits word.Reference x i h = absurd i

-- a long comes back from its word
pub long_back : (x : ℤ) → FitsSigned w64 x → cast_signed w64 (cast_unsigned w64 x % 2 ^ 64) ≡ x
long_back (pos n) h =
    let lt : n < 2 ^ 63 = h.sfits in
    let e : n % 2 ^ 64 ≡ n = omega arith in
    ap (cast_signed w64) e ∙ to_z-of_z w64 (pos n) h
long_back (negsuc n) h =
    let lt : n < 2 ^ 63 = h.sfits in
    let e : (2 ^ 64 - suc n) % 2 ^ 64 ≡ 2 ^ 64 - suc n = omega arith in
    ap (cast_signed w64) e ∙ to_z-of_z w64 (negsuc n) h

pub narrowed_same : (t : WordType) (x : ℤ) → IsIntType t → IsNumberOf t x → narrowed t x ≡ x
narrowed_same word.Boolean (pos n) i h = omega (arith, ints)
narrowed_same word.Boolean (negsuc n) i h = absurd h
narrowed_same word.Byte (pos n) i h =
    let lt : n < 2 ^ 7 = h.sfits in
    let e : n % 2 ^ 8 ≡ n = omega arith in
    ap (cast_signed w8) e ∙ to_z-of_z w8 (pos n) h
narrowed_same word.Byte (negsuc n) i h =
    let lt : n < 2 ^ 7 = h.sfits in
    let e : 2 ^ 32 - suc n ≡ (2 ^ 24 - 1) * 2 ^ 8 + (2 ^ 8 - suc n) = omega arith in
    let b : 2 ^ 8 - suc n < 2 ^ 8 = omega arith in
    ap (λ (k : ℕ). cast_signed w8 (k % 2 ^ 8)) e ∙ ap (cast_signed w8) (mod-mul-add (2 ^ 24 - 1) (2 ^ 8) (2 ^ 8 - suc n) b) ∙ to_z-of_z w8 (negsuc n) h
narrowed_same word.Char (pos n) i h = omega (arith, ints)
narrowed_same word.Char (negsuc n) i h = absurd h
narrowed_same word.Short (pos n) i h =
    let lt : n < 2 ^ 15 = h.sfits in
    let e : n % 2 ^ 16 ≡ n = omega arith in
    ap (cast_signed w16) e ∙ to_z-of_z w16 (pos n) h
narrowed_same word.Short (negsuc n) i h =
    let lt : n < 2 ^ 15 = h.sfits in
    let e : 2 ^ 32 - suc n ≡ (2 ^ 16 - 1) * 2 ^ 16 + (2 ^ 16 - suc n) = omega arith in
    let b : 2 ^ 16 - suc n < 2 ^ 16 = omega arith in
    ap (λ (k : ℕ). cast_signed w16 (k % 2 ^ 16)) e ∙ ap (cast_signed w16) (mod-mul-add (2 ^ 16 - 1) (2 ^ 16) (2 ^ 16 - suc n) b) ∙ to_z-of_z w16 (negsuc n) h
narrowed_same word.Int x i h = refl
narrowed_same word.Long x i h = absurd i
narrowed_same word.Reference x i h = absurd i

-- a number of a type comes back from its word
pub word_back : (t : WordType) (x : ℤ) → IsIntType t → IsNumberOf t x → narrowed t (cast_signed w32 (cast_unsigned w64 x % 2 ^ 32)) ≡ x
word_back t x i h = ap (narrowed t) (narrow x (number_fits t x i h)) ∙ narrowed_same t x i h
