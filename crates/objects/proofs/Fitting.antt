-- What instructions make of numbers fits their width.
use Rattle.std.proofs.Common.{ℕ, ℤ, ◌<◌, ◌%◌, ◌^◌, Bool, true, false, subst, arith, lit<}
use Rattle.std.specs.Prelude.{pos, negsuc, int_le, int_lt, FitsSigned, if◌then◌else◌}
use Rattle.std.specs.Int.{w32, int_shr, cast_signed, int_wrapping_neg}
use Rattle.std.proofs.lemmas.Int.{ints, rem_is}
use Rattle.std.proofs.lemmas.Nat.{shr_le}
use borrow.Author.Gap.{read_sfits}
use Rattle.objects.specs.declared.op.Width.{Width}
use Rattle.objects.specs.declared.op.Width.TheVariants as width
use Rattle.objects.specs.declared.op.Binary.{Binary}
use Rattle.objects.specs.declared.op.Binary.TheVariants.{Add, Subtract, Multiply, And, Or, Xor, Minimum, Maximum}
use Rattle.objects.specs.declared.op.Shift.{Shift}
use Rattle.objects.specs.declared.op.Shift.TheVariants.{Left, Right, UnsignedRight}
use Rattle.objects.specs.declared.op.Division.{Division}
use Rattle.objects.specs.declared.op.Division.TheVariants.{Quotient, Remainder}
use Rattle.objects.specs.declared.op.Unary.{Unary}
use Rattle.objects.specs.declared.op.Unary.TheVariants.{Negate, Absolute}
use Rattle.objects.specs.semantics.Step.{bits, binary, shifted, divided, unary, compared}

-- a number of a width
abbrev pub Fits : Width → ℤ → Type 0
Fits w x = FitsSigned (bits w) x

pub right_fits : (w : Width) (x : ℤ) (k : ℕ) → Fits w x → Fits w (int_shr x k)
right_fits width.Int (pos n) k h = let lt : n < 2 ^ 31 = h.sfits in record { sfits = omega (arith, shr_le n k) }
right_fits width.Int (negsuc n) k h = let lt : n < 2 ^ 31 = h.sfits in record { sfits = omega (arith, shr_le n k) }
right_fits width.Long (pos n) k h = let lt : n < 2 ^ 63 = h.sfits in record { sfits = omega (arith, shr_le n k) }
right_fits width.Long (negsuc n) k h = let lt : n < 2 ^ 63 = h.sfits in record { sfits = omega (arith, shr_le n k) }

either_fits : (w : Width) (b : Bool) (x y : ℤ) → Fits w x → Fits w y → Fits w (if b then x else y)
either_fits w true x y h g = h
either_fits w false x y h g = g

pub binary_fits : (w : Width) (b : Binary) (x y : ℤ) → Fits w x → Fits w y → Fits w (binary w b x y)
binary_fits w Add x y h g = read_sfits (bits w) _
binary_fits w Subtract x y h g = read_sfits (bits w) _
binary_fits w Multiply x y h g = read_sfits (bits w) _
binary_fits w And x y h g = read_sfits (bits w) _
binary_fits w Or x y h g = read_sfits (bits w) _
binary_fits w Xor x y h g = read_sfits (bits w) _
binary_fits w Minimum x y h g = either_fits w (int_le x y) x y h g
binary_fits w Maximum x y h g = either_fits w (int_le x y) y x g h

pub shifted_fits : (w : Width) (b : Shift) (x : ℤ) (n : ℕ) → Fits w x → Fits w (shifted w b x n)
shifted_fits w Left x n h = read_sfits (bits w) _
shifted_fits w Right x n h = right_fits w x n h
shifted_fits w UnsignedRight x n h = read_sfits (bits w) _

pub divided_fits : (w : Width) (d : Division) (x y : ℤ) → Fits w x → Fits w y → Fits w (divided w d x y)
divided_fits w Quotient x y h g = read_sfits (bits w) _
divided_fits w Remainder x y h g = subst (FitsSigned (bits w)) (rem_is (bits w) x y h g) (read_sfits (bits w) _)

pub unary_fits : (w : Width) (u : Unary) (x : ℤ) → Fits w x → Fits w (unary w u x)
unary_fits w Negate x h = read_sfits (bits w) _
unary_fits w Absolute x h = either_fits w (int_lt x (pos 0)) (int_wrapping_neg (bits w) x) x (read_sfits (bits w) _) h

pub add_fits : (x y : ℤ) → FitsSigned w32 (binary width.Int Add x y)
add_fits x y = read_sfits w32 _

pub compared_fits : (x y : ℤ) → FitsSigned w32 (compared x y)
compared_fits x y = by (int_lt x y) (int_lt y x)
  where
    by : (a b : Bool) → FitsSigned w32 (if a then negsuc 0 else (if b then pos 1 else pos 0))
    by true b = record { sfits = lit< tt }
    by false true = record { sfits = lit< tt }
    by false false = record { sfits = lit< tt }

-- the low 32 bits of a long
pub cut_fits : (n : ℕ) → FitsSigned w32 (cast_signed w32 (n % 2 ^ 32))
cut_fits n = omega (arith, ints)
