-- What instructions do to numbers, computed (JVM Specification, Java SE 7, section 6.5).
use Rattle.std.proofs.Common.{◌≡◌, ◌+◌, ◌^◌, refl}
use Rattle.std.specs.Prelude.{ℤ, pos, negsuc, List, [], ◌∷◌, Option, Some, None}
use Rattle.objects.specs.declared.op.Slot.{Slot}
use Rattle.objects.specs.declared.op.Slot.TheVariants.{Int, Long, Second, Ref}
use Rattle.objects.specs.declared.op.Width.TheVariants as width
use Rattle.objects.specs.declared.op.WordType.TheVariants as word
use Rattle.objects.specs.declared.op.Binary.TheVariants.{Add, Subtract, Multiply, And, Xor, Minimum}
use Rattle.objects.specs.declared.op.Shift.TheVariants.{Left, Right, UnsignedRight}
use Rattle.objects.specs.declared.op.Division.TheVariants.{Quotient, Remainder}
use Rattle.objects.specs.declared.op.Unary.TheVariants.{Negate, Absolute}
use Rattle.objects.specs.declared.op.Conversion.{Conversion}
use Rattle.objects.specs.declared.op.Conversion.TheVariants.{IntToByte, IntToChar, IntToShort, IntToLong, LongToInt}
use Rattle.objects.specs.declared.op.StackOp.{StackOp}
use Rattle.objects.specs.declared.op.StackOp.TheVariants.{DupX1, DupX2, Dup2, Dup2X1, Dup2X2, Swap}
use Rattle.objects.specs.semantics.WordTypes.{narrowed}
use Rattle.objects.specs.semantics.Step.{Frame, Did, Does, Wrong, binary, shifted, shift_distance, divided, unary, compared, converted, rearranged, switched}

-- the least and the greatest int, and the least long
abbrev least : ℤ
least = negsuc 2147483647

abbrev greatest : ℤ
greatest = pos 2147483647

abbrev least_long : ℤ
least_long = negsuc 9223372036854775807

sums_wrap : binary width.Int Add greatest (pos 1) ≡ least
sums_wrap = refl

long_sums_wrap : binary width.Long Subtract least_long (pos 1) ≡ pos 9223372036854775807
long_sums_wrap = refl

products_wrap : binary width.Int Multiply (pos 65536) (pos 65536) ≡ pos 0
products_wrap = refl

bits_have_signs : binary width.Int And (negsuc 0) (negsuc 7) ≡ negsuc 7
bits_have_signs = refl

bits_differ : binary width.Long Xor (negsuc 0) (pos 1) ≡ negsuc 1
bits_differ = refl

less : binary width.Long Minimum least_long (pos 3) ≡ least_long
less = refl

quotients_are_cut : divided width.Int Quotient (negsuc 6) (pos 2) ≡ negsuc 2
quotients_are_cut = refl

remainders_follow_the_first : divided width.Int Remainder (negsuc 6) (pos 2) ≡ negsuc 0
remainders_follow_the_first = refl

least_quotient : divided width.Int Quotient least (negsuc 0) ≡ least
least_quotient = refl

least_remainder : divided width.Int Remainder least (negsuc 0) ≡ pos 0
least_remainder = refl

least_long_quotient : divided width.Long Quotient least_long (negsuc 0) ≡ least_long
least_long_quotient = refl

least_negated : unary width.Int Negate least ≡ least
least_negated = refl

least_absolute : unary width.Long Absolute least_long ≡ least_long
least_absolute = refl

absolute : unary width.Int Absolute (negsuc 4) ≡ pos 5
absolute = refl

-- five bits of the distance count, or six
far_shift : shifted width.Int Left (pos 1) (shift_distance width.Int (pos 33)) ≡ pos 2
far_shift = refl

far_long_shift : shifted width.Long Left (pos 1) (shift_distance width.Long (pos 65)) ≡ pos 2
far_long_shift = refl

back_shift : shifted width.Int Left (pos 1) (shift_distance width.Int (negsuc 0)) ≡ least
back_shift = refl

back_long_shift : shifted width.Long Left (pos 1) (shift_distance width.Long (negsuc 0)) ≡ least_long
back_long_shift = refl

signed_shift : shifted width.Int Right (negsuc 7) 1 ≡ negsuc 3
signed_shift = refl

unsigned_shift : shifted width.Int UnsignedRight (negsuc 0) 28 ≡ pos 15
unsigned_shift = refl

unsigned_long_shift : shifted width.Long UnsignedRight (negsuc 0) 60 ≡ pos 15
unsigned_long_shift = refl

no_shift : shifted width.Int UnsignedRight (negsuc 0) 0 ≡ negsuc 0
no_shift = refl

compared_less : compared least_long (pos 0) ≡ negsuc 0
compared_less = refl

compared_same : compared (pos 7) (pos 7) ≡ pos 0
compared_same = refl

compared_greater : compared (pos 7) (negsuc 7) ≡ pos 1
compared_greater = refl

to_boolean : narrowed word.Boolean (pos 2) ≡ pos 0
to_boolean = refl

to_true : narrowed word.Boolean (negsuc 0) ≡ pos 1
to_true = refl

to_char : narrowed word.Char (negsuc 0) ≡ pos 65535
to_char = refl

to_short : narrowed word.Short (pos 40000) ≡ negsuc 25535
to_short = refl

to_byte : narrowed word.Byte (pos 200) ≡ negsuc 55
to_byte = refl

switches : switched 9 ((negsuc 0, 3) ∷ (pos 4, 5) ∷ []) (pos 4) ≡ 5
switches = refl

switches_past : switched 9 ((negsuc 0, 3) ∷ (pos 4, 5) ∷ []) (pos 3) ≡ 9
switches_past = refl

-- ---- the stack

abbrev stack_of : Did → Option (List Slot)
stack_of (Does d f) = Some f.stack
stack_of Wrong = None

abbrev over : List Slot → Frame
over s = record { method = 0; pc = 0; locals = []; stack = s }

abbrev after : StackOp → List Slot → Option (List Slot)
after o s = stack_of (rearranged o (over s))

abbrev converts : Conversion → List Slot → Option (List Slot)
converts c s = stack_of (converted c (over s))

low_bits : converts LongToInt (Second ∷ Long (pos (2 ^ 32 + 2 ^ 31)) ∷ []) ≡ Some (Int least ∷ [])
low_bits = refl

widens : converts IntToLong (Int (negsuc 4) ∷ []) ≡ Some (Second ∷ Long (negsuc 4) ∷ [])
widens = refl

bytes : converts IntToByte (Int (pos 255) ∷ []) ≡ Some (Int (negsuc 0) ∷ [])
bytes = refl

chars : converts IntToChar (Int (negsuc 0) ∷ []) ≡ Some (Int (pos 65535) ∷ [])
chars = refl

shorts : converts IntToShort (Int (pos 65535) ∷ []) ≡ Some (Int (negsuc 0) ∷ [])
shorts = refl

dup_x1 : after DupX1 (Int (pos 1) ∷ Ref 7 ∷ []) ≡ Some (Int (pos 1) ∷ Ref 7 ∷ Int (pos 1) ∷ [])
dup_x1 = refl

-- an int below a long, as an assignment to a long element leaves it
dup_x2 : after DupX2 (Int (pos 1) ∷ Second ∷ Long (pos 2) ∷ []) ≡ Some (Int (pos 1) ∷ Second ∷ Long (pos 2) ∷ Int (pos 1) ∷ [])
dup_x2 = refl

dup2 : after Dup2 (Second ∷ Long (pos 2) ∷ []) ≡ Some (Second ∷ Long (pos 2) ∷ Second ∷ Long (pos 2) ∷ [])
dup2 = refl

dup2_x1 : after Dup2X1 (Second ∷ Long (pos 2) ∷ Ref 7 ∷ []) ≡ Some (Second ∷ Long (pos 2) ∷ Ref 7 ∷ Second ∷ Long (pos 2) ∷ [])
dup2_x1 = refl

dup2_x2 : after Dup2X2 (Second ∷ Long (pos 2) ∷ Int (pos 3) ∷ Ref 7 ∷ []) ≡ Some (Second ∷ Long (pos 2) ∷ Int (pos 3) ∷ Ref 7 ∷ Second ∷ Long (pos 2) ∷ [])
dup2_x2 = refl

swap : after Swap (Int (pos 1) ∷ Ref 7 ∷ []) ≡ Some (Ref 7 ∷ Int (pos 1) ∷ [])
swap = refl

too_few : after Swap (Int (pos 1) ∷ []) ≡ None
too_few = refl
