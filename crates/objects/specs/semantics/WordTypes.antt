-- The types of words of memory: their descriptors, and the numbers that they have (JVM Specification, Java SE 7, sections 2.3 and 4.3.2).
-- That a field or an element of one of the four narrow types keeps the low bits of what is stored in it is this project's own rule.
use Rattle.std.specs.Prelude.{◌<◌, ◌%◌, ◌^◌, ℕ, ℤ, pos, negsuc, List, FitsSigned, codes}
use Rattle.std.specs.Int.{w8, w16, w32, w64, cast_signed, cast_unsigned}
use Rattle.objects.specs.declared.op.WordType.{WordType}
use Rattle.objects.specs.declared.op.WordType.TheVariants as word

-- the descriptor of a type; of a reference that of Object
abbrev pub type_descriptor : WordType → List ℕ
type_descriptor word.Boolean = codes "Z"
type_descriptor word.Byte = codes "B"
type_descriptor word.Char = codes "C"
type_descriptor word.Short = codes "S"
type_descriptor word.Int = codes "I"
type_descriptor word.Long = codes "J"
type_descriptor word.Reference = codes "Ljava/lang/Object;"

abbrev pub IsBelow : ℕ → ℤ → Type 0
IsBelow limit (pos n) = n < limit
IsBelow limit (negsuc n) = ⊥

-- the numbers of a type: those of a byte, a short, an int and a long have a sign
abbrev pub IsNumberOf : WordType → ℤ → Type 0
IsNumberOf word.Boolean x = IsBelow 2 x
IsNumberOf word.Byte x = FitsSigned w8 x
IsNumberOf word.Char x = IsBelow (2 ^ 16) x
IsNumberOf word.Short x = FitsSigned w16 x
IsNumberOf word.Int x = FitsSigned w32 x
IsNumberOf word.Long x = FitsSigned w64 x
IsNumberOf word.Reference x = ⊥

-- what a word of the type keeps of an int: its low 1, 8 or 16 bits, with their sign where the type has one
abbrev pub narrowed : WordType → ℤ → ℤ
narrowed word.Boolean x = pos (cast_unsigned w32 x % 2)
narrowed word.Byte x = cast_signed w8 (cast_unsigned w32 x % 2 ^ 8)
narrowed word.Char x = pos (cast_unsigned w32 x % 2 ^ 16)
narrowed word.Short x = cast_signed w16 (cast_unsigned w32 x % 2 ^ 16)
narrowed t x = x
