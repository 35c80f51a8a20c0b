-- The numbers that entries of a constant pool hold, and the constants of fields (JVM Specification, Java SE 7, sections
-- 4.4.4, 4.4.5 and 4.7.2).
use Rattle.std.specs.Prelude.{ℕ, ℤ, ◌+◌, ◌*◌, ◌%◌, ◌^◌, List, [], ◌∷◌, Option, Some, None, codes, find, option_and_then}
use Rattle.std.specs.Int.{w32, w64, cast_signed, cast_unsigned}
use Rattle.jmodel.specs.declared.class_file.Constant.{Constant}
use Rattle.jmodel.specs.declared.class_file.Constant.TheVariants as constants
use Rattle.jmodel.specs.format.ClassFile.{Attribute, Member, Pool}
use Rattle.jmodel.specs.format.Pool.{entry}
use Rattle.jmodel.specs.format.ClassRules.{is_named}

-- the number that two bytes make
abbrev pub pair_number : ℕ → ℕ → ℕ
pair_number a b = a * 256 + b

-- the int that has the last 32 bits of a number
abbrev pub as_int : ℤ → ℤ
as_int n = cast_signed w32 (cast_unsigned w64 n % 2 ^ 32)

-- the int of an Integer
abbrev pub integer_in : Constant → Option ℤ
integer_in (constants.Integer n) = Some (as_int n)
integer_in c = None

abbrev pub integer : Pool → ℕ → Option ℤ
integer pool i = option_and_then integer_in (entry pool i)

abbrev pub long_in : Constant → Option ℤ
long_in (constants.Long n) = Some n
long_in c = None

-- the entry that an attribute of two bytes names
abbrev pub named_entry : Pool → List ℕ → Option Constant
named_entry pool [] = None
named_entry pool (a ∷ []) = None
named_entry pool (a ∷ b ∷ []) = entry pool (pair_number a b)
named_entry pool (a ∷ b ∷ c ∷ bs) = None

-- the entry that the first ConstantValue of a field names
abbrev pub constant_of : Pool → Member → Option Constant
constant_of pool m = option_and_then (λ (a : Attribute). named_entry pool a.bytes) (find (is_named pool (codes "ConstantValue")) m.attributes)

-- the constant of a long field
abbrev pub long_value : Pool → Member → Option ℤ
long_value pool m = option_and_then long_in (constant_of pool m)

-- the constant of an int field
abbrev pub int_value : Pool → Member → Option ℤ
int_value pool m = option_and_then integer_in (constant_of pool m)
