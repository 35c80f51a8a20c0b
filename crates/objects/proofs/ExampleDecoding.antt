-- What opcodes mean, computed by the table of the JVM Specification, Java SE 7, chapter 6.
use Rattle.std.proofs.Common.{◌≡◌, ℕ, List, [], ◌∷◌, ◌++◌, Option, Some, None, refl}
use Rattle.std.specs.Prelude.{pos, negsuc, codes, true, false, map}
use Rattle.jmodel.specs.declared.value.Value.TheVariants.{Int, Long, Ref}
use Rattle.jmodel.specs.declared.class_file.Constant.TheVariants.{Utf8, Class, Text, Integer, Float, NameAndType}
use Rattle.jmodel.specs.declared.class_file.Constant.TheVariants as constants
use Rattle.jmodel.specs.declared.instruction.Operands.{Operands}
use Rattle.jmodel.specs.declared.instruction.Operands.TheVariants as operands
use Rattle.jmodel.specs.declared.instruction.Instr.{Instr}
use Rattle.jmodel.specs.format.ClassFile.{Pool, ClassFile}
use Rattle.jmodel.specs.format.DescriptorReading.{element_rest, type_rest, type_of, types_at, result_of, signature_of, is_field_descriptor}
use Rattle.objects.specs.declared.op.Sort.TheVariants as sort
use Rattle.objects.specs.declared.op.Width.TheVariants as width
use Rattle.objects.specs.declared.op.WordType.TheVariants as word
use Rattle.objects.specs.declared.op.Op.{Op}
use Rattle.objects.specs.declared.op.Op.TheVariants as op
use Rattle.objects.specs.declared.op.Binary.TheVariants.{Add, Subtract, Multiply, And, Xor, Maximum}
use Rattle.objects.specs.declared.op.Shift.TheVariants.{Left, UnsignedRight}
use Rattle.objects.specs.declared.op.Division.TheVariants.{Quotient, Remainder}
use Rattle.objects.specs.declared.op.Unary.TheVariants.{Negate}
use Rattle.objects.specs.declared.op.Conversion.TheVariants.{IntToByte, IntToShort, IntToLong, LongToInt}
use Rattle.objects.specs.declared.op.Test.TheVariants.{Equal, LessOrEqual, GreaterOrEqual}
use Rattle.objects.specs.declared.op.StackOp.TheVariants.{Nop, Swap, Dup2X2}
use Rattle.objects.specs.declared.op.Catches.TheVariants.{Conflict, Any, Of}
use Rattle.objects.specs.linking.LibraryClasses.{library_rows}
use Rattle.objects.specs.linking.Layout.{array_row, class_row, fields_of, primitive_arrays}
use Rattle.objects.specs.linking.Decoding.{Symbols, meaning, catch_of}

-- ---- opcodes without operands

abbrev pool : Pool
pool =
    Class 2 ∷ Utf8 (codes "A") ∷ Class 4 ∷ Utf8 (codes "java/lang/Object") ∷ Utf8 (codes "s") ∷ Utf8 (codes "I") ∷ Utf8 (codes "x") ∷ Utf8 (codes "J")
    ∷ Integer (negsuc 4) ∷ constants.Long (pos 9) ∷ constants.Second ∷ Text 13 ∷ Utf8 (codes "t") ∷ Float 0
    ∷ constants.Field 1 16 ∷ NameAndType 5 6 ∷ constants.Field 1 18 ∷ NameAndType 7 8
    ∷ Class 20 ∷ Utf8 (codes "java/lang/Math") ∷ constants.Method 19 22 ∷ NameAndType 23 24 ∷ Utf8 (codes "max") ∷ Utf8 (codes "(JJ)J")
    ∷ Class 26 ∷ Utf8 (codes "java/lang/Error") ∷ constants.Method 25 28 ∷ NameAndType 29 30 ∷ Utf8 (codes "<init>") ∷ Utf8 (codes "(Ljava/lang/String;)V")
    ∷ Class 32 ∷ Utf8 (codes "org/deuce/transaction/TransactionException") ∷ []

-- class A { static int s; long x; }
abbrev class_a : ClassFile
class_a = record {
  minor = 0;
  major = 49;
  pool = pool;
  flags = 0x21;
  this_class = 1;
  super_class = 3;
  interfaces = [];
  fields = record { flags = 8; name = 5; descriptor = 6; attributes = [] } ∷ record { flags = 0; name = 7; descriptor = 8; attributes = [] } ∷ [];
  methods = [];
  attributes = [];
}

abbrev folder : List ClassFile
folder = class_a ∷ []

abbrev symbols : Symbols
symbols = record {
  class = class_a;
  classes = folder;
  types = library_rows ++ class_row folder class_a ∷ map (array_row folder) primitive_arrays ++ array_row folder (codes "[LA;") ∷ [];
  texts = codes "s" ∷ codes "t" ∷ [];
  fields = fields_of folder;
  methods = [];
  base = 2;
}

-- instructions at 0, 3 and 8
abbrev instrs : List Instr
instrs = record { pc = 0; op = 0; operands = operands.Nothing } ∷ record { pc = 3; op = 0; operands = operands.Nothing } ∷ record { pc = 8; op = 177; operands = operands.Nothing } ∷ []

abbrev means : ℕ → Operands → Option Op
means c o = meaning symbols instrs c o

abbrev alone : List ℕ → List (Option Op)
alone cs = map (λ c. means c operands.Nothing) cs

constants_mean : alone (0 ∷ 1 ∷ 2 ∷ 8 ∷ 9 ∷ 10 ∷ 11 ∷ 15 ∷ [])
    ≡ Some (op.Stack Nop) ∷ Some (op.Constant (Ref 0)) ∷ Some (op.Constant (Int (negsuc 0))) ∷ Some (op.Constant (Int (pos 5))) ∷ Some (op.Constant (Long (pos 0)))
    ∷ Some (op.Constant (Long (pos 1))) ∷ None ∷ None ∷ []
constants_mean = refl

locals_mean : alone (26 ∷ 29 ∷ 30 ∷ 33 ∷ 34 ∷ 41 ∷ 42 ∷ 45 ∷ 59 ∷ 63 ∷ 66 ∷ 67 ∷ 78 ∷ [])
    ≡ Some (op.Load sort.Int 0) ∷ Some (op.Load sort.Int 3) ∷ Some (op.Load sort.Long 0) ∷ Some (op.Load sort.Long 3) ∷ None ∷ None ∷ Some (op.Load sort.Reference 0)
    ∷ Some (op.Load sort.Reference 3) ∷ Some (op.Store sort.Int 0) ∷ Some (op.Store sort.Long 0) ∷ Some (op.Store sort.Long 3) ∷ None ∷ Some (op.Store sort.Reference 3) ∷ []
locals_mean = refl

elements_mean : alone (46 ∷ 47 ∷ 48 ∷ 49 ∷ 50 ∷ 51 ∷ 52 ∷ 53 ∷ [])
    ≡ Some (op.LoadElement word.Int) ∷ Some (op.LoadElement word.Long) ∷ None ∷ None ∷ Some (op.LoadElement word.Reference) ∷ Some (op.LoadElement word.Byte)
    ∷ Some (op.LoadElement word.Char) ∷ Some (op.LoadElement word.Short) ∷ []
elements_mean = refl

stores_mean : alone (79 ∷ 80 ∷ 81 ∷ 82 ∷ 83 ∷ 84 ∷ 85 ∷ 86 ∷ [])
    ≡ Some (op.StoreElement word.Int) ∷ Some (op.StoreElement word.Long) ∷ None ∷ None ∷ Some (op.StoreElement word.Reference) ∷ Some (op.StoreElement word.Byte)
    ∷ Some (op.StoreElement word.Char) ∷ Some (op.StoreElement word.Short) ∷ []
stores_mean = refl

arithmetic_means : alone (94 ∷ 95 ∷ 96 ∷ 97 ∷ 98 ∷ 99 ∷ 101 ∷ 104 ∷ 108 ∷ 113 ∷ 117 ∷ 120 ∷ 125 ∷ 127 ∷ 130 ∷ 131 ∷ [])
    ≡ Some (op.Stack Dup2X2) ∷ Some (op.Stack Swap) ∷ Some (op.Binary width.Int Add) ∷ Some (op.Binary width.Long Add) ∷ None ∷ None ∷ Some (op.Binary width.Long Subtract)
    ∷ Some (op.Binary width.Int Multiply) ∷ Some (op.Divide width.Int Quotient) ∷ Some (op.Divide width.Long Remainder) ∷ Some (op.Unary width.Long Negate)
    ∷ Some (op.Shift width.Int Left) ∷ Some (op.Shift width.Long UnsignedRight) ∷ Some (op.Binary width.Long And) ∷ Some (op.Binary width.Int Xor) ∷ Some (op.Binary width.Long Xor) ∷ []
arithmetic_means = refl

others_mean : alone (133 ∷ 134 ∷ 136 ∷ 145 ∷ 147 ∷ 148 ∷ 149 ∷ 172 ∷ 173 ∷ 174 ∷ 176 ∷ 177 ∷ 190 ∷ 191 ∷ 194 ∷ [])
    ≡ Some (op.Convert IntToLong) ∷ None ∷ Some (op.Convert LongToInt) ∷ Some (op.Convert IntToByte) ∷ Some (op.Convert IntToShort) ∷ Some op.CompareLongs ∷ None
    ∷ Some (op.ReturnValue sort.Int) ∷ Some (op.ReturnValue sort.Long) ∷ None ∷ Some (op.ReturnValue sort.Reference) ∷ Some op.Return ∷ Some op.ArrayLength ∷ Some op.Throw ∷ None ∷ []
others_mean = refl

-- ---- operands

pushes : means 17 (operands.Number (negsuc 299)) ≡ Some (op.Constant (Int (negsuc 299)))
pushes = refl

new_booleans : means 188 (operands.Number (pos 4)) ≡ Some (op.NewArray 27)
unfolding type_of
new_booleans = refl

new_longs : means 188 (operands.Number (pos 11)) ≡ Some (op.NewArray 25)
unfolding type_of
new_longs = refl

new_doubles : means 188 (operands.Number (pos 7)) ≡ None
new_doubles = refl

wide_store : means 196 (operands.Wide 55 300 (pos 0)) ≡ Some (op.Store sort.Long 300)
wide_store = refl

wide_increment : means 196 (operands.Wide 132 300 (negsuc 0)) ≡ Some (op.Increment 300 (negsuc 0))
wide_increment = refl

-- a jump goes to the number of the instruction
jumps : map (λ c. means c (operands.Target 8)) (153 ∷ 158 ∷ 162 ∷ 165 ∷ 166 ∷ 167 ∷ 168 ∷ 198 ∷ 199 ∷ 200 ∷ [])
    ≡ Some (op.Branch Equal 2) ∷ Some (op.Branch LessOrEqual 2) ∷ Some (op.BranchInts GreaterOrEqual 2) ∷ Some (op.BranchReferences true 2) ∷ Some (op.BranchReferences false 2)
    ∷ Some (op.Goto 2) ∷ None ∷ Some (op.BranchNull true 2) ∷ Some (op.BranchNull false 2) ∷ Some (op.Goto 2) ∷ []
jumps = refl

switches : means 170 (operands.Table 8 (negsuc 0) (0 ∷ 3 ∷ [])) ≡ Some (op.Switch 2 ((negsuc 0, 0) ∷ (pos 0, 1) ∷ []))
switches = refl

switches_by_keys : means 171 (operands.Lookup 3 ((pos 7, 8) ∷ [])) ≡ Some (op.Switch 1 ((pos 7, 2) ∷ []))
switches_by_keys = refl

-- ---- the pool

loads_constants : map (λ i. means 18 (operands.Pool i)) (9 ∷ 10 ∷ 12 ∷ 14 ∷ 1 ∷ []) ≡ Some (op.Constant (Int (negsuc 4))) ∷ Some (op.Constant (Long (pos 9))) ∷ Some (op.Text 1) ∷ None ∷ None ∷ []
loads_constants = refl

fields_mean : means 178 (operands.Pool 15) ∷ means 179 (operands.Pool 15) ∷ means 180 (operands.Pool 17) ∷ means 181 (operands.Pool 17) ∷ []
    ≡ Some (op.GetStatic 0) ∷ Some (op.PutStatic 0) ∷ Some (op.GetField 1 (codes "A")) ∷ Some (op.PutField 1 (codes "A")) ∷ []
unfolding type_of
fields_mean = refl

calls_of_library : means 184 (operands.Pool 21) ∷ means 183 (operands.Pool 27) ∷ [] ≡ Some (op.Binary width.Long Maximum) ∷ Some (op.InitLibrary (codes "java/lang/Error") 1) ∷ []
unfolding element_rest type_rest type_of types_at result_of signature_of is_field_descriptor
calls_of_library = refl

classes_mean : means 187 (operands.Pool 1) ∷ means 189 (operands.Pool 1) ∷ means 192 (operands.Pool 1) ∷ means 193 (operands.Pool 3) ∷ []
    ≡ Some (op.New 21) ∷ Some (op.NewArray 28) ∷ Some (op.CheckCast (codes "A")) ∷ Some (op.InstanceOf (codes "java/lang/Object")) ∷ []
unfolding type_of
classes_mean = refl

-- ---- exception entries

caught : map (λ class. catch_of pool instrs 9 (record { start = 0; end = 9; handler = 3; catch_type = class })) (0 ∷ 1 ∷ 31 ∷ [])
    ≡ Some (record { from = 0; to = 3; at = 1; catches = Any }) ∷ Some (record { from = 0; to = 3; at = 1; catches = Of (codes "A") })
    ∷ Some (record { from = 0; to = 3; at = 1; catches = Conflict }) ∷ []
caught = refl
