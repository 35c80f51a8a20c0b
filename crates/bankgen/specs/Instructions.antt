-- Instructions as bytes, by the names of their opcodes (JVM Specification, Java SE 7, section 6.5). Indexes of the pool and offsets have two bytes; an offset
-- counts from the jump's own opcode.
use Rattle.std.specs.Prelude.{ℕ, ◌-◌, ◌^◌, List, [], ◌∷◌}
use Rattle.jmodel.specs.format.ClassFile.{u2}

-- ---- constants, locals and the stack

abbrev pub iconst_0 : List ℕ
iconst_0 = 3 ∷ []

abbrev pub iconst_1 : List ℕ
iconst_1 = 4 ∷ []

abbrev pub bipush : ℕ → List ℕ
bipush n = 16 ∷ n ∷ []

abbrev pub sipush : ℕ → List ℕ
sipush n = 17 ∷ u2 n

abbrev pub iload_0 : List ℕ
iload_0 = 26 ∷ []

abbrev pub iload_1 : List ℕ
iload_1 = 27 ∷ []

abbrev pub iload_2 : List ℕ
iload_2 = 28 ∷ []

abbrev pub aload_0 : List ℕ
aload_0 = 42 ∷ []

abbrev pub istore_0 : List ℕ
istore_0 = 59 ∷ []

abbrev pub istore_1 : List ℕ
istore_1 = 60 ∷ []

abbrev pub dup : List ℕ
dup = 89 ∷ []

abbrev pub iadd : List ℕ
iadd = 96 ∷ []

abbrev pub ineg : List ℕ
ineg = 116 ∷ []

-- iinc of a local by a number
abbrev pub iinc : ℕ → ℕ → List ℕ
iinc local n = 132 ∷ local ∷ n ∷ []

-- ---- jumps and returns

abbrev pub if_icmplt : ℕ → List ℕ
if_icmplt offset = 161 ∷ u2 offset

abbrev pub if_icmpge : ℕ → List ℕ
if_icmpge offset = 162 ∷ u2 offset

-- goto by an offset below 0
abbrev pub goto_back : ℕ → List ℕ
goto_back distance = 167 ∷ u2 (2 ^ 16 - distance)

abbrev pub ireturn : List ℕ
ireturn = 172 ∷ []

abbrev pub return : List ℕ
return = 177 ∷ []

-- ---- fields and methods

abbrev pub getstatic : ℕ → List ℕ
getstatic field = 178 ∷ u2 field

abbrev pub putstatic : ℕ → List ℕ
putstatic field = 179 ∷ u2 field

abbrev pub getfield : ℕ → List ℕ
getfield field = 180 ∷ u2 field

abbrev pub putfield : ℕ → List ℕ
putfield field = 181 ∷ u2 field

abbrev pub invokevirtual : ℕ → List ℕ
invokevirtual method = 182 ∷ u2 method

abbrev pub invokespecial : ℕ → List ℕ
invokespecial method = 183 ∷ u2 method

-- ---- objects and arrays

abbrev pub aaload : List ℕ
aaload = 50 ∷ []

abbrev pub aastore : List ℕ
aastore = 83 ∷ []

abbrev pub new : ℕ → List ℕ
new class = 187 ∷ u2 class

abbrev pub anewarray : ℕ → List ℕ
anewarray class = 189 ∷ u2 class

abbrev pub arraylength : List ℕ
arraylength = 190 ∷ []
