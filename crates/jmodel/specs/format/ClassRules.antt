-- The rules that a class file keeps (JVM Specification, Java SE 7, sections 4.1 to 4.7).
use Rattle.std.specs.Prelude.{◌≡◌, ℕ, ◌<◌, ◌≤◌, ◌^◌, ◌⊎◌, List, [], ◌∷◌, length, Option, Some, None, Bool, true, false, not, ◌==◌, IsSome, IsSomeAnd, AllPairs, FitsSigned, filter, codes, bit_and}
use Rattle.std.specs.List.{AllByRecursion}
use Rattle.std.specs.Str.{bytes_eq}
use Rattle.std.specs.Int.{w32, w64}
use Rattle.jmodel.specs.declared.class_file.Constant.{Constant}
use Rattle.jmodel.specs.declared.class_file.Constant.TheVariants.{Utf8, Integer, Float, Long, Double, Class, Text, Field, Method, InterfaceMethod, NameAndType, Second}
use Rattle.jmodel.specs.declared.class_file.Handler.{Handler}
use Rattle.jmodel.specs.format.ClassFile.{Attribute, Member, Pool, ClassFile, Code, spelling, code_spelling}
use Rattle.jmodel.specs.format.Pool.{utf8, class_name, pair}
use Rattle.jmodel.specs.format.Descriptor.{is_array_name, IsClassName, IsArrayName, IsFieldDescriptor, IsMethodDescriptor}

abbrev pub IsTwoBytes : ℕ → Type 0
IsTwoBytes n = n < 2 ^ 16

-- no byte of a text is 0 or above 239
abbrev pub IsTextByte : ℕ → Type 0
IsTextByte b = (0 < b) × (b < 240)

-- the name of a Class: one that begins as an array's is an array's
abbrev pub IsNameOf : Bool → List ℕ → Type 0
IsNameOf true name = IsArrayName name
IsNameOf false name = Unit {0}

abbrev pub IsFieldPair : List ℕ × List ℕ → Type 0
IsFieldPair p = IsFieldDescriptor p.1

abbrev pub IsMethodPair : List ℕ × List ℕ → Type 0
IsMethodPair p = IsMethodDescriptor p.1

abbrev pub IsPair : List ℕ × List ℕ → Type 0
IsPair p = IsFieldDescriptor p.1 ⊎ IsMethodDescriptor p.1

-- an entry keeps its own limits, and what it names is there and of the right kind
abbrev pub IsConstant : Pool → Constant → Type 0
IsConstant pool (Utf8 bytes) = (length bytes < 2 ^ 16) × AllByRecursion IsTextByte bytes
IsConstant pool (Integer n) = FitsSigned w32 n
IsConstant pool (Float bits) = bits < 2 ^ 32
IsConstant pool (Long n) = FitsSigned w64 n
IsConstant pool (Double bits) = bits < 2 ^ 64
IsConstant pool (Class name) = IsTwoBytes name × IsSomeAnd (utf8 pool name) (λ n. IsNameOf (is_array_name n) n)
IsConstant pool (Text text) = IsTwoBytes text × IsSome (utf8 pool text)
IsConstant pool (Field class p) = IsTwoBytes class × IsTwoBytes p × IsSome (class_name pool class) × IsSomeAnd (pair pool p) IsFieldPair
IsConstant pool (Method class p) = IsTwoBytes class × IsTwoBytes p × IsSome (class_name pool class) × IsSomeAnd (pair pool p) IsMethodPair
IsConstant pool (InterfaceMethod class p) = IsTwoBytes class × IsTwoBytes p × IsSome (class_name pool class) × IsSomeAnd (pair pool p) IsMethodPair
IsConstant pool (NameAndType name descriptor) = IsTwoBytes name × IsTwoBytes descriptor × IsSome (utf8 pool name) × IsSomeAnd (utf8 pool descriptor) (λ d. IsFieldDescriptor d ⊎ IsMethodDescriptor d)
IsConstant pool Second = Unit {0}

-- an entry that takes two indexes
abbrev pub is_wide : Constant → Bool
is_wide (Long n) = true
is_wide (Double bits) = true
is_wide c = false

abbrev pub is_second : Constant → Bool
is_second Second = true
is_second c = false

-- A second place stands behind each Long and Double and nowhere else; the flag says whether one is due.
abbrev pub ArePlaced : Bool → Pool → Type 0
ArePlaced due [] = due ≡ false
ArePlaced due (c ∷ cs) = (is_second c ≡ due) × ArePlaced (is_wide c) cs

-- what every pool keeps; its count field has two bytes
pub record IsPool (pool : Pool) : Type 0 where
  pub few : length pool < 65535
  pub placed : ArePlaced false pool
  pub entries : AllByRecursion (IsConstant pool) pool

pub record IsAttribute (pool : Pool) (a : Attribute) : Type 0 where
  pub name : IsTwoBytes a.name
  pub named : IsSome (utf8 pool a.name)
  pub short : length a.bytes < 2 ^ 32

pub record AreAttributes (pool : Pool) (xs : List Attribute) : Type 0 where
  pub few : length xs < 2 ^ 16
  pub each : AllByRecursion (IsAttribute pool) xs

-- a range that isn't empty and lies in the code, a place of it, and a class or 0
pub record IsHandler (pool : Pool) (len : ℕ) (h : Handler) : Type 0 where
  pub some : h.start < h.end
  pub inside : h.end ≤ len
  pub target : h.handler < len
  pub catches : (h.catch_type ≡ 0) ⊎ IsSome (class_name pool h.catch_type)
  pub class : IsTwoBytes h.catch_type

pub record IsCode (pool : Pool) (k : Code) : Type 0 where
  pub stack : IsTwoBytes k.max_stack
  pub locals : IsTwoBytes k.max_locals
  pub some : 0 < length k.code
  pub short : length k.code ≤ 65535
  pub few : length k.handlers < 2 ^ 16
  pub handlers : AllByRecursion (IsHandler pool (length k.code)) k.handlers
  pub attributes : AreAttributes pool k.attributes

-- the bytes of a Code attribute spell this
pub record SpellsCode (pool : Pool) (bytes : List ℕ) (k : Code) : Type 0 where
  pub code : IsCode pool k
  pub is : bytes ≡ code_spelling k

abbrev pub same_text : Option (List ℕ) → List ℕ → Bool
same_text None name = false
same_text (Some n) name = bytes_eq n name

abbrev pub is_named : Pool → List ℕ → Attribute → Bool
is_named pool name a = same_text (utf8 pool a.name) name

-- the attributes of a member that have this name
abbrev pub named_attributes : Pool → List ℕ → List Attribute → List Attribute
named_attributes pool name xs = filter (is_named pool name) xs

-- a native or an abstract method, by the flags 0100 and 0400
abbrev pub has_no_code : ℕ → Bool
has_no_code flags = not (bit_and flags 0x500 == 0)

-- Code attributes: none where the method is native or abstract, else one that is in its form
abbrev pub AreCodes : Pool → Bool → List Attribute → Type 0
AreCodes pool true xs = xs ≡ []
AreCodes pool false xs = (a : Attribute) × (k : Code) × (xs ≡ a ∷ []) × SpellsCode pool a.bytes k

pub record IsMember (pool : Pool) (Fits : List ℕ → Type 0) (m : Member) : Type 0 where
  pub flags : IsTwoBytes m.flags
  pub name : IsTwoBytes m.name
  pub descriptor : IsTwoBytes m.descriptor
  pub named : IsSome (utf8 pool m.name)
  pub typed : IsSomeAnd (utf8 pool m.descriptor) Fits
  pub attributes : AreAttributes pool m.attributes

abbrev pub IsField : Pool → Member → Type 0
IsField pool m = IsMember pool IsFieldDescriptor m

pub record IsMethod (pool : Pool) (m : Member) : Type 0 where
  pub member : IsMember pool IsMethodDescriptor m
  pub codes_fit : AreCodes pool (has_no_code m.flags) (named_attributes pool (codes "Code") m.attributes)

abbrev pub IsSameMember : Pool → Member → Member → Type 0
IsSameMember pool a b = (utf8 pool a.name ≡ utf8 pool b.name) × (utf8 pool a.descriptor ≡ utf8 pool b.descriptor)

-- no two members have one name and one descriptor
abbrev pub AreDistinct : Pool → List Member → Type 0
AreDistinct pool ms = AllPairs (λ a b. ¬ IsSameMember pool a b) ms

pub record IsClassFile (c : ClassFile) : Type 0 where
  pub minor : IsTwoBytes c.minor
  pub major : c.major ≡ 49
  pub pool : IsPool c.pool
  pub flags : IsTwoBytes c.flags
  pub this_class : IsTwoBytes c.this_class
  pub this_name : IsSomeAnd (class_name c.pool c.this_class) IsClassName
  pub super_class : IsTwoBytes c.super_class
  pub super_name : IsSome (class_name c.pool c.super_class)
  pub few_interfaces : length c.interfaces < 2 ^ 16
  pub interfaces : AllByRecursion (λ i. IsTwoBytes i × IsSome (class_name c.pool i)) c.interfaces
  pub few_fields : length c.fields < 2 ^ 16
  pub fields : AllByRecursion (IsField c.pool) c.fields
  pub few_methods : length c.methods < 2 ^ 16
  pub methods : AllByRecursion (IsMethod c.pool) c.methods
  pub attributes : AreAttributes c.pool c.attributes
  pub distinct_fields : AreDistinct c.pool c.fields
  pub distinct_methods : AreDistinct c.pool c.methods

-- the bytes are the spelling of this class, which keeps the rules
pub record Spells (bytes : List ℕ) (c : ClassFile) : Type 0 where
  pub class : IsClassFile c
  pub is : bytes ≡ spelling c
