-- Descriptors of fields and methods (JVM Specification, Java SE 7, section 4.3).
use Rattle.std.specs.Prelude.{◌≡◌, ℕ, ◌+◌, ◌<◌, ◌≤◌, List, [], ◌∷◌, ◌++◌, Option, Some, None, Bool, true, false, ◌==◌, if◌then◌else◌, codes, replicate, ◌≢◌, IfSome}
use Rattle.std.specs.List.{flat_map, AllByRecursion}
use Rattle.jmodel.specs.declared.class_file.FieldType.{FieldType}
use Rattle.jmodel.specs.declared.class_file.FieldType.TheVariants.{Boolean, Byte, Char, Short, Int, Long, Float, Double, Reference}

-- the name of an array class begins with a bracket, 91
abbrev pub is_array_name : List ℕ → Bool
is_array_name [] = false
is_array_name (c ∷ cs) = c == 91

-- the descriptor of a field type: a class's name stands between L and a semicolon
abbrev pub field_descriptor : FieldType → List ℕ
field_descriptor Boolean = codes "Z"
field_descriptor Byte = codes "B"
field_descriptor Char = codes "C"
field_descriptor Short = codes "S"
field_descriptor Int = codes "I"
field_descriptor Long = codes "J"
field_descriptor Float = codes "F"
field_descriptor Double = codes "D"
field_descriptor (Reference name) = if is_array_name name then name else codes "L" ++ name ++ codes ";"

-- a class's name in a descriptor isn't empty, has no semicolon, 59, and is no array's
pub record IsClassName (name : List ℕ) : Type 0 where
  pub is_there : name ≢ []
  pub no_end : AllByRecursion (λ c. c ≢ 59) name
  pub no_array : is_array_name name ≡ false

-- a type that is no array
abbrev pub IsElement : FieldType → Type 0
IsElement (Reference name) = IsClassName name
IsElement t = Unit {0}

-- up to 255 brackets before the descriptor of a type that is no array
pub record IsArrayName (name : List ℕ) : Type 0 where
  pub dimensions : ℕ
  pub element : FieldType
  pub some : 0 < dimensions
  pub few : dimensions ≤ 255
  pub is_element : IsElement element
  pub is : name ≡ replicate dimensions 91 ++ field_descriptor element

abbrev pub IsReferenceName : Bool → List ℕ → Type 0
IsReferenceName true name = IsArrayName name
IsReferenceName false name = IsClassName name

abbrev pub IsFieldType : FieldType → Type 0
IsFieldType (Reference name) = IsReferenceName (is_array_name name) name
IsFieldType t = Unit {0}

-- how many places a value of the type takes
abbrev pub places : FieldType → ℕ
places Long = 2
places Double = 2
places t = 1

abbrev pub places_of : List FieldType → ℕ
places_of [] = 0
places_of (t ∷ ts) = places t + places_of ts

-- what a method takes, and gives where it gives something
pub record Signature : Type 0 where
  pub parameters : List FieldType
  pub result : Option FieldType

-- V stands for no result
abbrev pub result_descriptor : Option FieldType → List ℕ
result_descriptor None = codes "V"
result_descriptor (Some t) = field_descriptor t

abbrev pub method_descriptor : Signature → List ℕ
method_descriptor s = codes "(" ++ flat_map field_descriptor s.parameters ++ codes ")" ++ result_descriptor s.result

pub record IsSignature (s : Signature) : Type 0 where
  pub parameters : AllByRecursion IsFieldType s.parameters
  pub result : IfSome s.result IsFieldType
  pub few : places_of s.parameters ≤ 255

-- the bytes are the descriptor of this type
pub record DescribesField (bytes : List ℕ) (t : FieldType) : Type 0 where
  pub type : IsFieldType t
  pub is : bytes ≡ field_descriptor t

-- the bytes are the descriptor of this signature
pub record DescribesMethod (bytes : List ℕ) (s : Signature) : Type 0 where
  pub signature : IsSignature s
  pub is : bytes ≡ method_descriptor s

abbrev pub IsFieldDescriptor : List ℕ → Type 0
IsFieldDescriptor bytes = (t : FieldType) × DescribesField bytes t

abbrev pub IsMethodDescriptor : List ℕ → Type 0
IsMethodDescriptor bytes = (s : Signature) × DescribesMethod bytes s
