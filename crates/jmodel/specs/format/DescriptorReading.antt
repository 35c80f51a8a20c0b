-- Reading descriptors of fields and methods from the front.
use Rattle.std.specs.Prelude.{ℕ, zero, suc, ◌+◌, ◌-◌, List, [], ◌∷◌, length, take, drop, Option, Some, None, Bool, false, ◌||◌, ◌==◌, nat_lt, if◌then◌else◌, is_some, option_map, option_and_then, position, Result, Ok, Err}
use Rattle.std.specs.List.{prefix_len}
use Rattle.jmodel.specs.declared.class_file.FieldType.{FieldType}
use Rattle.jmodel.specs.declared.class_file.FieldType.TheVariants.{Boolean, Byte, Char, Short, Int, Long, Float, Double, Reference}
use Rattle.jmodel.specs.declared.refusal.Refusal.{Refusal}
use Rattle.jmodel.specs.format.Descriptor.{is_array_name, places_of, Signature}

-- the type that a letter stands for
abbrev pub base : ℕ → Option FieldType
base c = if c == 66 then Some Byte else if c == 67 then Some Char else if c == 68 then Some Double else if c == 70 then Some Float
    else if c == 73 then Some Int else if c == 74 then Some Long else if c == 83 then Some Short else if c == 90 then Some Boolean else None

-- what follows a class's name and its semicolon, which is at n
abbrev pub class_end : List ℕ → Option ℕ → Option (List ℕ)
class_end bytes None = None
class_end bytes (Some n) = if (n == 0) || is_array_name bytes then None else Some (drop (n + 1) bytes)

abbrev pub class_rest : List ℕ → Option (List ℕ)
class_rest bytes = class_end bytes (position (λ c. c == 59) bytes)

-- what follows a type that is no array
unfoldable pub element_rest : List ℕ → Option (List ℕ)
element_rest [] = None
element_rest (c ∷ cs) = if is_some (base c) then Some cs else if c == 76 then class_rest cs else None

-- how many brackets stand at the front
abbrev pub brackets : List ℕ → ℕ
brackets bytes = prefix_len (λ c. c == 91) bytes

-- what follows a field descriptor
unfoldable pub type_rest : List ℕ → Option (List ℕ)
type_rest bytes = if nat_lt 255 (brackets bytes) then None else element_rest (drop (brackets bytes) bytes)

-- whether nothing is left
abbrev pub is_end : Option (List ℕ) → Bool
is_end None = false
is_end (Some rest) = length rest == 0

unfoldable pub is_field_descriptor : List ℕ → Bool
is_field_descriptor bytes = is_end (type_rest bytes)

-- the type of a whole descriptor: what is no letter is a class between L and a semicolon, or an array
abbrev pub letter_type : Option FieldType → List ℕ → List ℕ → FieldType
letter_type (Some t) cs text = t
letter_type None cs text = if is_array_name text then Reference text else Reference (take (length cs - 1) cs)

unfoldable pub type_of : List ℕ → FieldType
type_of [] = Reference []
type_of (c ∷ cs) = letter_type (base c) cs (c ∷ cs)

-- the part of the bytes before the rest
abbrev pub before : List ℕ → List ℕ → List ℕ
before bytes rest = take (length bytes - length rest) bytes

abbrev pub with_first : FieldType → Option (List FieldType × List ℕ) → Option (List FieldType × List ℕ)
with_first t others = option_map (λ p. (t ∷ p.0, p.1)) others

-- what follows a closing parenthesis, 41
abbrev pub closing : List ℕ → Option (List ℕ)
closing [] = None
closing (c ∷ cs) = if c == 41 then Some cs else None

abbrev pub closed_or : Option (List ℕ) → Option (List FieldType × List ℕ) → Option (List FieldType × List ℕ)
closed_or None others = others
closed_or (Some rest) others = Some ([], rest)

-- types up to a closing parenthesis, fewer than n
unfoldable pub types_at : ℕ → List ℕ → Option (List FieldType × List ℕ)
types_at zero bytes = None
types_at (suc n) bytes = closed_or (closing bytes) (option_and_then (λ rest. with_first (type_of (before bytes rest)) (types_at n rest)) (type_rest bytes))

-- how many places the types take, beside some before them, and what follows
abbrev pub with_places : ℕ → Option (List FieldType × List ℕ) → Option (ℕ × List ℕ)
with_places before None = None
with_places before (Some p) = Some (before + places_of p.0, p.1)

-- V, 86, or a type
unfoldable pub result_of : List ℕ → Option (Option FieldType)
result_of [] = None
result_of (c ∷ cs) = if c == 86 then (if length cs == 0 then Some None else None)
    else if is_field_descriptor (c ∷ cs) then Some (Some (type_of (c ∷ cs))) else None

abbrev pub signature_from : Option (List FieldType × List ℕ) → Option Signature
signature_from None = None
signature_from (Some p) = if nat_lt 255 (places_of p.0) then None else option_map (λ r. record { parameters = p.0; result = r }) (result_of p.1)

-- the signature of a whole descriptor
unfoldable pub signature_of : List ℕ → Option Signature
signature_of [] = None
signature_of (c ∷ cs) = if c == 40 then signature_from (types_at 256 cs) else None

abbrev pub is_method_descriptor : List ℕ → Bool
is_method_descriptor bytes = is_some (signature_of bytes)

-- the signature, or the refusal of a text that is none
abbrev pub signature_or : Refusal → Option Signature → Result Signature Refusal
signature_or r None = Err r
signature_or r (Some s) = Ok s
