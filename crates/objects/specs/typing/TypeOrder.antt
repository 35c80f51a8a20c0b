-- Types of the places of a frame, and which are wider (JVM Specification, Java SE 7, section 4.10.1.2). An interface reads as Object.
use Rattle.std.specs.Prelude.{◌≡◌, ℕ, List, [], ◌∷◌, ◌++◌, Option, Some, None, Bool, true, false, ◌&&◌, ◌==◌, nat_eq, not, bytes_eq, codes, find, drop, reverse, if◌then◌else◌}
use Rattle.std.specs.List.{list_any}
use Rattle.jmodel.specs.declared.typing.VType.{VType}
use Rattle.jmodel.specs.declared.typing.VType.TheVariants.{Int, Long, Second, Null, Ref, Uninit, UninitThis, Top}
use Rattle.objects.specs.declared.op.WordType.{WordType}
use Rattle.objects.specs.declared.op.WordType.TheVariants as word
use Rattle.objects.specs.semantics.Program.{Declared, Row, Program}

abbrev pub object_class : List ℕ
object_class = codes "java/lang/Object"

abbrev pub throwable_class : List ℕ
throwable_class = codes "java/lang/Throwable"

abbrev pub string_class : List ℕ
string_class = codes "java/lang/String"

-- the classes of a transaction's context, and of its conflict
abbrev pub context_class : List ℕ
context_class = codes "org/deuce/transaction/Context"

abbrev pub conflict_class : List ℕ
conflict_class = codes "org/deuce/transaction/TransactionException"

-- the conflict of a transaction, and the classes above it, the nearest first
abbrev pub conflict_classes : List (List ℕ)
conflict_classes = conflict_class ∷ codes "java/lang/RuntimeException" ∷ codes "java/lang/Exception" ∷ throwable_class ∷ object_class ∷ []

-- those of the names from a class on; a class that isn't among them stands right under Object
abbrev pub from_class : List ℕ → List (List ℕ) → List (List ℕ)
from_class n [] = n ∷ object_class ∷ []
from_class n (c ∷ cs) = if bytes_eq n c then c ∷ cs else from_class n cs

abbrev pub above_in : Option Row → List ℕ → List (List ℕ)
above_in (Some r) n = r.lineage
above_in None n = from_class n conflict_classes

-- a class and those above it, the nearest first: one of the program, or else one of the transaction
abbrev pub classes_from : Program → List ℕ → List (List ℕ)
classes_from P n = above_in (find (λ (r : Row). bytes_eq r.name n) P.types) n

-- an array's descriptor begins with a bracket, 91
abbrev pub is_array : List ℕ → Bool
is_array [] = false
is_array (c ∷ cs) = c == 91

-- a class's name isn't empty, and isn't an array's
abbrev pub is_class_name : List ℕ → Bool
is_class_name [] = false
is_class_name (c ∷ cs) = not (c == 91)

-- the name in a descriptor between L, 76, and a semicolon, 59
abbrev pub without_last : List ℕ → List ℕ
without_last [] = []
without_last (c ∷ []) = []
without_last (c ∷ d ∷ cs) = c ∷ without_last (d ∷ cs)

-- a class's name, or an array's descriptor, of the element that a descriptor says
abbrev pub named_by : List ℕ → List ℕ
named_by [] = []
named_by (c ∷ cs) = if c == 76 then without_last cs else c ∷ cs

-- the class of the elements of an array of references
abbrev pub element_class : List ℕ → List ℕ
element_class a = named_by (drop 1 a)

abbrev pub descriptor_of : List ℕ → List ℕ
descriptor_of n = if is_array n then n else codes "L" ++ n ++ codes ";"

abbrev pub is_class_above : Program → List ℕ → List ℕ → Bool
is_class_above P m n = list_any (bytes_eq n) (classes_from P m)

-- whether a descriptor ends with its semicolon
abbrev pub is_ended : List ℕ → Bool
is_ended n = bytes_eq n (without_last n ++ codes ";")

-- Whether the elements of one descriptor may be those of another: arrays fall together, a class is below those above it, and primitive types are the same.
abbrev pub is_element_within : Program → List ℕ → List ℕ → Bool
is_element_within P [] n = false
is_element_within P (c ∷ m) [] = false
is_element_within P (c ∷ m) (d ∷ n) =
    if c == 91 then (if d == 91 then is_element_within P m n else (d == 76) && bytes_eq n (object_class ++ codes ";"))
    else (if c == 76 then (d == 76) && (is_ended n && is_class_above P (without_last m) (without_last n)) else bytes_eq (c ∷ m) (d ∷ n))

abbrev pub is_array_within : Program → List ℕ → List ℕ → Bool
is_array_within P m n = if is_array n then is_element_within P (drop 1 m) (drop 1 n) else bytes_eq n object_class

-- whether a class or an array is at most another
abbrev pub is_reference_within : Program → List ℕ → List ℕ → Bool
is_reference_within P m n = if is_array m then is_array_within P m n else is_class_above P m n

-- Whether the second type is at least as wide as the first. Null is below each class; int, long and what isn't built are below top alone.
abbrev pub is_within : Program → VType → VType → Bool
is_within P t Top = true
is_within P Int Int = true
is_within P Long Long = true
is_within P Second Second = true
is_within P Null Null = true
is_within P Null (Ref n) = true
is_within P (Ref m) (Ref n) = is_reference_within P m n
is_within P (Uninit p) (Uninit q) = nat_eq p q
is_within P UninitThis UninitThis = true
is_within P t u = false

abbrev pub IsWithin : Program → VType → VType → Type 0
IsWithin P t u = is_within P t u ≡ true

-- so at each place of two lists of one length
abbrev pub AreWithin : Program → List VType → List VType → Type 0
AreWithin P [] [] = Unit {0}
AreWithin P (t ∷ ts) (u ∷ us) = IsWithin P t u × AreWithin P ts us
AreWithin P ts us = ⊥

-- types of locals, of which the first place of a long was just before, or not
abbrev pub IsLocalsAfter : Bool → List VType → Type 0
IsLocalsAfter false [] = Unit {0}
IsLocalsAfter false (Int ∷ s) = IsLocalsAfter false s
IsLocalsAfter false (Null ∷ s) = IsLocalsAfter false s
IsLocalsAfter false (Ref n ∷ s) = IsLocalsAfter false s
IsLocalsAfter false (Uninit p ∷ s) = IsLocalsAfter false s
IsLocalsAfter false (UninitThis ∷ s) = IsLocalsAfter false s
IsLocalsAfter false (Top ∷ s) = IsLocalsAfter false s
IsLocalsAfter false (Long ∷ s) = IsLocalsAfter true s
IsLocalsAfter true (Second ∷ s) = IsLocalsAfter false s
IsLocalsAfter after s = ⊥

-- Types of locals: a long has two places, and nothing is known of top.
abbrev pub IsLocals : List VType → Type 0
IsLocals s = IsLocalsAfter false s

-- types of an operand stack, of which the second place of a long was just above, or not
abbrev pub IsStackUnder : Bool → List VType → Type 0
IsStackUnder false [] = Unit {0}
IsStackUnder false (Int ∷ s) = IsStackUnder false s
IsStackUnder false (Null ∷ s) = IsStackUnder false s
IsStackUnder false (Ref n ∷ s) = IsStackUnder false s
IsStackUnder false (Uninit p ∷ s) = IsStackUnder false s
IsStackUnder false (UninitThis ∷ s) = IsStackUnder false s
IsStackUnder false (Second ∷ s) = IsStackUnder true s
IsStackUnder true (Long ∷ s) = IsStackUnder false s
IsStackUnder under s = ⊥

-- Types of an operand stack: a long has its second place above the first. None is top.
abbrev pub IsStack : List VType → Type 0
IsStack s = IsStackUnder false s

abbrev pub read_in : Option Row → List ℕ
read_in None = object_class
read_in (Some r) = r.read

-- A class's name as typing reads it: an interface, and a class that isn't the program's, is Object.
abbrev pub class_read : Program → List ℕ → List ℕ
class_read P n = read_in (find (λ (r : Row). bytes_eq r.name n) P.types)

-- so inside a descriptor
abbrev pub element_read : Program → List ℕ → List ℕ
element_read P [] = []
element_read P (c ∷ cs) =
    if c == 91 then c ∷ element_read P cs
    else (if c == 76 then codes "L" ++ class_read P (without_last cs) ++ codes ";" else c ∷ cs)

abbrev pub name_read : Program → List ℕ → List ℕ
name_read P n = if is_array n then element_read P n else class_read P n

-- the type of a word on a stack, the topmost place first
abbrev pub stack_types : Declared → List VType
stack_types d = by d.word
  where
    by : WordType → List VType
    by word.Long = Second ∷ Long ∷ []
    by word.Reference = Ref d.class ∷ []
    by t = Int ∷ []

-- its places among parameters
abbrev pub place_types : Declared → List VType
place_types d = reverse (stack_types d)
