-- The state that original methods run over.
use Rattle.std.specs.Prelude.{ℕ, zero, suc, ◌+◌, ◌*◌, ◌^◌, ◌/◌, ◌%◌, List, length, Option, Some, None, Bool, true, false, nat_eq, if◌then◌else◌, slice_get, slice_set, option_and_then, option_map, map, replicate}
use Rattle.jmodel.specs.declared.value.Value.{Value}
use Rattle.objects.specs.declared.op.Place.{Place}
use Rattle.objects.specs.semantics.Value.{first_value}
use Rattle.objects.specs.semantics.Program.{Declared, Holds, Words, Elements, Row}
use Rattle.objects.specs.semantics.Region.{Region, next_reference}

-- an object, an array or a class's static fields: its type's number, whether it is an array, and its values
pub record Object : Type 0 where
  pub type : ℕ
  pub array : Bool
  pub values : List Value

-- the objects by reference, and the used words of each region
pub record State : Type 0 where
  pub objects : ℕ → Option Object
  pub used : ℕ → ℕ

abbrev pub value_at : ℕ → Object → Option Value
value_at zero o = None
value_at (suc i) o = slice_get o.values i

-- the value at a place
abbrev pub value_held : State → Place → Option Value
value_held σ p = option_and_then (value_at p.index) (σ.objects p.object)

abbrev pub object_with : ℕ → Value → Object → Object
object_with zero v o = o
object_with (suc i) v o = record o { values = slice_set o.values i v }

abbrev pub changed : ℕ → Value → Option Object → Option Object
changed i v None = None
changed i v (Some o) = Some (object_with i v o)

-- the state with another value at a place
abbrev pub put : State → Place → Value → State
put σ p v = record σ { objects = λ r. if nat_eq r p.object then changed p.index v (σ.objects r) else σ.objects r }

-- the length that an object's header has, which is an array's
abbrev pub length_of : Object → ℕ
length_of o = if o.array then length o.values else 0

-- the word before an object's values
abbrev pub header : Object → ℕ
header o = o.type * 2 ^ 32 + length_of o

-- the number of the type, and the length, that a header has
abbrev pub type_in : ℕ → ℕ
type_in word = word / 2 ^ 32

abbrev pub length_in : ℕ → ℕ
length_in word = word % 2 ^ 32

-- the words that an object takes: the header, and one for each value
abbrev pub words_of : Object → ℕ
words_of o = length o.values + 1

-- the state with an object more, behind the used words of a region
abbrev pub with_object : Region → Object → State → State
with_object G o σ = record {
  objects = λ r. if nat_eq r (next_reference G (σ.used G.number)) then Some o else σ.objects r;
  used = λ region. if nat_eq region G.number then σ.used region + words_of o else σ.used region;
}

-- what a word of a declared type holds at first
abbrev pub first_word : Declared → Value
first_word d = first_value d.word

-- A new object of a type, whose values are 0 or null; an array has as many as it is asked for.
abbrev pub object_of : ℕ → ℕ → Row → Object
object_of type n r = by r.holds
  where
    by : Holds → Object
    by (Words ds) = record { type = type; array = false; values = map first_word ds }
    by (Elements d name) = record { type = type; array = true; values = replicate n (first_word d) }

-- the number of an object's type
abbrev pub type_at : State → ℕ → Option ℕ
type_at σ r = option_map (λ (o : Object). o.type) (σ.objects r)
