-- Values, the slots of frames that they take, and the words that stand for them.
use Rattle.std.specs.Prelude.{ℕ, pos, ◌%◌, ◌^◌, List, [], ◌∷◌}
use Rattle.std.specs.Int.{w32, w64, cast_signed, cast_unsigned}
use Rattle.jmodel.specs.declared.value.Value.{Value}
use Rattle.jmodel.specs.declared.value.Value.TheVariants as value
use Rattle.objects.specs.declared.op.Slot.{Slot}
use Rattle.objects.specs.declared.op.Slot.TheVariants as slot
use Rattle.objects.specs.declared.op.WordType.{WordType}
use Rattle.objects.specs.declared.op.WordType.TheVariants as word
use Rattle.objects.specs.semantics.WordTypes.{narrowed}

-- a value on top of a stack, the topmost first; of a long the second place lies on top
abbrev pub pushed : Value → List Slot → List Slot
pushed (value.Int x) s = slot.Int x ∷ s
pushed (value.Long x) s = slot.Second ∷ slot.Long x ∷ s
pushed (value.Ref o) s = slot.Ref o ∷ s

-- the slots of a value, in the order of locals
abbrev pub slots_of : Value → List Slot
slots_of (value.Int x) = slot.Int x ∷ []
slots_of (value.Long x) = slot.Long x ∷ slot.Second ∷ []
slots_of (value.Ref o) = slot.Ref o ∷ []

-- what a word of a type keeps of a value
abbrev pub kept_by : WordType → Value → Value
kept_by t (value.Int x) = value.Int (narrowed t x)
kept_by t v = v

-- the word of a value: ints with their sign in all 64 bits, so that those of a char and of a boolean have zeros in front
abbrev pub word_of : Value → ℕ
word_of (value.Int x) = cast_unsigned w64 x
word_of (value.Long x) = cast_unsigned w64 x
word_of (value.Ref o) = o

-- the value that a word stands for at a place of this type
abbrev pub value_of : WordType → ℕ → Value
value_of word.Reference w = value.Ref w
value_of word.Long w = value.Long (cast_signed w64 (w % 2 ^ 64))
value_of t w = value.Int (narrowed t (cast_signed w32 (w % 2 ^ 32)))

-- what a place of a type holds at first
abbrev pub first_value : WordType → Value
first_value word.Reference = value.Ref 0
first_value word.Long = value.Long (pos 0)
first_value t = value.Int (pos 0)
