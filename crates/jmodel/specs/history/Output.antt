-- Every text that the program prints.
use Rattle.std.specs.Prelude.{ℕ, zero, suc, List, [], ◌∷◌, ◌++◌, length, Some, None, codes}
use Rattle.std.specs.List.{flat_map}
use Rattle.std.specs.Fmt.{decimal, signed_decimal}
use Rattle.jmodel.specs.declared.value.Value.{Value}
use Rattle.jmodel.specs.declared.value.Value.TheVariants as value
use Rattle.jmodel.specs.declared.value.Answer.{Answer}
use Rattle.jmodel.specs.declared.value.Answer.TheVariants.{Returned, Threw, Budget, Depth, Heap, Spent, NoMemory}
use Rattle.jmodel.specs.declared.refusal.Refusal.{Refusal}
use Rattle.jmodel.specs.declared.refusal.Refusal.TheVariants.{Truncated, BadTag, BadIndex, WrongKind, BadUtf8, BadDescriptor, PoolFull, BadMagic, BadVersion, Trailing, BadCode, Doubled, BadInstr, BadTarget, CodeTooLarge, BranchTooFar, DoubledClass, UnknownClass, Circular, Construct, ReservedName, BadAnnotation, BadRetries, TooManyPlaces, NotJson, BadShape, UnknownMethod, NotAtomic, BadArgs, OverLimit, BadSuper, Untypable}
use Rattle.jmodel.specs.declared.name.MethodName.{MethodName}
use Rattle.jmodel.specs.format.Name.{printed}
use Rattle.jmodel.specs.history.Refusal.{number_of}

-- a line feed is 10
abbrev pub line : List ℕ → List ℕ
line text = text ++ 10 ∷ []

-- two texts with a space, 32, between them
infixl 10 ◌and◌
abbrev pub ◌and◌ : List ℕ → List ℕ → List ℕ
a and b = a ++ 32 ∷ b

abbrev pub reference_text : ℕ → List ℕ
reference_text zero = codes "null"
reference_text (suc r) = codes "ref" and decimal (suc r)

abbrev pub value_text : Value → List ℕ
value_text (value.Int n) = signed_decimal n
value_text (value.Long n) = signed_decimal n
value_text (value.Ref r) = reference_text r

abbrev pub answer_text : Answer → List ℕ
answer_text (Returned None) = codes "void"
answer_text (Returned (Some v)) = value_text v
answer_text (Threw class) = codes "threw" and class
answer_text Budget = codes "refused budget"
answer_text Depth = codes "refused depth"
answer_text (Heap used wanted size) = codes "refused heap" and decimal used and decimal wanted and decimal size
answer_text Spent = codes "spent"
answer_text NoMemory = codes "nomemory"

-- a call of the script, by its place there, with the name of its method and its answer
pub record Line : Type 0 where
  pub phase : ℕ
  pub lane : ℕ
  pub index : ℕ
  pub method : MethodName
  pub answer : Answer

-- the place of a call in the script, and a space
abbrev pub place_text : Line → List ℕ
place_text l = decimal l.phase and decimal l.lane and decimal l.index and []

abbrev pub line_text : Line → List ℕ
line_text l = place_text l ++ line (printed l.method and answer_text l.answer)

-- The calls that stand in the history, in its order, and those that ran out of memory, each with their number before them.
abbrev pub journal_text : List Line → List Line → List ℕ
journal_text placed unplaced = line (codes "history" and decimal (length placed)) ++ flat_map line_text placed
    ++ line (codes "unplaced" and decimal (length unplaced)) ++ flat_map line_text unplaced

abbrev pub name_of : Refusal → List ℕ
name_of (Truncated a) = codes "Truncated"
name_of (BadTag a) = codes "BadTag"
name_of (BadIndex i) = codes "BadIndex"
name_of (WrongKind i) = codes "WrongKind"
name_of (BadUtf8 a) = codes "BadUtf8"
name_of (BadDescriptor i) = codes "BadDescriptor"
name_of (PoolFull c) = codes "PoolFull"
name_of BadMagic = codes "BadMagic"
name_of (BadVersion v) = codes "BadVersion"
name_of (Trailing a) = codes "Trailing"
name_of (BadCode m) = codes "BadCode"
name_of (Doubled m) = codes "Doubled"
name_of (BadInstr m pc) = codes "BadInstr"
name_of (BadTarget m pc) = codes "BadTarget"
name_of (CodeTooLarge m) = codes "CodeTooLarge"
name_of (BranchTooFar m pc) = codes "BranchTooFar"
name_of (DoubledClass c) = codes "DoubledClass"
name_of (UnknownClass c) = codes "UnknownClass"
name_of (Circular c) = codes "Circular"
name_of (Construct k m pc) = codes "Construct"
name_of (ReservedName c) = codes "ReservedName"
name_of (BadAnnotation m a) = codes "BadAnnotation"
name_of (BadRetries m n) = codes "BadRetries"
name_of (TooManyPlaces m k) = codes "TooManyPlaces"
name_of NotJson = codes "NotJson"
name_of (BadShape p) = codes "BadShape"
name_of (UnknownMethod p) = codes "UnknownMethod"
name_of (NotAtomic p) = codes "NotAtomic"
name_of (BadArgs p) = codes "BadArgs"
name_of (OverLimit l n) = codes "OverLimit"
name_of (BadSuper c d) = codes "BadSuper"
name_of (Untypable m pc) = codes "Untypable"

-- the details, each behind a space
abbrev pub details_of : Refusal → List ℕ
details_of (Truncated a) = 32 ∷ signed_decimal a
details_of (BadTag a) = 32 ∷ signed_decimal a
details_of (BadIndex i) = 32 ∷ signed_decimal i
details_of (WrongKind i) = 32 ∷ signed_decimal i
details_of (BadUtf8 a) = 32 ∷ signed_decimal a
details_of (BadDescriptor i) = 32 ∷ signed_decimal i
details_of (PoolFull c) = 32 ∷ c
details_of BadMagic = []
details_of (BadVersion v) = 32 ∷ signed_decimal v
details_of (Trailing a) = 32 ∷ signed_decimal a
details_of (BadCode m) = 32 ∷ m
details_of (Doubled m) = 32 ∷ m
details_of (BadInstr m pc) = 32 ∷ (m and signed_decimal pc)
details_of (BadTarget m pc) = 32 ∷ (m and signed_decimal pc)
details_of (CodeTooLarge m) = 32 ∷ m
details_of (BranchTooFar m pc) = 32 ∷ (m and signed_decimal pc)
details_of (DoubledClass c) = 32 ∷ c
details_of (UnknownClass c) = 32 ∷ c
details_of (Circular c) = 32 ∷ c
details_of (Construct k m pc) = 32 ∷ (k and m and signed_decimal pc)
details_of (ReservedName c) = 32 ∷ c
details_of (BadAnnotation m a) = 32 ∷ (m and signed_decimal a)
details_of (BadRetries m n) = 32 ∷ (m and signed_decimal n)
details_of (TooManyPlaces m k) = 32 ∷ (m and k)
details_of NotJson = []
details_of (BadShape p) = 32 ∷ p
details_of (UnknownMethod p) = 32 ∷ p
details_of (NotAtomic p) = 32 ∷ p
details_of (BadArgs p) = 32 ∷ p
details_of (OverLimit l n) = 32 ∷ (l and signed_decimal n)
details_of (BadSuper c d) = 32 ∷ (c and d)
details_of (Untypable m pc) = 32 ∷ (m and signed_decimal pc)

-- the number, the name and the details
abbrev pub refusal_text : Refusal → List ℕ
refusal_text r = (decimal (number_of r) and name_of r) ++ details_of r

-- a fault line: the status in digits, and what is said of it
abbrev pub error_text : List ℕ → List ℕ → List ℕ
error_text status text = line (codes "error" and status and text)
