-- The numbers and the texts of refusals.
use Rattle.std.specs.Prelude.{ℕ}
use Rattle.jmodel.specs.declared.refusal.Refusal.{Refusal}
use Rattle.jmodel.specs.declared.refusal.Refusal.TheVariants.{Truncated, BadTag, BadIndex, WrongKind, BadUtf8, BadDescriptor, PoolFull, BadMagic, BadVersion, Trailing, BadCode, Doubled, BadInstr, BadTarget, CodeTooLarge, BranchTooFar, DoubledClass, UnknownClass, Circular, Construct, ReservedName, BadAnnotation, BadRetries, TooManyPlaces, NotJson, BadShape, UnknownMethod, NotAtomic, BadArgs, OverLimit, BadSuper, Untypable}

-- the number of a refusal
abbrev pub number_of : Refusal → ℕ
number_of (Truncated a) = 1
number_of (BadTag a) = 2
number_of (BadIndex a) = 3
number_of (WrongKind a) = 4
number_of (BadUtf8 a) = 5
number_of (BadDescriptor a) = 6
number_of (PoolFull a) = 7
number_of BadMagic = 8
number_of (BadVersion a) = 9
number_of (Trailing a) = 10
number_of (BadCode a) = 11
number_of (Doubled a) = 12
number_of (BadInstr a b) = 13
number_of (BadTarget a b) = 14
number_of (CodeTooLarge a) = 15
number_of (BranchTooFar a b) = 16
number_of (DoubledClass a) = 17
number_of (UnknownClass a) = 18
number_of (Circular a) = 19
number_of (Construct a b c) = 20
number_of (ReservedName a) = 21
number_of (BadAnnotation a b) = 22
number_of (BadRetries a b) = 23
number_of (TooManyPlaces a b) = 24
number_of NotJson = 25
number_of (BadShape a) = 26
number_of (UnknownMethod a) = 27
number_of (NotAtomic a) = 28
number_of (BadArgs a) = 29
number_of (OverLimit a b) = 30
number_of (BadSuper a b) = 31
number_of (Untypable a b) = 32
