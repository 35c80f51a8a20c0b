-- The narrowest types above those of two lists, where they are those of one of them.
use Rattle.std.specs.Prelude.{◌≡◌, List}
use Rattle.jmodel.specs.declared.typing.VType.{VType}
use Rattle.verifier.specs.declared.merging.Above.{Above}
use Rattle.verifier.specs.declared.merging.Above.TheVariants.{First, Second, Own}

abbrev pub above_of : Above → List VType → List VType → List VType
above_of First ts us = ts
above_of Second ts us = us
above_of (Own types) ts us = types

-- both halves are those of one list
abbrev pub IsOneSide : Above → Above → Above → Type 0
IsOneSide First l r = (l ≡ First) × (r ≡ First)
IsOneSide Second l r = (l ≡ Second) × (r ≡ Second)
IsOneSide (Own types) l r = ⊥
