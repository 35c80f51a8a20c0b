-- The words of static bases, by the numbers of their types, and the string constants by their texts.
use Rattle.std.specs.Prelude.{◌≡◌, ℕ, ◌*◌, ◌^◌, List, [], ◌∷◌, map, option_and_then, unwrap_or, if◌then◌else◌}
use Rattle.jmodel.specs.declared.name.MethodName.{MethodName}
use Rattle.jmodel.specs.format.ClassFile.{Member, Pool, ClassFile}
use Rattle.objects.specs.linking.Members.{statics}
use Rattle.objects.specs.linking.StaticBases.{has_base, bases_end}
use Rattle.objects.specs.semantics.Value.{word_of}
use Rattle.objects.specs.linking.Layout.{texts_of, text_place, constant_text, opening_value}
use Rattle.hierarchy.specs.Names.{named, AreFirst}

-- a text, as the name of a member
abbrev pub text_key : List ℕ → MethodName
text_key t = named t [] []

-- the string constants of classes have these numbers by their texts, and the first lies at this address
pub record ArePlaces (cs : List ClassFile) (numbers : List (MethodName × ℕ)) (from : ℕ) : Type 0 where
  pub numbers_are : AreFirst numbers (map text_key (texts_of cs))
  pub from_is : from ≡ bases_end cs

-- the reference of the string constant that a field's constant is
abbrev pub text_value : List ClassFile → Pool → Member → ℕ
text_value cs pool m = unwrap_or (option_and_then (text_place cs) (constant_text pool m)) 0

-- the words of the static base of a class, whose type has this number
abbrev pub image_of : List ClassFile → ℕ → ClassFile → List ℕ
image_of cs type c = if has_base c then type * 2 ^ 32 ∷ map (λ m. word_of (opening_value cs c.pool m)) (statics c) else []
