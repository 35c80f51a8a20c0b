-- The rules that annotations keep, and the mark among them (JVM Specification, Java SE 7, sections 4.7.16 and 4.7.17).
use Rattle.std.specs.Prelude.{◌≡◌, ℕ, zero, suc, ◌<◌, ◌^◌, ℤ, pos, List, length, Option, Some, None, Bool, true, false, ◌==◌, if◌then◌else◌, IsSome, IfSome, option_and_then, unwrap_or, find, codes}
use Rattle.std.specs.List.{list_any, AllByRecursion}
use Rattle.jmodel.specs.declared.class_file.Constant.{Constant}
use Rattle.jmodel.specs.declared.class_file.Constant.TheVariants.{Integer}
use Rattle.jmodel.specs.format.ClassFile.{Pool}
use Rattle.jmodel.specs.format.Pool.{entry, utf8}
use Rattle.jmodel.specs.format.ClassRules.{IsTwoBytes, same_text}
use Rattle.jmodel.specs.format.Annotation.{Pair, Annotation, Shape, Single, Enum, Nested, Array, Value, annotations_text}

-- ---- the grammar

-- the tags with one index behind: the letters of constants, s of a text and c of a class
abbrev pub is_single : ℕ → Bool
is_single tag = list_any (λ c. c == tag) (codes "BCDFIJSZsc")

-- the index of a text
abbrev pub IsText : Pool → ℕ → Type 0
IsText pool i = IsTwoBytes i × IsSome (utf8 pool i)

pub record IsPair {V : Type 0} (pool : Pool) (Fits : V → Type 0) (p : Pair V) : Type 0 where
  pub name : IsText pool p.name
  pub value : Fits p.value

pub record IsAnnotation {V : Type 0} (pool : Pool) (Fits : V → Type 0) (a : Annotation V) : Type 0 where
  pub class : IsText pool a.class
  pub few : length a.pairs < 2 ^ 16
  pub pairs : AllByRecursion (IsPair pool Fits) a.pairs

abbrev pub IsShape : {V : Type 0} → Pool → (V → Type 0) → Shape V → Type 0
IsShape pool Fits (Single tag index) = (is_single tag ≡ true) × (tag < 2 ^ 8) × IsTwoBytes index
IsShape pool Fits (Enum class name) = IsTwoBytes class × IsTwoBytes name
IsShape pool Fits (Nested a) = IsAnnotation pool Fits a
IsShape pool Fits (Array vs) = (length vs < 2 ^ 16) × AllByRecursion Fits vs

unfoldable pub IsValue : (n : ℕ) → Pool → Value n → Type 0
IsValue zero pool v = ⊥
IsValue (suc n) pool v = IsShape pool (IsValue n pool) v

-- ---- the mark

-- whether an index is that of this text
abbrev pub is_text : Pool → List ℕ → ℕ → Bool
is_text pool text i = same_text (utf8 pool i) text

abbrev pub is_mark : {V : Type 0} → Pool → Annotation V → Bool
is_mark pool a = is_text pool (codes "Lorg/deuce/Atomic;") a.class

abbrev pub is_retries : {V : Type 0} → Pool → Pair V → Bool
is_retries pool p = is_text pool (codes "retries") p.name

abbrev pub integer_in : Constant → Option ℤ
integer_in (Integer n) = Some n
integer_in c = None

-- the number of an Integer, by its index
abbrev pub integer : Pool → ℕ → Option ℤ
integer pool i = option_and_then integer_in (entry pool i)

-- the number of a value that has the tag I
abbrev pub int_of : {V : Type 0} → Pool → Shape V → Option ℤ
int_of pool (Single tag index) = if tag == 73 then integer pool index else None
int_of pool v = None

-- how many attempts a mark grants: its first pair that is named retries says it, and 2147483647 where there is none
abbrev pub retries_of : {V : Type 0} → Pool → Annotation (Shape V) → ℤ
retries_of {V} pool a = unwrap_or (option_and_then (λ (p : Pair (Shape V)). int_of pool p.value) (find (is_retries pool) a.pairs)) (pos 2147483647)

-- a mark whose first pair that is named retries, if there is one, has an int
abbrev pub IsSoundMark : {V : Type 0} → Pool → Annotation (Shape V) → Type 0
IsSoundMark {V} pool a = IfSome (find (is_retries pool) a.pairs) (λ (p : Pair (Shape V)). IsSome (int_of pool p.value))

-- the first mark is such, where there is none before
abbrev pub HasSoundMark : {V : Type 0} → Pool → Bool → List (Annotation (Shape V)) → Type 0
HasSoundMark pool true every = IfSome (find (is_mark pool) every) (IsSoundMark pool)
HasSoundMark pool false every = Unit {0}

-- The annotations of an attribute. The flag says whether no mark stands in those before.
pub record AreAnnotations {V : Type 0} (pool : Pool) (Fits : Shape V → Type 0) (first : Bool) (every : List (Annotation (Shape V))) : Type 0 where
  pub few : length every < 2 ^ 16
  pub each : AllByRecursion (IsAnnotation pool Fits) every
  pub mark : HasSoundMark pool first every

-- the bytes spell these annotations, which keep the rules
pub record SpellsAnnotations {V : Type 0} (pool : Pool) (spell : Shape V → List ℕ) (Fits : Shape V → Type 0) (first : Bool) (bytes : List ℕ)
    (every : List (Annotation (Shape V))) : Type 0 where
  pub annotations : AreAnnotations pool Fits first every
  pub is : bytes ≡ annotations_text spell every
