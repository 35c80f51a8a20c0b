-- Annotations as data, and their one spelling (JVM Specification, Java SE 7, sections 4.7.16 and 4.7.17).
use Rattle.std.specs.Prelude.{ℕ, zero, suc, List, [], ◌++◌, length}
use Rattle.std.specs.List.{flat_map}
use Rattle.std.specs.Int.{w8, to_be_bytes}
use Rattle.jmodel.specs.format.ClassFile.{u2}

-- a pair of an annotation: the index of its name, and its value
pub record Pair (V : Type 0) : Type 0 where
  pub name : ℕ
  pub value : V

-- an annotation: the index of its type, and its pairs, whose values are of V
pub record Annotation (V : Type 0) : Type 0 where
  pub class : ℕ
  pub pairs : List (Pair V)

-- A value whose parts are of V: an index behind the tag of a constant, a text or a class; an enum's type and name; an annotation;
-- an array.
pub data Shape (V : Type 0) : Type 0 where
  Single : (tag index : ℕ) → Shape V
  Enum : (class name : ℕ) → Shape V
  Nested : (annotation : Annotation V) → Shape V
  Array : (values : List V) → Shape V

-- A value that nests at most so deep: a value has depth 1, and its parts are one deeper.
abbrev pub Value : ℕ → Type 0
Value zero = ⊥
Value (suc n) = Shape (Value n)

-- ---- spelling, by that of the parts

abbrev pub pair_text : {V : Type 0} → (V → List ℕ) → Pair V → List ℕ
pair_text spell p = u2 p.name ++ spell p.value

abbrev pub annotation_text : {V : Type 0} → (V → List ℕ) → Annotation V → List ℕ
annotation_text spell a = u2 a.class ++ (u2 (length a.pairs) ++ flat_map (pair_text spell) a.pairs)

-- a value is its tag and what stands behind it; an enum has the tag e, an annotation @, and an array [
abbrev pub shape_text : {V : Type 0} → (V → List ℕ) → Shape V → List ℕ
shape_text spell (Single tag index) = to_be_bytes w8 tag ++ u2 index
shape_text spell (Enum class name) = to_be_bytes w8 101 ++ (u2 class ++ u2 name)
shape_text spell (Nested a) = to_be_bytes w8 64 ++ annotation_text spell a
shape_text spell (Array vs) = to_be_bytes w8 91 ++ (u2 (length vs) ++ flat_map spell vs)

-- the bytes of a value
unfoldable pub value_text : (n : ℕ) → Value n → List ℕ
value_text zero v = []
value_text (suc n) v = shape_text (value_text n) v

-- the bytes of an attribute: its annotations behind their count
abbrev pub annotations_text : {V : Type 0} → (V → List ℕ) → List (Annotation V) → List ℕ
annotations_text spell every = u2 (length every) ++ flat_map (annotation_text spell) every
