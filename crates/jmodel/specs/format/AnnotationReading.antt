-- Reading annotations from the front: a part gives its value and the place after it, or the offset of the first field that breaks
-- the grammar or isn't wholly there.
use Rattle.std.specs.Prelude.{ℕ, zero, suc, ◌+◌, List, [], ◌∷◌, length, take, drop, Result, Ok, Err, Bool, true, not, ◌&&◌, ◌==◌, nat_lt, if◌then◌else◌, is_some, codes}
use Rattle.std.specs.Int.{w8, w16, from_be_bytes}
use Rattle.jmodel.specs.format.ClassFile.{Pool}
use Rattle.jmodel.specs.format.Pool.{utf8}
use Rattle.jmodel.specs.format.Annotation.{Pair, Annotation, Shape, Single, Enum, Nested, Array, Value}
use Rattle.jmodel.specs.format.AnnotationRules.{is_single, is_text, is_mark, is_retries, integer}

infixl 10 ◌>>=◌
abbrev pub ◌>>=◌ : {A B : Type 0} → Result A ℕ → (A → Result B ℕ) → Result B ℕ
(Ok x) >>= f = f x
(Err at) >>= f = Err at

-- ---- fields

-- a run of bytes
unfoldable pub run_at : List ℕ → ℕ → ℕ → Result (List ℕ × ℕ) ℕ
run_at bytes at n = if nat_lt (length bytes) (at + n) then Err at else Ok (take n (drop at bytes), at + n)

unfoldable pub u1_at : List ℕ → ℕ → Result (ℕ × ℕ) ℕ
u1_at bytes at = do
  run ← run_at bytes at 1
  Ok (from_be_bytes w8 run.0, run.1)

-- a number of two bytes, the highest first
unfoldable pub u2_at : List ℕ → ℕ → Result (ℕ × ℕ) ℕ
u2_at bytes at = do
  run ← run_at bytes at 2
  Ok (from_be_bytes w16 run.0, run.1)

-- the index of a text
unfoldable pub text_at : Pool → List ℕ → ℕ → Result (ℕ × ℕ) ℕ
text_at pool bytes at = do
  i ← u2_at bytes at
  if is_some (utf8 pool i.0) then Ok i else Err at

-- ---- items behind their count

-- as many as are counted, one after another
unfoldable pub items_at : {A : Type 0} → (ℕ → Result (A × ℕ) ℕ) → ℕ → ℕ → Result (List A × ℕ) ℕ
items_at read zero at = Ok ([], at)
items_at read (suc n) at = do
  first ← read at
  others ← items_at read n first.1
  Ok (first.0 ∷ others.0, others.1)

unfoldable pub counted_at : {A : Type 0} → List ℕ → (ℕ → Result (A × ℕ) ℕ) → ℕ → Result (List A × ℕ) ℕ
counted_at bytes read at = do
  count ← u2_at bytes at
  items_at read count.0 count.1

-- The same where the first that passes a test is read in its own way, with the flag true: it is still to come.
unfoldable pub items_until : {A : Type 0} → (A → Bool) → (Bool → ℕ → Result (A × ℕ) ℕ) → Bool → ℕ → ℕ → Result (List A × ℕ) ℕ
items_until test read first zero at = Ok ([], at)
items_until test read first (suc n) at = do
  item ← read first at
  others ← items_until test read (first && not (test item.0)) n item.1
  Ok (item.0 ∷ others.0, others.1)

unfoldable pub counted_until : {A : Type 0} → (A → Bool) → List ℕ → (Bool → ℕ → Result (A × ℕ) ℕ) → Bool → ℕ → Result (List A × ℕ) ℕ
counted_until test bytes read first at = do
  count ← u2_at bytes at
  items_until test read first count.0 count.1

-- ---- annotations and values, by the reading of their values and parts

unfoldable pub pair_at : {V : Type 0} → Pool → (ℕ → Result (V × ℕ) ℕ) → List ℕ → ℕ → Result (Pair V × ℕ) ℕ
pair_at pool value bytes at = do
  name ← text_at pool bytes at
  v ← value name.1
  Ok (record { name = name.0; value = v.0 }, v.1)

unfoldable pub annotation_at : {V : Type 0} → Pool → (ℕ → Result (V × ℕ) ℕ) → List ℕ → ℕ → Result (Annotation V × ℕ) ℕ
annotation_at pool value bytes at = do
  class ← text_at pool bytes at
  pairs ← counted_at bytes (pair_at pool value bytes) class.1
  Ok (record { class = class.0; pairs = pairs.0 }, pairs.1)

unfoldable pub single_at : {V : Type 0} → ℕ → List ℕ → ℕ → Result (Shape V × ℕ) ℕ
single_at tag bytes at = do
  index ← u2_at bytes at
  Ok (Single tag index.0, index.1)

unfoldable pub enum_at : {V : Type 0} → List ℕ → ℕ → Result (Shape V × ℕ) ℕ
enum_at bytes at = do
  class ← u2_at bytes at
  name ← u2_at bytes class.1
  Ok (Enum class.0 name.0, name.1)

unfoldable pub nested_at : {V : Type 0} → Pool → (ℕ → Result (V × ℕ) ℕ) → List ℕ → ℕ → Result (Shape V × ℕ) ℕ
nested_at pool part bytes at = do
  a ← annotation_at pool part bytes at
  Ok (Nested a.0, a.1)

unfoldable pub array_at : {V : Type 0} → (ℕ → Result (V × ℕ) ℕ) → List ℕ → ℕ → Result (Shape V × ℕ) ℕ
array_at part bytes at = do
  values ← counted_at bytes part at
  Ok (Array values.0, values.1)

-- what stands behind a tag, which stands at start
unfoldable pub tagged_at : {V : Type 0} → Pool → (ℕ → Result (V × ℕ) ℕ) → List ℕ → ℕ → ℕ → ℕ → Result (Shape V × ℕ) ℕ
tagged_at pool part bytes start tag at =
    if is_single tag then single_at tag bytes at
    else if tag == 101 then enum_at bytes at
    else if tag == 64 then nested_at pool part bytes at
    else if tag == 91 then array_at part bytes at
    else Err start

unfoldable pub shape_at : {V : Type 0} → Pool → (ℕ → Result (V × ℕ) ℕ) → List ℕ → ℕ → Result (Shape V × ℕ) ℕ
shape_at pool part bytes at = do
  tag ← u1_at bytes at
  tagged_at pool part bytes at tag.0 tag.1

-- a value that may nest so deep
unfoldable pub value_at : (n : ℕ) → Pool → List ℕ → ℕ → Result (Value n × ℕ) ℕ
value_at zero pool bytes at = Err at
value_at (suc n) pool bytes at = shape_at pool (value_at n pool bytes) bytes at

-- ---- the mark

-- a value with the tag I, and the index of an Integer
unfoldable pub int_at : {V : Type 0} → Pool → List ℕ → ℕ → Result (Shape V × ℕ) ℕ
int_at pool bytes at = do
  tag ← u1_at bytes at
  index ← if tag.0 == 73 then u2_at bytes tag.1 else Err at
  if is_some (integer pool index.0) then Ok (Single 73 index.0, index.1) else Err tag.1

-- a pair of the mark: the first that is named retries has an int
unfoldable pub mark_pair_at : {V : Type 0} → Pool → (ℕ → Result (Shape V × ℕ) ℕ) → List ℕ → Bool → ℕ → Result (Pair (Shape V) × ℕ) ℕ
mark_pair_at pool value bytes first at = do
  name ← text_at pool bytes at
  v ← if first && is_text pool (codes "retries") name.0 then int_at pool bytes name.1 else value name.1
  Ok (record { name = name.0; value = v.0 }, v.1)

-- an annotation at the top: the first that is the mark has pairs of the mark
unfoldable pub top_annotation_at : {V : Type 0} → Pool → (ℕ → Result (Shape V × ℕ) ℕ) → List ℕ → Bool → ℕ → Result (Annotation (Shape V) × ℕ) ℕ
top_annotation_at pool value bytes first at = do
  class ← text_at pool bytes at
  pairs ← if first && is_text pool (codes "Lorg/deuce/Atomic;") class.0
      then counted_until (is_retries pool) bytes (mark_pair_at pool value bytes) true class.1
      else counted_at bytes (pair_at pool value bytes) class.1
  Ok (record { class = class.0; pairs = pairs.0 }, pairs.1)

-- the annotations of an attribute, which fill it; the flag says whether no mark stands in those before
unfoldable pub annotations_of : {V : Type 0} → Pool → (ℕ → Result (Shape V × ℕ) ℕ) → Bool → List ℕ → Result (List (Annotation (Shape V))) ℕ
annotations_of pool value first bytes = do
  every ← counted_until (is_mark pool) bytes (top_annotation_at pool value bytes) first 0
  if every.1 == length bytes then Ok every.0 else Err every.1
