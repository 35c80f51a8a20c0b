-- What the annotations of a method say of attempts.
use Rattle.std.specs.Prelude.{ℕ, ℤ, pos, List, [], ◌∷◌, ◌++◌, Option, Some, None, Result, Ok, Err, Bool, true, not, ◌&&◌, int_lt, if◌then◌else◌, option_map, find, codes}
use Rattle.std.specs.List.{list_any}
use Rattle.jmodel.specs.format.ClassFile.{Pool, Attribute, Member}
use Rattle.jmodel.specs.format.ClassRules.{named_attributes}
use Rattle.jmodel.specs.declared.mark.Atomic.{Atomic}
use Rattle.jmodel.specs.declared.mark.AnnotationFault.{AnnotationFault}
use Rattle.jmodel.specs.declared.mark.AnnotationFault.TheVariants.{Bad, Retries}
use Rattle.jmodel.specs.format.Annotation.{Annotation, Shape}
use Rattle.jmodel.specs.format.AnnotationRules.{is_mark, retries_of}
use Rattle.jmodel.specs.format.AnnotationReading.{◌>>=◌, annotations_of, value_at}

-- the attributes that are read: those that a running program sees come first
abbrev pub annotation_attributes : Pool → List Attribute → List Attribute
annotation_attributes pool xs = named_attributes pool (codes "RuntimeVisibleAnnotations") xs ++ named_attributes pool (codes "RuntimeInvisibleAnnotations") xs

-- The annotations of attributes, one after another; the flag says whether no mark stands in those before.
unfoldable pub all_annotations : {V : Type 0} → Pool → (List ℕ → ℕ → Result (Shape V × ℕ) ℕ) → Bool → List Attribute → Result (List (Annotation (Shape V))) ℕ
all_annotations pool value first [] = Ok []
all_annotations pool value first (x ∷ xs) = do
  every ← annotations_of pool (value x.bytes) first x.bytes
  others ← all_annotations pool value (first && not (list_any (is_mark pool) every)) xs
  Ok (every ++ others)

-- how many attempts the first mark grants
abbrev pub marked_retries : {V : Type 0} → Pool → List (Annotation (Shape V)) → Option ℤ
marked_retries pool every = option_map (retries_of pool) (find (is_mark pool) every)

-- The same of a method's attributes, or the first fault; values nest at most 16 deep.
unfoldable pub retries_in : Pool → List Attribute → Result (Option ℤ) ℕ
retries_in pool xs = all_annotations pool (value_at 16 pool) true (annotation_attributes pool xs) >>= λ every. Ok (marked_retries pool every)

-- a mark grants at least one attempt
abbrev pub granted : Option ℤ → Result (Option Atomic) AnnotationFault
granted None = Ok None
granted (Some n) = if int_lt n (pos 1) then Err (Retries n) else Ok (Some (record { retries = n }))

abbrev pub answer : Result (Option ℤ) ℕ → Result (Option Atomic) AnnotationFault
answer (Ok n) = granted n
answer (Err at) = Err (Bad at)

-- the mark of a method, or its fault
abbrev pub mark_of : Pool → Member → Result (Option Atomic) AnnotationFault
mark_of pool m = answer (retries_in pool m.attributes)
