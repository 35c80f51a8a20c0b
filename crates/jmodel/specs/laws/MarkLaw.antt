-- Laws of reading: it gives exactly the annotations that the bytes spell, and a fault where they spell none.
use Rattle.std.specs.Prelude.{◌≡◌, ℕ, suc, ◌<◌, ◌^◌, ◌⊎◌, ◌↔◌, List, [], ◌∷◌, ◌++◌, Ok, Err, Bool, true, not, ◌&&◌}
use Rattle.std.specs.List.{list_any, AllByRecursion}
use Rattle.jmodel.specs.format.ClassFile.{Pool, Attribute, Member}
use Rattle.jmodel.specs.declared.mark.AnnotationFault.TheVariants.{Bad}
use Rattle.jmodel.specs.format.Annotation.{Annotation, Shape, Value, value_text}
use Rattle.jmodel.specs.format.AnnotationRules.{is_mark, IsValue, SpellsAnnotations}
use Rattle.jmodel.specs.format.AnnotationReading.{annotations_of, value_at}
use Rattle.jmodel.specs.format.Mark.{annotation_attributes, marked_retries, granted, mark_of}

abbrev pub AreBytes : List ℕ → Type 0
AreBytes bytes = AllByRecursion (λ b. b < 2 ^ 8) bytes

-- The bytes spell these annotations, the parts of whose values nest at most so deep.
abbrev pub Spells : (n : ℕ) → Pool → Bool → List ℕ → List (Annotation (Shape (Value n))) → Type 0
Spells n pool first bytes every = SpellsAnnotations pool (value_text (suc n)) (IsValue (suc n) pool) first bytes every

-- Attributes spell these annotations, one attribute after another; the flag says whether no mark stands in those before.
abbrev pub SpellAll : (n : ℕ) → Pool → Bool → List Attribute → List (Annotation (Shape (Value n))) → Type 0
SpellAll n pool first [] every = every ≡ []
SpellAll n pool first (x ∷ xs) every = (these : List (Annotation (Shape (Value n)))) × (others : List (Annotation (Shape (Value n))))
    × Spells n pool first x.bytes these × SpellAll n pool (first && not (list_any (is_mark pool) these)) xs others × (every ≡ these ++ others)

-- the attributes of a method spell these annotations
abbrev pub Annotates : Pool → Member → List (Annotation (Value 16)) → Type 0
Annotates pool m every = SpellAll 15 pool true (annotation_attributes pool m.attributes) every

-- An attribute is read as these annotations exactly where its bytes spell them.
abbrev pub AttributeLaw : Type 0
AttributeLaw = (pool : Pool) (first : Bool) (bytes : List ℕ) (every : List (Annotation (Value 16))) → AreBytes bytes
    → (annotations_of pool (value_at 16 pool bytes) first bytes ≡ Ok every) ↔ Spells 15 pool first bytes every

-- A method's attributes spell annotations, and the answer is what their first mark grants; or they spell none, and the answer is a fault.
abbrev pub MarkLaw : Type 0
MarkLaw = (pool : Pool) (m : Member) → AllByRecursion (λ (x : Attribute). AreBytes x.bytes) m.attributes
    → ((every : List (Annotation (Value 16))) × Annotates pool m every × (mark_of pool m ≡ granted (marked_retries pool every)))
    ⊎ ((at : ℕ) × (mark_of pool m ≡ Err (Bad at)) × ((every : List (Annotation (Value 16))) → Annotates pool m every → ⊥))
