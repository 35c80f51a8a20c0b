-- What a class lists as interfaces, and what elements that are no arrays are instances of.
use Rattle.std.specs.Prelude.{ℕ, List, [], ◌∷◌, map, ◌==◌, if◌then◌else◌}
use Rattle.jmodel.specs.format.ClassFile.{Pool, ClassFile}
use Rattle.jmodel.specs.format.Pool.{class_name, text_or_none}
use Rattle.objects.specs.typing.TypeOrder.{without_last, descriptor_of}
use Rattle.objects.specs.linking.Layout.{class_instances}

-- the names of classes at indexes of a pool
abbrev pub listed : Pool → List ℕ → List (List ℕ)
listed pool is = map (λ i. text_or_none (class_name pool i)) is

-- descriptors: of the types of which an element that is no array is an instance
abbrev pub base_instances : List ClassFile → List ℕ → List (List ℕ)
base_instances cs [] = []
base_instances cs (c ∷ d) = if c == 76 then map descriptor_of (class_instances cs (without_last d)) else (c ∷ d) ∷ []
