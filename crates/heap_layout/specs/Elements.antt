-- Elements of arrays that are no arrays themselves.
use Rattle.std.specs.Prelude.{ℕ, List, [], ◌∷◌, ◌++◌, Bool, not, ◌==◌, codes, if◌then◌else◌}
use Rattle.jmodel.specs.format.ClassFile.{ClassFile}
use Rattle.objects.specs.linking.Superclasses.{class_named}
use Rattle.objects.specs.typing.TypeOrder.{without_last}
use Rattle.objects.specs.linking.Resolution.{is_interface, holds_of}
use Rattle.objects.specs.linking.Layout.{class_read}

-- whether the folder has a class of a name, and no interface
abbrev pub is_class_of : List ClassFile → List ℕ → Bool
is_class_of cs n = holds_of (λ c. not (is_interface c)) (class_named cs n)

-- an element that is no array, as typing reads it
abbrev pub element_read : List ClassFile → List ℕ → List ℕ
element_read cs [] = []
element_read cs (c ∷ n) = if c == 76 then codes "L" ++ class_read cs (without_last n) ++ codes ";" else c ∷ n
