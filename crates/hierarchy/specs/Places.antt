-- Where classes stand among others, by their names.
use Rattle.std.specs.Prelude.{◌≡◌, ℕ, List, [], map, Option, position, slice_get, bytes_eq, option_and_then}
use Rattle.jmodel.specs.declared.name.MethodName.{MethodName}
use Rattle.jmodel.specs.format.ClassFile.{ClassFile}
use Rattle.objects.specs.linking.Members.{own_name}
use Rattle.objects.specs.linking.Superclasses.{super_name}
use Rattle.hierarchy.specs.Names.{named, AreFirst}

-- the place of the first class of a name
abbrev pub place_of : List ClassFile → List ℕ → Option ℕ
place_of cs name = position (λ c. bytes_eq (own_name c) name) cs

-- the place of the superclass of the class at a place
abbrev pub place_above : List ClassFile → ℕ → Option ℕ
place_above cs place = option_and_then (λ c. place_of cs (super_name c)) (slice_get cs place)

-- the name of a class, as that of a member
abbrev pub class_key : ClassFile → MethodName
class_key c = named (own_name c) [] []

-- the places of classes by their names, and those of their superclasses
pub record ArePlaces (cs : List ClassFile) (places : List (MethodName × ℕ)) (supers : List (Option ℕ)) : Type 0 where
  pub own : AreFirst places (map class_key cs)
  pub above : supers ≡ map (λ c. place_of cs (super_name c)) cs
