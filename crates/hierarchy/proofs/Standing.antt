-- The class of a name stands at the name's place.
use Rattle.std.proofs.Common.{◌≡◌, ℕ, List}
use Rattle.std.specs.Prelude.{bytes_eq, slice_get, option_and_then}
use Rattle.jmodel.specs.format.ClassFile.{ClassFile}
use Rattle.objects.specs.linking.Members.{own_name}
use Rattle.objects.specs.linking.Superclasses.{class_named}
use Rattle.hierarchy.specs.Places.{place_of}
use Rattle.hierarchy.proofs.Numbering.{position_get}

pub stands : (cs : List ClassFile) (name : List ℕ) → option_and_then (slice_get cs) (place_of cs name) ≡ class_named cs name
stands cs name = position_get (λ c. bytes_eq (own_name c) name) cs
