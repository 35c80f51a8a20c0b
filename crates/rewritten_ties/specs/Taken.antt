-- Methods that are taken, by their class.
use Rattle.std.specs.Prelude.{◌≡◌, ℕ, List, Some, slice_get}
use Rattle.jmodel.specs.format.ClassFile.{Member, ClassFile}
use Rattle.objects.specs.linking.Linking.{taken_methods}

-- the member of a class is a method that is taken
abbrev pub IsTakenIn : List ClassFile → ClassFile → Member → Type 0
IsTakenIn cs c m = (j : ℕ) × (slice_get (taken_methods cs) j ≡ Some (record { class = c; member = m }))
