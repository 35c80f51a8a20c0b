-- The order in which classes start.
use Rattle.std.specs.Prelude.{List, reverse}
use Rattle.std.specs.List.{flat_map}
use Rattle.jmodel.specs.format.ClassFile.{ClassFile}
use Rattle.objects.specs.linking.Members.{own_name}
use Rattle.objects.specs.linking.Superclasses.{lineage}

-- each of some classes after those above it, among all classes
abbrev pub visits_of : List ClassFile → List ClassFile → List ClassFile
visits_of cs some = flat_map (λ c. reverse (lineage cs (own_name c))) some
