-- The places of classes by names.
use Rattle.std.specs.Prelude.{◌≡◌, ℕ, List, Option, Vec, bytes_eq}
use Rattle.std.specs.Map.{lookup}
use Rattle.jmodel.specs.format.ClassFile.{ClassFile}
use Rattle.hierarchy.specs.Places.{place_of}

-- the place under a name
abbrev pub place_under : {A : Type 0} → List (Vec ℕ A × ℕ) → List ℕ → Option ℕ
place_under es name = lookup (λ k. bytes_eq name k.items) es

-- under each name stands the place of the first class of the name
abbrev pub HasPlaces : {A : Type 0} → List (Vec ℕ A × ℕ) → List ClassFile → Type 0
HasPlaces es cs = (name : List ℕ) → place_under es name ≡ place_of cs name
