-- How calls over objects find their methods by numbers.
use Rattle.std.specs.Prelude.{ℕ, ◌&&◌, List, [], ◌∷◌, Option, Some, None, Bool, false, nat_eq, option_and_then, if◌then◌else◌}
use Rattle.std.specs.List.{filter_map}
use Rattle.std.specs.Ordering.{nat_cmp}
use Rattle.std.specs.BTreeMap.{BTreeMap, get}
use Rattle.jmodel.specs.declared.name.MethodName.{MethodName}
use Rattle.objects.specs.semantics.Program.{Method, is_selectable, or_else}
use Rattle.hierarchy.specs.Names.{named, number_of}

-- the name of a class, as that of a member
abbrev pub class_of : List ℕ → MethodName
class_of class = named class [] []

-- the class of a method
abbrev pub class_key : Method → MethodName
class_key k = class_of k.name.class

-- what the methods of all classes have in common that override one another
abbrev pub group_key : Method → MethodName
group_key k = named [] k.name.name k.name.descriptor

-- the numbers of the group and of the class of a method
abbrev pub both : Option ℕ → Option ℕ → Option (ℕ × ℕ)
both (Some group) (Some class) = Some (group, class)
both group class = None

abbrev pub place_in : List (MethodName × ℕ) → List (MethodName × ℕ) → Method → Option (ℕ × ℕ)
place_in groups classes k = if is_selectable k.dispatch then both (number_of groups (group_key k)) (number_of classes (class_key k)) else None

abbrev pub is_place : Option (ℕ × ℕ) → ℕ → ℕ → Bool
is_place None group class = false
is_place (Some p) group class = nat_eq group p.0 && nat_eq class p.1

-- the number under a group and a class
abbrev pub first_at : BTreeMap ℕ (BTreeMap ℕ ℕ) → ℕ → ℕ → Option ℕ
first_at firsts group class = option_and_then (λ numbers. get nat_cmp numbers class) (get nat_cmp firsts group)

-- the numbers of classes that have one
abbrev pub numbers_upward : List (MethodName × ℕ) → List (List ℕ) → List ℕ
numbers_upward classes lineage = filter_map (λ class. number_of classes (class_of class)) lineage

-- from a class upward the first number
abbrev pub first_upward : BTreeMap ℕ ℕ → List ℕ → Option ℕ
first_upward numbers [] = None
first_upward numbers (c ∷ cs) = or_else (get nat_cmp numbers c) (first_upward numbers cs)
