-- Names of methods, and what stands under them.
use Rattle.std.specs.Prelude.{◌≡◌, ℕ, List, [], Bool, Option, position, unwrap_or}
use Rattle.std.specs.List.{list_any}
use Rattle.std.specs.Map.{lookup}
use Rattle.jmodel.specs.declared.name.MethodName.{MethodName}
use Rattle.objects.specs.linking.Members.{is_name}

abbrev pub named : List ℕ → List ℕ → List ℕ → MethodName
named class name descriptor = record { class = class; name = name; descriptor = descriptor }

-- whether a name is among names
abbrev pub has : List MethodName → MethodName → Bool
has names n = list_any (is_name n) names

-- what stands under a name
abbrev pub group_of : {X : Type 0} → List (MethodName × List X) → MethodName → List X
group_of groups n = unwrap_or (lookup (is_name n) groups) []

-- the number that stands under a name
abbrev pub number_of : List (MethodName × ℕ) → MethodName → Option ℕ
number_of numbers n = lookup (is_name n) numbers

-- how often a name was counted
abbrev pub count_of : List (MethodName × ℕ) → MethodName → ℕ
count_of numbers n = unwrap_or (number_of numbers n) 0

-- each name among names has as its number the first place where it stands
abbrev pub AreFirst : List (MethodName × ℕ) → List MethodName → Type 0
AreFirst numbers names = (n : MethodName) → number_of numbers n ≡ position (is_name n) names
