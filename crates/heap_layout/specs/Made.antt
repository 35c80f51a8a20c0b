-- The array types that methods make by anewarray.
use Rattle.std.specs.Prelude.{ℕ, List}
use Rattle.std.specs.List.{flat_map}
use Rattle.objects.specs.linking.Code.{decoded}
use Rattle.objects.specs.linking.Classes.{Declared}
use Rattle.objects.specs.linking.Layout.{made_in}

abbrev pub method_makes : Declared → List (List ℕ)
method_makes k = made_in k.class.pool (decoded k.class k.member)

abbrev pub methods_make : List Declared → List (List ℕ)
methods_make ks = flat_map (λ (k : Declared). method_makes k) ks
