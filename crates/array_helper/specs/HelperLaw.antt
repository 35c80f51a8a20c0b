-- The methods of the helper of arrays are those of the rewriting.
use Rattle.std.specs.Prelude.{◌≡◌, Some, Ok, false}
use Rattle.objects.specs.linking.Each.{each}
use Rattle.objects.specs.linking.Decoding.{Symbols}
use Rattle.objects.specs.rewriting.Rewriting.{helper_methods}
use Rattle.member_code.specs.Meaning.{meaning}
use Rattle.array_helper.specs.Helper.{helper_file}

-- With the symbols of the helper's class, its methods mean those of the rewriting, whatever other classes there are.
abbrev pub HelperLaw : Type 0
HelperLaw = (s : Symbols) → helper_file ≡ Ok s.class → each (meaning s false) s.class.methods ≡ Some helper_methods
