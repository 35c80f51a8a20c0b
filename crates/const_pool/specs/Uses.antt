-- What each text of a pool can be used for.
use Rattle.std.specs.Prelude.{ℕ, zero, suc, List, Bool, false, get_or, map}
use Rattle.jmodel.specs.declared.class_file.Constant.{Constant}
use Rattle.jmodel.specs.declared.class_file.Constant.TheVariants.{Utf8}
use Rattle.jmodel.specs.format.DescriptorReading.{is_field_descriptor, is_method_descriptor}

-- whether an entry is a field descriptor, and whether a method descriptor
abbrev pub use_of : Constant → Bool × Bool
use_of (Utf8 text) = (is_field_descriptor text, is_method_descriptor text)
use_of c = (false, false)

abbrev pub uses_of : List Constant → List (Bool × Bool)
uses_of pool = map use_of pool

-- that of the entry of an index
abbrev pub use_at : List (Bool × Bool) → ℕ → Bool × Bool
use_at uses zero = (false, false)
use_at uses (suc i) = get_or uses i (false, false)
