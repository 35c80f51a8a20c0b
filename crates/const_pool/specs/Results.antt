-- What stands behind the parameters of a descriptor.
use Rattle.std.specs.Prelude.{ℕ, List, [], ◌∷◌, Option, Some, None, Bool, false, ◌==◌, if◌then◌else◌}
use Rattle.jmodel.specs.declared.class_file.FieldType.{FieldType}
use Rattle.jmodel.specs.format.Descriptor.{Signature}
use Rattle.jmodel.specs.format.DescriptorReading.{type_of}

abbrev pub void : List ℕ → Bool
void [] = false
void (c ∷ []) = c == 86
void (c ∷ d ∷ cs) = false

abbrev pub result_in : List ℕ → Option FieldType
result_in text = if void text then None else Some (type_of text)

abbrev pub made_of : Option (List FieldType × List ℕ) → Option Signature
made_of None = None
made_of (Some p) = Some (record { parameters = p.0; result = result_in p.1 })
