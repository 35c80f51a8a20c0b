use Rattle.std.proofs.Common.{sym, ap}
use Rattle.std.specs.Prelude.{option_map}
use Rattle.jmodel.specs.format.Descriptor.{Signature, places_of}
use Rattle.hierarchy.proofs.Parts.{no_signature}
use Rattle.linking.proofs.functions.parameter_places.Goals as goal

pub returns-in-Err-Refused : goal.returns-in-Err-Refused
returns-in-Err-Refused c = sym (ap (option_map (λ (g : Signature). places_of g.parameters)) (no_signature _ _ _ (rw c.in-Err-Refused.field-0-is at c.in-Err-Refused.ensures.exact)))
