use Rattle.std.proofs.Common.{ap, subst, pos}
use Rattle.jmodel.specs.declared.refusal.Refusal.TheVariants.{BadDescriptor}
use Rattle.jmodel.specs.format.Reading.{Gives}
use Rattle.jmodel.specs.format.DescriptorReading.{signature_or}
use Rattle.const_pool.proofs.Signatures.{signature_again}
use Rattle.const_pool.proofs.Reading.{is_found}
use Rattle.const_pool.proofs.signature.Descriptor.read.Goals as goal

pub returns-clause-found : goal.returns-clause-found
returns-clause-found c = is_found c.args.b.now c.read_descriptor.result c.read_descriptor.ensures

pub returns-clause-only : goal.returns-clause-only
returns-clause-only c = λ s d. subst (λ f. Gives (λ x. x) c.read_descriptor.result f) (ap (signature_or (BadDescriptor (pos 0))) (signature_again c.args.b.now s d)) c.read_descriptor.ensures
