use Rattle.objects.proofs.RewritingTypes as types
use Rattle.objects.proofs.DuplicateTypes as duplicates
use Rattle.objects.proofs.laws.typed_rewriting.Goals as goal

pub returns : goal.returns
returns c P Ts S R = types.rewriting_typable P Ts S (λ m k T there table code. duplicates.duplicate_typable P Ts S m k T there table code (R m k T there table code))
