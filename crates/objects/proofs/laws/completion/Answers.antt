use Rattle.objects.proofs.CompletionLaw as completion
use Rattle.objects.proofs.laws.completion.Goals as goal

pub returns : goal.returns
returns c = completion.completion
