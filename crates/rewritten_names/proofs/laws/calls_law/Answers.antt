use Rattle.objects.proofs.Links.{links}
use Rattle.rewritten_names.proofs.Covered.{call_of}
use Rattle.rewritten_names.proofs.laws.calls_law.Goals as goal

pub returns : goal.returns
returns c cs P read linked = call_of cs P read (links cs P linked)
