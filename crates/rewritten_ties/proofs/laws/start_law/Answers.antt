use Rattle.objects.proofs.Links.{links}
use Rattle.rewritten_ties.proofs.Started.{is_start}
use Rattle.rewritten_ties.proofs.laws.start_law.Goals as goal

pub returns : goal.returns
returns c cs P read linked x m taken attempts e = is_start cs P read (links cs P linked) x m taken attempts e
