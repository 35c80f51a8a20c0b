use Rattle.objects.proofs.Links.{links}
use Rattle.objects.proofs.Upward.{upward_law}
use Rattle.objects.proofs.SourceProof.{source_law}
use Rattle.rewritten_names.proofs.Leading.{leads}
use Rattle.rewritten_names.proofs.laws.leads_law.Goals as goal

pub returns : goal.returns
returns c P cs ds h r texts i x y e f =
    let l = links cs P r.linked in
    leads cs P r.read l (source_law cs P r.read r.linked) (upward_law cs l.supers) ds h r.each r.named texts x y
