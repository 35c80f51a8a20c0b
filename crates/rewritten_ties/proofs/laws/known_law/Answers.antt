use Rattle.objects.proofs.Links.{links}
use Rattle.objects.proofs.Upward.{upward_law}
use Rattle.rewritten_ties.proofs.Known.{are_known}
use Rattle.rewritten_ties.proofs.Places.{at_place}
use Rattle.rewritten_ties.proofs.laws.known_law.Goals as goal

pub returns : goal.returns
returns c P cs ds h r texts i x y e f new made begins n stands =
    let l = links cs P r.linked in
    are_known cs P r.read l (upward_law cs l.supers) ds h x y (i, e) (at_place P cs ds r.each i x y e f) (c.leads_law.ensures P cs ds h r texts i x y e f) c.fields_law.ensures new made begins n stands
