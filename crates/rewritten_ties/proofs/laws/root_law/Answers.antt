use Rattle.objects.proofs.DeclaredMembers.{of_methods}
use Rattle.objects.proofs.Links.{links}
use Rattle.objects.proofs.TakenMembers.{in_methods}
use Rattle.objects.proofs.Upward.{upward_law}
use Rattle.rewritten_ties.proofs.Places.{at_place}
use Rattle.rewritten_ties.proofs.Rooted.{is_root}
use Rattle.rewritten_ties.proofs.laws.root_law.Goals as goal

pub returns : goal.returns
returns c P cs ds h r texts i x y e f longer j k m at taken =
    let l = links cs P r.linked in
    let inside = (of_methods cs (record { class = x; member = m }) (in_methods cs (record { class = x; member = m }) (j, taken))).1 in
    is_root cs P r.read l (upward_law cs l.supers) x (i, e) j m taken ds h y (at_place P cs ds r.each i x y e f) (c.numbers_law.ensures P cs ds h r) (c.leads_law.ensures P cs ds h r texts i x y e f)
    (c.same_head_law.ensures P cs ds h r texts i x y e f longer m inside) k at
