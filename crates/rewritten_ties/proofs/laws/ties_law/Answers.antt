use Rattle.std.proofs.Common.{[], ◌∷◌, ◌++◌, refl}
use Rattle.objects.specs.rewriting.Relinking.{rewritten_symbols}
use Rattle.objects.specs.rewriting.Rewriting.{helper_methods}
use Rattle.objects.proofs.Links.{links}
use Rattle.rewritten_ties.proofs.HelperNames.{meant_names}
use Rattle.rewritten_ties.proofs.Tied.{ties}
use Rattle.rewritten_ties.proofs.laws.ties_law.Goals as goal

pub returns : goal.returns
returns c P cs ds h r texts made i x y e f m taken =
    let names = meant_names (rewritten_symbols P cs (ds ++ h ∷ []) h) h.methods helper_methods (c.helper_law.ensures (rewritten_symbols P cs (ds ++ h ∷ []) h) made) in
    ties cs P r.read (links cs P r.linked) h names x m taken (rewritten_symbols P cs (ds ++ h ∷ []) y) refl refl (c.leads_law.ensures P cs ds h r texts i x y e f) (c.special_law.ensures P cs ds h r texts i x y e f)
