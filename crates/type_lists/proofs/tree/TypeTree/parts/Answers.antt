use Rattle.std.proofs.Common.{◌∙◌, sym, ap, subst}
use Rattle.type_lists.specs.Trees.{types, HasParts}
use Rattle.type_lists.proofs.Runs.{run_parted}
use Rattle.type_lists.proofs.tree.TypeTree.parts.Goals as goal

pub returns-in-Run : goal.returns-in-Run
returns-in-Run c =
    let inside = c.self.inside in
    run_parted inside.len c.in-Run.item c.args.self.now
    (sym (ap (types inside.len) c.in-Run.is) ∙ c.self.view_is)
    (subst (HasParts inside.len) c.in-Run.is c.self.invariant.parts)
