use Rattle.hierarchy.specs.declared.selection.Selection.{Selection}
use Rattle.hierarchy.proofs.LineageFirsts.{selects_in}
use Rattle.hierarchy.proofs.selection.Selection.under.Goals as goal

pub returns : goal.returns
returns c =
    let s : Selection = record { classes = c.in_ok-classes_of.field-0; groups = c.in_ok-groups_of.field-0; firsts = c.in_ok-firsts_of.field-0 } in
    selects_in c.args.types.now c.args.methods.now c.in_ok-groups.groups c.args.classes.now s c.in_ok-groups.ensures c.requires c.in_ok-firsts_of.ensures c.in_ok-classes_of.ensures c.in_ok-groups_of.ensures
