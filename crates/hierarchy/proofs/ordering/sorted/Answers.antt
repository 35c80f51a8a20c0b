use Rattle.std.proofs.Common.{◌≡◌, rules, ap, ◌∙◌}
use Rattle.std.specs.Map.{values_of}
use Rattle.hierarchy.proofs.InOrder.{seen, values_in_order}
use Rattle.hierarchy.proofs.ordering.sorted.Goals as goal

pub returns : goal.returns
returns c =
    let entries = c.in_ok-classes.classes.entries in
    let values : c.in_ok-collect.field-0.items ≡ values_of entries = search rules in
    ap seen values ∙ values_in_order entries c.args.files.now c.in_ok-classes.ensures
