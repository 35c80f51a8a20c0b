use Rattle.std.proofs.Common.{◌≡◌, rules, ap, ◌∙◌}
use Rattle.hierarchy.proofs.InOrder.{texts}
use Rattle.heap_layout.proofs.texts.in_text_order.Goals as goal

pub returns : goal.returns
returns c =
    let keys : c.in_ok-collect.field-0.items ≡ c.in_ok-set.set.keys = search rules in
    ap texts keys ∙ c.in_ok-set.ensures
