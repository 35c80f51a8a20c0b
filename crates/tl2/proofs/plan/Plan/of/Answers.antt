use Rattle.std.proofs.Common.{◌≡◌, rules}
use Rattle.std.specs.Map.{values_of}
use Rattle.tl2.proofs.Plans.{planned}
use Rattle.tl2.proofs.plan.Plan.of.Goals as goal

pub returns : goal.returns
returns c =
    let last = c.mark_read.new.stripes in
    let values : c.in_ok-collect.field-0.items ≡ values_of last.entries = search rules in
    planned _ c.args.reads.now c.in_ok-stripes.stripes last c.in_ok-collect.field-0.items _ c.in_ok-stripes.ensures c.in_ok-read_elsewhere.ensures.marks c.in_ok-read_elsewhere.ensures.elsewhere
    c.values.ensures.ordered values
