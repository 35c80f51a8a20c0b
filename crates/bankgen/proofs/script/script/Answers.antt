use Rattle.std.proofs.Common.{◌∙◌}
use Rattle.std.specs.Fmt.{decimal}
use Rattle.bankgen.proofs.Ended.{script_is}
use Rattle.bankgen.proofs.script.script.Goals as goal

pub returns : goal.returns
returns c =
    let p = c.in_ok-push_lanes.ensures c.args.seed c.args.accounts c.args.calls (c.as_slice.ensures.value ∙ c.in_ok-drawn.ensures) in
    script_is (decimal c.args.lanes) _ _ _ _ (c.in_ok-text.ensures ∙ c.as_bytes.ensures.value ∙ c.in_ok-head.ensures.ok) p c.in_ok-extend_from_slice.ensures.ok
