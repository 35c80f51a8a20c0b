use Rattle.std.proofs.Common.{◌∙◌, ◌-◌, Some, sym, ap}
use Rattle.std.specs.Cmp.{booleans_Decides}
use Rattle.verifier.proofs.Afters.{run_step, run_stays}
use Rattle.verifier.proofs.search.run_after.Goals as goal

pub returns-then-next-after : goal.returns-then-next-after
returns-then-next-after c =
    let e = sym c.next_local.ensures ∙ c.in-Some.is ∙ ap (λ b. Some b) ((booleans_Decides c.in-Some.next c.loop.after).0 c.if-next-after.true) in
    sym (c.loop.invariant ∙ run_stays c.loop.after c.args.item.now (c.args.count - c.loop.counter) e)

pub loop-preserved : goal.loop-preserved
loop-preserved c = c.loop.invariant ∙ run_step c.loop.after c.in-Some.next c.args.item.now c.args.count c.loop.counter (sym c.next_local.ensures ∙ c.in-Some.is) c.loop-test.true
