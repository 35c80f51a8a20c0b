use Rattle.std.proofs.Common.{ℕ, List, get_or, sym, ap, ◌∙◌, subst, arith}
use Rattle.std.proofs.lemmas.List.{get_or-replicate}
use Rattle.std.proofs.lemmas.List.Edits.{get_or-remove_below}
use Rattle.session.specs.Rule.{IsState}
use Rattle.session.proofs.Marked.{explained}
use Rattle.driver.specs.Memory.{used_at_first}
use Rattle.driver.specs.declared.table.Start.{Start}
use Rattle.run_tests.proofs.Fresh.{start_of}
use Rattle.run_tests.proofs.held.lanes.play_over.Goals as goal

pub start_lanes-requires-clause-pass : goal.start_lanes-requires-clause-pass
start_lanes-requires-clause-pass g c = (0, c.in_ok-shared.ensures.pass.0)

pub start_lanes-requires-clause-room : goal.start_lanes-requires-clause-room
start_lanes-requires-clause-room g c = let unused = c.in_ok-shared.ensures.pass.1 in record { fresh = omega (arith, unused.fresh); few = omega (arith, unused.fresh); ticks = omega (arith, unused.ticks) }

pub start_lanes-requires-clause-used : goal.start_lanes-requires-clause-used
start_lanes-requires-clause-used g c = λ lane low. get_or-replicate 16 lane 0 0 low ∙ sym (c.in_ok-shared.ensures.unused lane low)

pub both-first-requires-clause-states : goal.both-first-requires-clause-states
both-first-requires-clause-states g c κs within =
    let P = c.args.runner.original.now in
    let limits = c.args.runner.limits in
    let σ = c.requires.stands.0 in
    let Words : List ℕ → Type 0 = λ words. IsState P limits.size words (used_at_first c.args.memory.used) σ in
    let Used : ℕ → Type 0 = λ used. IsState P limits.size g.K.Keeping.words (used_at_first used) σ in
    record {
      state = σ;
      stands = subst Used c.requires.used (subst Words c.requires.words c.requires.stands.1);
      explained = λ e r. explained P c.args.runner.rewritten.now limits.size limits.budget limits.attempts e (c.requires.ruled e r);
    }

pub both-first-requires-clause-lanes : goal.both-first-requires-clause-lanes
both-first-requires-clause-lanes g c κs within =
    let t = c.in_ok-shared.shared.table.shared.table_id in
    let starts = c.in_ok-starts.starts.items in
    let are = c.in_ok-starts.ensures.starts 0 c.in_ok-shared.ensures.pass.0 in
    let len = c.in_ok-starts.ensures.len in
    let first = c.remove-one.result in
    let is = c.remove-one.ensures.value ∙ ap (λ (xs : List Start). get_or xs 0 first) c.remove-two.ensures.items ∙ get_or-remove_below starts 1 first 0 (omega arith) (omega (arith, len)) in
    let one = start_of t _ 0 starts first are (omega (arith, len)) is in
    let two = start_of t _ 1 starts c.remove-two.result are (omega (arith, len)) c.remove-two.ensures.value in
    (let l = one.0 in omega (arith, l), let l = two.0 in omega (arith, l))

pub both-first-requires-clause-used : goal.both-first-requires-clause-used
both-first-requires-clause-used g c κs within =
    let t = c.in_ok-shared.shared.table.shared.table_id in
    let starts = c.in_ok-starts.starts.items in
    let are = c.in_ok-starts.ensures.starts 0 c.in_ok-shared.ensures.pass.0 in
    let len = c.in_ok-starts.ensures.len in
    let first = c.remove-one.result in
    let is = c.remove-one.ensures.value ∙ ap (λ (xs : List Start). get_or xs 0 first) c.remove-two.ensures.items ∙ get_or-remove_below starts 1 first 0 (omega arith) (omega (arith, len)) in
    let one = start_of t _ 0 starts first are (omega (arith, len)) is in
    let two = start_of t _ 1 starts c.remove-two.result are (omega (arith, len)) c.remove-two.ensures.value in
    (one.1, two.1)

pub both-first-requires-clause-one : goal.both-first-requires-clause-one
both-first-requires-clause-one g c κs within =
    let t = c.in_ok-shared.shared.table.shared.table_id in
    let starts = c.in_ok-starts.starts.items in
    let are = c.in_ok-starts.ensures.starts 0 c.in_ok-shared.ensures.pass.0 in
    let len = c.in_ok-starts.ensures.len in
    let first = c.remove-one.result in
    let is = c.remove-one.ensures.value ∙ ap (λ (xs : List Start). get_or xs 0 first) c.remove-two.ensures.items ∙ get_or-remove_below starts 1 first 0 (omega arith) (omega (arith, len)) in
    let one = start_of t _ 0 starts first are (omega (arith, len)) is in
    one.2

pub both-first-requires-clause-two : goal.both-first-requires-clause-two
both-first-requires-clause-two g c κs within =
    let t = c.in_ok-shared.shared.table.shared.table_id in
    let starts = c.in_ok-starts.starts.items in
    let are = c.in_ok-starts.ensures.starts 0 c.in_ok-shared.ensures.pass.0 in
    let len = c.in_ok-starts.ensures.len in
    let two = start_of t _ 1 starts c.remove-two.result are (omega (arith, len)) c.remove-two.ensures.value in
    two.2
