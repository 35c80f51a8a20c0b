use Rattle.std.proofs.Common.{List, ◌∙◌, subst}
use Rattle.std.specs.Prelude.{IsPermutation}
use Rattle.std.proofs.lemmas.Result.{on_ok_weaker}
use Rattle.session.specs.declared.record.Record.{Record}
use Rattle.driver.proofs.journal.Records.add_phase.Goals as goal

pub returns-clause-placed : goal.returns-clause-placed
returns-clause-placed c =
    let sorted = c.sort_placed.new.placed.items in
    let moved = subst (λ (rs : List Record). IsPermutation rs sorted) c.in_ok-append.ensures.items c.in_ok-sort_placed.ensures.moved in
    on_ok_weaker c.add_unplaced.result
    (λ _. (sorted, moved, c.in_ok-sort_placed.ensures.sorted, c.add_unplaced.ensures.placed ∙ c.in_ok-append-2.ensures.items)) c.add_unplaced.ensures.unplaced
