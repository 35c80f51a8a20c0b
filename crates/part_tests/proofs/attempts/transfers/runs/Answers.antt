use Rattle.std.proofs.Common.{[], reverse, sym}
use Rattle.std.proofs.lemmas.List.{reverse-reverse}
use Rattle.tx_table.specs.Passes.{book}
use Rattle.part_tests.proofs.attempts.transfers.runs.Goals as goal

pub moves_many-done-requires-clause-stands : goal.moves_many-done-requires-clause-stands
moves_many-done-requires-clause-stands c =
    let es = (book c.args.lane.pass).entries in
    (reverse es, _, [], [], c.new-tx.ensures.stands (reverse es) (sym (reverse-reverse es)) (λ t b none. absurd none))
