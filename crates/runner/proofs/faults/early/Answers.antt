use Rattle.runner.proofs.Placed.{early_inside}
use Rattle.runner.proofs.faults.early.Goals as goal

pub place_of-requires-clause-there : goal.place_of-requires-clause-there
place_of-requires-clause-there c =
    let f = c.requires.first.at in
    record { method = f.method; there = f.there; inside = early_inside c.args.program.now f.method f.table c.args.place f.early }
