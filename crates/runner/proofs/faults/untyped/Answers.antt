use Rattle.program_typing.proofs.Untypable.{inside}
use Rattle.runner.proofs.Placed.{coded_some}
use Rattle.runner.proofs.faults.untyped.Goals as goal

pub place_of-requires-clause-there : goal.place_of-requires-clause-there
place_of-requires-clause-there c =
    let f = c.requires.first in
    record { method = f.method; there = f.there; inside = inside c.args.program.now f.method c.args.place f.untypable (coded_some f.method f.code) }
