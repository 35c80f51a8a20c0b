use Rattle.verifier.proofs.Depths.{described_ok}
use Rattle.verifier.proofs.merging.join_described.Goals as goal

pub returns : goal.returns
returns c =
    described_ok c.args.program.now c.described.result c.in_ok-name.name c.without_last-a.result.now c.without_last-b.result.now c.rest.result.now c.rest-2.result.now c.args.a.now c.args.b.now
    c.without_last-a.ensures c.rest.ensures c.without_last-b.ensures c.rest-2.ensures c.in_ok-name.ensures c.described.ensures
