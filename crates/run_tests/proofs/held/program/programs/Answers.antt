use Rattle.std.proofs.Common.{map}
use Rattle.objects.proofs.SourceProof.{source_law}
use Rattle.runner.proofs.Readying.{ready}
use Rattle.run_tests.proofs.held.program.programs.Goals as goal

pub type_all-requires : goal.type_all-requires
type_all-requires c = record { source = source_law (map (λ k. k.now) c.args.classes.now) c.in-Ok.original c.requires.read c.in-Ok.ensures }

pub rewrite_program-requires-clause-source : goal.rewrite_program-requires-clause-source
rewrite_program-requires-clause-source c = source_law (map (λ k. k.now) c.args.classes.now) c.in-Ok.original c.requires.read c.in-Ok.ensures

pub returns-clause-ready : goal.returns-clause-ready
returns-clause-ready c = ready (map (λ k. k.now) c.args.classes.now) c.in-Ok.original c.in_ok-rewritten.rewritten c.requires.read c.in-Ok.ensures c.in_ok-rewritten.ensures
