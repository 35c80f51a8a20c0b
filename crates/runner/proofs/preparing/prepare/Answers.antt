use Rattle.objects.specs.linking.Classes.{in_order}
use Rattle.runner.proofs.Readying.{ready}
use Rattle.runner.proofs.preparing.prepare.Goals as goal

pub rewrite_program-requires-clause-source : goal.rewrite_program-requires-clause-source
rewrite_program-requires-clause-source c = c.in_ok-instrumented.ensures.linked.source

pub returns-clause-ready : goal.returns-clause-ready
returns-clause-ready c =
    let folder = c.in_ok-instrumented.ensures.linked in
    ready (in_order c.args.files.now) c.in_ok-instrumented.instrumented.original c.in_ok-rewritten.rewritten folder.read folder.linked c.in_ok-rewritten.ensures
