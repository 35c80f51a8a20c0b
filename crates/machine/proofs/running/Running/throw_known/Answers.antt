use Rattle.std.proofs.Common.{◌≡◌, Some, rules}
use Rattle.objects.specs.semantics.Program.{row_at}
use Rattle.machine.proofs.running.Running.throw_known.Goals as goal

pub returns-in-Some-clause-run : goal.returns-in-Some-clause-run
returns-in-Some-clause-run c = λ B w r.
    let e : row_at c.args.program.now c.args.of ≡ Some c.in-Some.field-0.now = first_of (cc, search rules) in
    rw e (c.throw.ensures.run B w r)
