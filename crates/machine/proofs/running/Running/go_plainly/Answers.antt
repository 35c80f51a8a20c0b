use Rattle.std.proofs.Common.{◌≡◌, Some}
use Rattle.std.proofs.lemmas.Result.{err_from_is_err_and}
use Rattle.objects.specs.semantics.Program.{method_at}
use Rattle.machine.specs.Running.{at}
use Rattle.machine.proofs.Ways.{way_here}
use Rattle.machine.proofs.running.Running.go_plainly.Goals as goal

pub returns-in_err-make_room-clause-run : goal.returns-in_err-make_room-clause-run
returns-in_err-make_room-clause-run c = λ P k.
    let p = err_from_is_err_and c.from_residual.result c.from_residual.ensures.1 in
    rw (p.1, p.2) (record { frame = c.args.self.now.frame; comes = λ B w r. way_here P B (at c.args.self.now w r); does = λ fs. tt })

pub returns-clause-run : goal.returns-clause-run
returns-clause-run c = λ P k.
    let entered : method_at P c.replace-frame.result.method ≡ Some c.args.method.now = rw (c.replace-frame.ensures.value, c.make_room.ensures) k in
    rw (c.replace-frame.ensures.value, c.make_room.ensures) at (c.go_in-flow.ensures.run P entered)
