use Rattle.std.proofs.Common.{map, sym, subst}
use Rattle.objects.specs.laws.LinkingLaw.{AreRead}
use Rattle.runner.proofs.Readying.{is_ordered}
use Rattle.run_tests.proofs.held.program.ordered.Goals as goal

pub returns : goal.returns
returns c =
    let order = is_ordered c.args.files.now (map (λ k. k.now) c.in-Ok.classes.items) c.requires.few c.requires.form c.in-Ok.ensures.order in
    subst AreRead (sym order.0) order.1.read
