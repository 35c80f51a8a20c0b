use Rattle.std.proofs.Common.{Option, subst, ap, ◌∙◌}
use Rattle.objects.specs.semantics.Program.{Program}
use Rattle.hierarchy.specs.Built.{Builds}
use Rattle.hierarchy.proofs.InOrder.{seen}
use Rattle.linking.specs.Relinking.{program_over}
use Rattle.linking.proofs.Relinked.{program_is}
use Rattle.linking.proofs.rebuild.rebuild.Goals as goal

pub returns : goal.returns
returns c =
    let P = c.args.original.now in
    let os = seen c.args.originals.now in
    let cs = seen c.args.classes.now in
    let whole = ap (program_over os cs) (c.as_slice.ensures.value ∙ c.in_ok-methods.ensures) ∙ program_is P cs os c.requires in
    subst (λ (o : Option Program). Builds (λ p. p) c.program_of.result o) whole c.program_of.ensures
