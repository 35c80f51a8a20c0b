use Rattle.std.proofs.Common.{ap, ◌∙◌}
use Rattle.jmodel.specs.format.Pool.{MemberName}
use Rattle.objects.specs.semantics.Program.{Program}
use Rattle.objects.specs.rewriting.Relinking.{is_of}
use Rattle.hierarchy.specs.Names.{named, has}
use Rattle.linking.proofs.RewrittenMembers.{is_there}
use Rattle.linking.proofs.rewritten.Counts.has.Goals as goal

pub returns : goal.returns
returns c =
    let same = ap (λ (r : MemberName). named r.class r.name r.descriptor) c.name.view_is ∙ c.reference-name.ensures in
    c.contains.ensures ∙ ap (has c.self.inside.names) same ∙ is_there c.self.inside.program.now c.self.inside.names c.args.method.now c.self.invariant.are_names ∙ ap (λ (P : Program). is_of P c.args.method.now) c.self.view_is
