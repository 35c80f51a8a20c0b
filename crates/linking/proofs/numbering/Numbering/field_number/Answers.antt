use Rattle.std.proofs.Common.{ap, ◌∙◌}
use Rattle.std.specs.Prelude.{position}
use Rattle.jmodel.specs.format.Pool.{MemberName}
use Rattle.objects.specs.linking.Classes.{full_name}
use Rattle.objects.specs.linking.Decoding.{is_field_of}
use Rattle.hierarchy.specs.Names.{named, number_of}
use Rattle.linking.specs.Numbering.{Numbered}
use Rattle.linking.proofs.Lookups.{field_there}
use Rattle.linking.proofs.numbering.Numbering.field_number.Goals as goal

pub returns : goal.returns
returns c =
    let k = full_name c.args.field.now in
    let same = ap (λ (r : MemberName). named r.class r.name r.descriptor) c.name.view_is ∙ c.reference-name.ensures in
    c.get.ensures ∙ ap (number_of c.self.inside.field_numbers) same ∙ field_there c.self.inside.layout.now.fields.items c.self.inside.field_numbers c.self.invariant.numbered_fields k
    ∙ ap (λ (m : Numbered). position (is_field_of k) m.fields) c.self.view_is
