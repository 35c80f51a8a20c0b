use Rattle.std.proofs.Common.{Bor, map, ap, ◌∙◌}
use Rattle.std.specs.Prelude.{position}
use Rattle.jmodel.specs.format.Pool.{MemberName}
use Rattle.objects.specs.linking.Classes.{Declared, full_name}
use Rattle.objects.specs.linking.Decoding.{is_method}
use Rattle.hierarchy.specs.Names.{named, number_of}
use Rattle.linking.specs.Numbering.{Numbered}
use Rattle.linking.proofs.Lookups.{method_there}
use Rattle.linking.proofs.numbering.Numbering.method_number.Goals as goal

pub returns : goal.returns
returns c =
    let k = full_name c.args.method.now in
    let names = map full_name (map (λ (m : Bor Declared). m.now) c.self.inside.methods.now) in
    let same = ap (λ (r : MemberName). named r.class r.name r.descriptor) c.name.view_is ∙ c.reference-name.ensures in
    c.get.ensures ∙ ap (number_of c.self.inside.method_numbers) same ∙ method_there names c.self.inside.method_numbers c.self.invariant.numbered_methods k
    ∙ ap (λ (m : Numbered). position (is_method k) m.methods) c.self.view_is
