use Rattle.std.proofs.Common.{List, sym, subst, ◌∙◌}
use Rattle.jmodel.specs.format.ClassFile.{ClassFile}
use Rattle.objects.specs.linking.Superclasses.{lineage}
use Rattle.objects.specs.linking.Classes.{declared_in}
use Rattle.objects.specs.linking.Resolution.{is_selected_by}
use Rattle.resolution.specs.Ways.{IsWay}
use Rattle.resolution.proofs.Climbing.{found_on_way}
use Rattle.resolution.proofs.resolution.Resolver.selected_from.Goals as goal

pub returns : goal.returns
returns c =
    let cs = c.args.self.now in
    let r = c.args.r.now in
    let places = c.lineage.result.now in
    let name = c.args.class.now in
    let way : IsWay cs places (lineage cs name) = subst (λ (ds : List ClassFile). IsWay ds places (lineage ds name)) c.self.view_is c.lineage.ensures in
    c.first_selected.ensures ∙ sym (found_on_way cs (is_selected_by r) (λ (k : ClassFile). declared_in k k.methods) places (lineage cs name) way)
