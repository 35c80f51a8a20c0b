use Rattle.std.proofs.Common.{ℕ, List, sym, subst, ap, ◌∙◌}
use Rattle.jmodel.specs.format.ClassFile.{ClassFile}
use Rattle.jmodel.specs.format.Pool.{MemberName}
use Rattle.objects.specs.linking.Classes.{declared_in}
use Rattle.objects.specs.linking.Resolution.{has_name, ancestry}
use Rattle.resolution.specs.Ways.{IsWay}
use Rattle.resolution.proofs.Climbing.{found_on_way}
use Rattle.resolution.proofs.resolution.Resolver.resolved_field.Goals as goal

pub returns : goal.returns
returns c =
    let cs = c.args.self.now in
    let r = c.args.r.now in
    let places = c.ancestry.result.now in
    let way : IsWay cs places (ancestry cs r.class) =
    subst (λ (ds : List ClassFile). IsWay ds places (ancestry ds r.class)) c.self.view_is
    (subst (λ (name : List ℕ). IsWay c.self.inside.ways places (ancestry c.self.inside.ways name)) (ap (λ (m : MemberName). m.class) c.r.view_is) c.ancestry.ensures) in
    c.first_field.ensures ∙ sym (found_on_way cs (has_name r) (λ (k : ClassFile). declared_in k k.fields) places (ancestry cs r.class) way)
