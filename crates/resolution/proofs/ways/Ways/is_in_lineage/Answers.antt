use Rattle.std.proofs.Common.{sym, ◌∙◌}
use Rattle.std.specs.Prelude.{bytes_eq}
use Rattle.objects.specs.linking.Members.{own_name}
use Rattle.objects.specs.linking.Superclasses.{lineage}
use Rattle.jmodel.specs.format.ClassFile.{ClassFile}
use Rattle.resolution.proofs.Climbing.{any_on_way}
use Rattle.resolution.proofs.ways.Ways.is_in_lineage.Goals as goal

pub returns : goal.returns
returns c =
    let cs = c.args.self.now in
    c.any_named.ensures ∙ sym (any_on_way cs (λ (d : ClassFile). bytes_eq (own_name d) c.args.name.now) c.lineage.result.now (lineage cs c.args.class.now) c.lineage.ensures)
