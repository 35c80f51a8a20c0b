use Rattle.std.proofs.Common.{ℕ, List, sym, ap, ◌∙◌}
use Rattle.std.specs.Prelude.{bytes_eq, slice_get}
use Rattle.std.specs.List.{list_any}
use Rattle.objects.specs.linking.Members.{own_name}
use Rattle.jmodel.specs.format.ClassFile.{ClassFile}
use Rattle.objects.specs.linking.Resolution.{above}
use Rattle.resolution.specs.Ways.{some_class}
use Rattle.resolution.proofs.Climbing.{any_on_way}
use Rattle.resolution.proofs.ways.Ways.is_above_itself.Goals as goal

pub returns : goal.returns
returns c =
    let cs = c.args.self.now in
    c.any_named.ensures ∙ ap (λ (n : List ℕ). list_any (λ (p : ℕ). list_any (λ (d : ClassFile). bytes_eq (own_name d) n) (some_class (slice_get cs p))) c.above.result.now) c.own_name.ensures
    ∙ sym (any_on_way cs (λ (d : ClassFile). bytes_eq (own_name d) (own_name c.args.class.now)) c.above.result.now (above cs c.args.class.now) c.above.ensures)
