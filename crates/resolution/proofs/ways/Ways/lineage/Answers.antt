use Rattle.std.proofs.Common.{ℕ, List, sym, subst, ap, ◌∙◌}
use Rattle.jmodel.specs.format.ClassFile.{ClassFile}
use Rattle.objects.specs.linking.Superclasses.{lineage}
use Rattle.hierarchy.specs.Places.{place_of}
use Rattle.resolution.specs.Ways.{IsWay, entry_of}
use Rattle.resolution.proofs.Climbing.{at_name, no_lineage}
use Rattle.resolution.proofs.Tables.{lists}
use Rattle.resolution.proofs.ways.Ways.lineage.Goals as goal

pub returns : goal.returns
returns c =
    let cs = c.args.self.now in
    let ds = c.self.inside.places in
    let name = c.args.name.now in
    let table = c.self.inside.lineages.items in
    let way = subst (λ (es : List ClassFile). IsWay es (entry_of (lists table) (place_of es name)) (lineage es name)) c.self.view_is (at_name ds (lineage ds) (lists table) name c.self.invariant.to_supers (no_lineage ds name)) in
    subst (λ (ps : List ℕ). IsWay cs ps (lineage cs name)) (sym (c.entry.ensures ∙ ap (λ t. entry_of (lists t) (place_of cs name)) c.as_slice.ensures.value)) way
