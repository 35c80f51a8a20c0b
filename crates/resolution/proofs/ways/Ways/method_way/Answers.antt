use Rattle.std.proofs.Common.{ℕ, List, sym, subst, ap, ◌∙◌}
use Rattle.jmodel.specs.format.ClassFile.{ClassFile}
use Rattle.objects.specs.linking.Resolution.{method_way}
use Rattle.hierarchy.specs.Places.{place_of}
use Rattle.resolution.specs.Ways.{IsWay, entry_of}
use Rattle.resolution.proofs.Climbing.{at_name, no_method_way}
use Rattle.resolution.proofs.Tables.{lists}
use Rattle.resolution.proofs.ways.Ways.method_way.Goals as goal

pub returns : goal.returns
returns c =
    let cs = c.args.self.now in
    let ds = c.self.inside.places in
    let name = c.args.name.now in
    let table = c.self.inside.method_ways.items in
    let way = subst (λ (es : List ClassFile). IsWay es (entry_of (lists table) (place_of es name)) (method_way es name)) c.self.view_is (at_name ds (method_way ds) (lists table) name c.self.invariant.to_methods (no_method_way ds name)) in
    subst (λ (ps : List ℕ). IsWay cs ps (method_way cs name)) (sym (c.entry.ensures ∙ ap (λ t. entry_of (lists t) (place_of cs name)) c.as_slice.ensures.value)) way
