use Rattle.std.proofs.Common.{◌<◌, suc, List, length, IfSome, sym, subst, ap, ◌∙◌}
use Rattle.std.specs.Prelude.{bytes_eq, option_map}
use Rattle.objects.specs.semantics.Program.{Row}
use Rattle.objects.specs.linking.Layout.{type_number}
use Rattle.linking.specs.Numbering.{Numbered}
use Rattle.linking.proofs.LastBytes.{found_inside}
use Rattle.linking.proofs.Lookups.{type_there}
use Rattle.linking.proofs.numbering.Numbering.type_number.Goals as goal

pub from_one-requires : goal.from_one-requires
from_one-requires c =
    let types = c.self.inside.layout.now.types.items in
    let there = c.get-number.ensures ∙ type_there types c.self.inside.type_numbers c.self.invariant.numbered_types c.args.name.now in
    subst (λ (l : List Row). IfSome c.get-number.result (λ n. n < length l)) (sym c.as_slice.ensures.value) (found_inside (λ (r : Row). bytes_eq r.name c.args.name.now) types c.get-number.result there)

pub returns : goal.returns
returns c =
    let types = c.self.inside.layout.now.types.items in
    let there = c.get-number.ensures ∙ type_there types c.self.inside.type_numbers c.self.invariant.numbered_types c.args.name.now in
    c.from_one.ensures ∙ ap (option_map suc) there ∙ ap (λ (m : Numbered). type_number m.types c.args.name.now) c.self.view_is
