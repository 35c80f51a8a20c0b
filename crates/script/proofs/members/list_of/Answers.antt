use Rattle.std.proofs.Common.{◌≡◌, ◌∙◌, Some, List, ap, sym}
use Rattle.std.specs.Prelude.{map}
use Rattle.serde_json.specs.Data.{Data, array}
use Rattle.script.specs.declared.tree.Tree.{Tree}
use Rattle.script.specs.Json.{as_list}
use Rattle.script.specs.Seen.{seen, items_seen}
use Rattle.script.proofs.Trees.{seen-List, items_are}
use Rattle.script.proofs.members.list_of.Goals as goal

pub returns-in-List : goal.returns-in-List
returns-in-List c =
    let vs = c.in-List.items.items in
    let is_seen : seen c.args.value.now ≡ array (items_seen vs) = ap seen c.in-List.is ∙ seen-List c.in-List.items in
    ap (λ (xs : List Tree). Some (map seen xs)) c.as_slice.ensures.value
    ∙ ap (λ (ds : List Data). Some ds) (sym (items_are (map seen vs)))
    ∙ ap as_list (sym is_seen)
