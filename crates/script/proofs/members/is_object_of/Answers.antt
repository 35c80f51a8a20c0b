use Rattle.std.proofs.Common.{◌≡◌, List, ◌∙◌, ap, sym}
use Rattle.std.specs.Prelude.{map, bytes_eq, string_bytes}
use Rattle.std.specs.List.{list_all, list_any}
use Rattle.serde_json.specs.Data.{Data, object, no_members}
use Rattle.serde_json.specs.Find.{as_object}
use Rattle.script.specs.Json.{if_only}
use Rattle.script.specs.Seen.{seen, members_seen}
use Rattle.script.proofs.Trees.{Entry, seen-Object, only_seen}
use Rattle.script.proofs.members.is_object_of.Goals as goal

pub returns-in-Object : goal.returns-in-Object
returns-in-Object c =
    let keys = c.args.keys.now in
    let ms = c.in-Object.members.items in
    let is_seen : seen c.args.value.now ≡ object (members_seen ms no_members) = ap seen c.in-Object.is ∙ seen-Object c.in-Object.members in
    c.has_only.ensures
    ∙ ap (λ (es : List Entry). list_all (λ m. list_any (λ k. bytes_eq (string_bytes m.0) k.now) keys) es) c.as_slice.ensures.value
    ∙ sym (only_seen keys ms)
    ∙ ap (λ (d : Data). if_only (map (λ k. k.now) keys) (as_object d)) (sym is_seen)
