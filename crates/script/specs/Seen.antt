-- How what the code keeps of JSON is seen.
use Rattle.std.specs.Prelude.{List, [], ◌∷◌, map, String, string_bytes}
use Rattle.std.specs.Borrow.{Bor}
use Rattle.std.specs.declared.alloc.Global.{Global}
use Rattle.serde_json.specs.Data.{Data, null, boolean, number, string, array, object, Items, Members, no_members, put}
use Rattle.serde_json.specs.View.{number_view, items_of}
use Rattle.script.specs.declared.tree.Tree.{Tree, fold-Tree}
use Rattle.script.specs.declared.tree.Tree.TheOpen.{Tree-F}
use Rattle.script.specs.declared.lists.LaneLists.{LaneLists}
use Rattle.script.specs.declared.lists.PhaseLists.{PhaseLists}
use Rattle.script.specs.declared.lists.PhaseLists.TheVariants as phase
use Rattle.script.specs.Script.{Listed, InLanes, InBag}

-- members go in one after another, so of several with one key the last counts
abbrev pub put_each : List (String Global × Data) → Members → Members
put_each [] found = found
put_each (m ∷ ms) found = put_each ms (put (string_bytes m.0) m.1 found)

-- one level, with each value inside already seen as its data
abbrev pub seen_step : Tree-F Data → Data
seen_step Tree-F.Null = null
seen_step (Tree-F.Truth b) = boolean b
seen_step (Tree-F.Number x) = number (number_view x)
seen_step (Tree-F.Text s) = string (string_bytes s)
seen_step (Tree-F.List v) = array (items_of v.items)
seen_step (Tree-F.Object v) = object (put_each v.items no_members)

abbrev pub seen : Tree → Data
seen = fold-Tree Data seen_step

abbrev pub items_seen : List Tree → Items
items_seen vs = items_of (map seen vs)

abbrev pub members_seen : List (String Global × Tree) → Members → Members
members_seen ms found = put_each (map (λ m. (m.0, seen m.1)) ms) found

abbrev pub values : Bor (List Tree) → List Data
values vs = map seen vs.now

abbrev pub lane_lists : LaneLists → List (List Data)
lane_lists p = map values p.lanes.items

abbrev pub lists : PhaseLists → Listed
lists (phase.Lanes ls) = InLanes (lane_lists ls)
lists (phase.Bag cs) = InBag (values cs)
