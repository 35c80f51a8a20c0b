use Rattle.std.proofs.Common.{◌≡◌, ◌≤◌, length, take}
use Rattle.serde_json.specs.Data.{no_members}
use Rattle.serde_json.specs.Find.{get_member}
use Rattle.script.specs.Seen.{members_seen}
use Rattle.script.proofs.members.last_of.Given as goal

-- none behind has the key
abbrev pub invariant-loop-left : goal.invariant-loop-left
invariant-loop-left l = (get_member l.key (members_seen l.members no_members) ≡ get_member l.key (members_seen (take l.left l.members) no_members)) × (l.left ≤ length l.members)

abbrev pub decreases-loop-left : goal.decreases-loop-left
decreases-loop-left l = l.left
