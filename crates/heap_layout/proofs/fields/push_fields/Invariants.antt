use Rattle.std.proofs.Common.{◌≡◌, ◌++◌, drop}
use Rattle.heap_layout.specs.Slots.{slots_behind}
use Rattle.heap_layout.proofs.fields.push_fields.Given as goal

-- the fields so far, and those that are still put
abbrev pub invariant-loop-member : goal.invariant-loop-member
invariant-loop-member l =
    l.fields.items ++ slots_behind l.folder l.base l.class l.statics l.words (drop l.member-index l.member-items) ≡ l.fn.fields.items ++ slots_behind l.folder l.base l.class 0 l.above l.class.fields
