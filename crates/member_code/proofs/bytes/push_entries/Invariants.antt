use Rattle.std.proofs.Common.{◌≡◌, ◌++◌, take}
use Rattle.std.specs.List.{flat_map}
use Rattle.jmodel.specs.format.ClassFile.{handler}
use Rattle.member_code.proofs.bytes.push_entries.Given as goal

-- the entries so far
abbrev pub invariant-loop-entry : goal.invariant-loop-entry
invariant-loop-entry l = l.bytes ≡ l.initial.bytes ++ flat_map handler (take l.entry-index l.entries)
