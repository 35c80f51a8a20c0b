use Rattle.std.proofs.Common.{take}
use Rattle.std.specs.List.{AllZip}
use Rattle.deuce.specs.Rewritten.{IsNewOf}
use Rattle.deuce.proofs.rewriting.write_each.Given as goal

-- the class files so far have their new bytes
abbrev pub invariant-loop-file : goal.invariant-loop-file
invariant-loop-file l = AllZip (IsNewOf l.classes) (take l.file-index l.files) l.written.items
