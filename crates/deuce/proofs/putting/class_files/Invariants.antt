-- The class files so far have their new files.
use Rattle.std.proofs.Common.{◌≡◌, length, take}
use Rattle.deuce.specs.Folder.{placed_in}
use Rattle.deuce.specs.Ending.{paths_of, seen_files}
use Rattle.deuce.proofs.putting.class_files.Given as goal

abbrev pub invariant-loop-input : goal.invariant-loop-input
invariant-loop-input l = seen_files l.files.items ≡ take (length l.yielded) (placed_in l.fn.out (paths_of l.fn.inputs) l.fn.news.items)
