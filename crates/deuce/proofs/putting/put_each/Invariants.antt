-- The files so far were put.
use Rattle.std.proofs.Common.{◌≡◌, ◌≤◌, length, take}
use Rattle.std.specs.Prelude.{option_map}
use Rattle.deuce.specs.Folder.{with_files}
use Rattle.deuce.specs.Ending.{seen_files}
use Rattle.deuce.proofs.putting.put_each.Given as goal

abbrev pub invariant-loop-file : goal.invariant-loop-file
invariant-loop-file g l = record {
  put : (g.F.Folder.seen l.folder).files ≡ option_map (with_files (take (length l.yielded) (seen_files l.fn.files.items))) (g.F.Folder.seen l.fn.folder).files;
  put_counts : (g.F.Folder.seen l.fn.folder).put_faults ≤ (g.F.Folder.seen l.folder).put_faults;
}
