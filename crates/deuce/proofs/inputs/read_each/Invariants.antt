-- The class files so far were read.
use Rattle.std.proofs.Common.{◌≡◌, ◌≤◌, take}
use Rattle.std.specs.List.{AllByRecursion}
use Rattle.deuce.specs.Listing.{seen_texts}
use Rattle.deuce.specs.Ending.{IsClassInput, paths_of}
use Rattle.deuce.proofs.inputs.read_each.Given as goal

abbrev pub invariant-loop-relative : goal.invariant-loop-relative
invariant-loop-relative g l = record {
  paths_are : paths_of l.inputs.items ≡ take l.relative-index (seen_texts l.paths);
  each : AllByRecursion (IsClassInput (g.F.Folder.seen l.fn.folder).files l.dir) l.inputs.items;
  kept : (g.F.Folder.seen l.folder).files ≡ (g.F.Folder.seen l.fn.folder).files;
  counts : (g.F.Folder.seen l.fn.folder).faults ≤ (g.F.Folder.seen l.folder).faults;
  put_counts : (g.F.Folder.seen l.fn.folder).put_faults ≤ (g.F.Folder.seen l.folder).put_faults;
}
