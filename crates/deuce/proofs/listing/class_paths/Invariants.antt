-- The levels so far were listed.
use Rattle.std.proofs.Common.{◌≡◌, ◌≤◌}
use Rattle.std.specs.Option.{ForSome}
use Rattle.std.specs.List.{All}
use Rattle.deuce.specs.Folder.{IsClassFileName}
use Rattle.deuce.specs.Listing.{seen_texts, AreFound}
use Rattle.deuce.proofs.listing.class_paths.Given as goal

abbrev pub invariant-levels : goal.invariant-levels
invariant-levels g l = record {
  found : ForSome (g.F.Folder.seen l.fn.folder).files (λ told. AreFound told l.dir l.counter (seen_texts l.classes.keys) (seen_texts l.level.items));
  named : All IsClassFileName (seen_texts l.classes.keys);
  kept : (g.F.Folder.seen l.folder).files ≡ (g.F.Folder.seen l.fn.folder).files;
  counts : (g.F.Folder.seen l.fn.folder).faults ≤ (g.F.Folder.seen l.folder).faults;
  put_counts : (g.F.Folder.seen l.fn.folder).put_faults ≤ (g.F.Folder.seen l.folder).put_faults;
}
