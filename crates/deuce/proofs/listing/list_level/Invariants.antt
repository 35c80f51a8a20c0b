-- The folders so far were listed.
use Rattle.std.proofs.Common.{◌≡◌, ◌≤◌, take}
use Rattle.std.specs.Option.{ForSome}
use Rattle.std.specs.List.{All}
use Rattle.deuce.specs.Folder.{IsClassFileName}
use Rattle.deuce.specs.Listing.{seen_texts}
use Rattle.deuce.proofs.Levels.{AreTaken}
use Rattle.deuce.proofs.listing.list_level.Given as goal

abbrev pub invariant-loop-relative : goal.invariant-loop-relative
invariant-loop-relative g l = record {
  taken : ForSome (g.F.Folder.seen l.fn.folder).files (λ told. AreTaken told l.dir (take l.relative-index (seen_texts l.level)) (seen_texts l.fn.classes.keys) (seen_texts l.classes.keys) (seen_texts l.next.items));
  named : All IsClassFileName (seen_texts l.fn.classes.keys) → All IsClassFileName (seen_texts l.classes.keys);
  kept : (g.F.Folder.seen l.folder).files ≡ (g.F.Folder.seen l.fn.folder).files;
  counts : (g.F.Folder.seen l.fn.folder).faults ≤ (g.F.Folder.seen l.folder).faults;
  put_counts : (g.F.Folder.seen l.fn.folder).put_faults ≤ (g.F.Folder.seen l.folder).put_faults;
}
