use Rattle.std.proofs.Common.{◌∙◌, Option, String, string_bytes, get_or, sym, subst, arith}
use Rattle.std.specs.declared.alloc.Global.{Global}
use Rattle.std.specs.List.{All}
use Rattle.std.proofs.lemmas.List.{length-map}
use Rattle.deuce_io.specs.Files.{Files}
use Rattle.deuce.specs.Listing.{seen_texts}
use Rattle.deuce.specs.Ending.{IsRead, IsCallOfFolder, EndsInputs, EndsReads}
use Rattle.deuce.proofs.Levels.{text_in}
use Rattle.deuce.proofs.Listed.{reads_as, unread, too_many, not_read}
use Rattle.deuce.proofs.Lists.{on_err, err_at}
use Rattle.deuce.proofs.inputs.read_classes.Goals as goal

pub returns-then-len-gt-CLASSES_LIMIT : goal.returns-then-len-gt-CLASSES_LIMIT
returns-then-len-gt-CLASSES_LIMIT g c =
    let dir = c.args.dir.now in
    let files = (g.F.Folder.seen c.args.folder.now).files in
    let paths = c.in_ok-paths.paths in
    let many = c.len-then-len-gt-CLASSES_LIMIT.ensures ∙ paths.ok.0 ∙ sym (length-map paths.items string_bytes) in
    let ends = c.class_paths.ensures in
    record {
      inputs = tt;
      files_kept = ends.files_kept;
      counts = ends.counts;
      put_counts = ends.put_counts;
      cause =
          too_many dir (g.F.Folder.seen c.args.folder.now) (g.F.Folder.seen c.class_paths.new.folder) (IsCallOfFolder files dir) (seen_texts paths.items)
          c.len-then-len-gt-CLASSES_LIMIT.result c.over_limit.result c.in_ok-paths.ensures.paths many (omega (arith, c.if-len-gt-CLASSES_LIMIT.true, c.len.ensures, c.len-then-len-gt-CLASSES_LIMIT.ensures)) c.over_limit.ensures;
    }

pub returns-in_err-paths : goal.returns-in_err-paths
returns-in_err-paths g c =
    let ends = c.class_paths.ensures in
    let end = c.in_err-paths.field-0.0 in
    rw (err_at c.from_residual.result end c.from_residual.ensures.1) record {
      inputs = tt;
      files_kept = ends.files_kept;
      counts = ends.counts;
      put_counts = ends.put_counts;
      cause = unread c.args.dir.now (g.F.Folder.seen c.args.folder.now) (g.F.Folder.seen c.class_paths.new.folder) end c.in_err-paths.ensures.cause;
    }

pub read_each-requires : goal.read_each-requires
read_each-requires g c =
    let paths = c.in_ok-paths.paths.items in
    let read : All (λ (path : String Global). IsRead (g.F.Folder.seen c.class_paths.new.folder).files c.args.dir.now (string_bytes path)) paths =
    λ k d lt. (c.in_ok-paths.ensures.named k d lt, λ told is. let held = c.in_ok-paths.ensures.paths told (sym c.class_paths.ensures.files_kept ∙ is) in ((held.each (string_bytes (get_or paths k d))).0 (text_in paths k d lt)).0) in
    rw c.as_slice.ensures.value read

pub returns-clause-cause : goal.returns-clause-cause
returns-clause-cause g c =
    let dir = c.args.dir.now in
    let files = (g.F.Folder.seen c.args.folder.now).files in
    let listed = (g.F.Folder.seen c.class_paths.new.folder).files in
    let first = g.F.Folder.seen c.args.folder.now in
    let before = g.F.Folder.seen c.class_paths.new.folder in
    let now = g.F.Folder.seen c.read_each.new.folder in
    on_err c.read_each.result (EndsReads (IsCallOfFolder listed dir) before now) (EndsInputs (IsCallOfFolder files dir) dir first now)
    (λ e h. not_read dir first now (IsCallOfFolder files dir) e (reads_as (IsCallOfFolder listed dir) (IsCallOfFolder files dir) first before now c.class_paths.ensures.counts
    (λ call asked. subst (λ (f : Option Files). IsCallOfFolder f dir call) c.class_paths.ensures.files_kept asked) e h)) c.read_each.ensures.cause
