use Rattle.std.proofs.Common.{◌≡◌, ◌∙◌, ap, get_or, sym, subst, arith}
use Rattle.std.specs.Prelude.{Option, string_bytes}
use Rattle.std.proofs.lemmas.List.{length-map, take_all}
use Rattle.deuce_io.specs.Files.{Files}
use Rattle.deuce.specs.Ending.{IsClassInput, IsCallOfFolder, IsRead}
use Rattle.deuce.specs.Listing.{seen_texts}
use Rattle.deuce.specs.declared.inputs.InputEnd.TheVariants.{NoMemory}
use Rattle.deuce.proofs.Listed.{no_less_since, read_more, reads_as}
use Rattle.deuce.proofs.Lists.{all_pushed, err_at}
use Rattle.deuce.proofs.inputs.read_each.Goals as goal

pub read_class_file-requires : goal.read_class_file-requires
read_class_file-requires g c =
    let dir = c.args.dir.now in
    let item = c.relative-item.result in
    let path : string_bytes (get_or c.args.paths.now c.loop-relative.relative-index item) ≡ c.as_str.result.now = ap string_bytes (sym c.relative-item.is) ∙ sym c.as_str.ensures.value in
    let there = subst (IsRead (g.F.Folder.seen c.args.folder.now).files dir) path (c.requires c.loop-relative.relative-index item c.loop-relative-test.true) in
    subst (λ (files : Option Files). IsRead files dir c.as_str.result.now) (sym c.loop-relative.invariant.kept) there

pub loop-relative-preserved : goal.loop-relative-preserved
loop-relative-preserved g c =
    let so_far = c.loop-relative.invariant in
    let input = c.in_ok-read_class_file.field-0 in
    let old = c.loop-relative.inputs.items in
    let dir = c.args.dir.now in
    let one = subst (λ (files : Option Files). IsClassInput files dir input) so_far.kept c.in_ok-read_class_file.ensures.input in
    record {
      paths_are = read_more c.args.paths.now c.loop-relative.relative-index c.relative-item.result old c.push.new.self.items input c.in_ok-push.ensures.items so_far.paths_are c.loop-relative-test.true
          (c.in_ok-read_class_file.ensures.relative ∙ c.as_str.ensures.value ∙ ap string_bytes c.relative-item.is);
      each = rw c.in_ok-push.ensures.items (all_pushed (IsClassInput (g.F.Folder.seen c.args.folder.now).files dir) old input so_far.each one);
      kept = c.read_class_file.ensures.files_kept ∙ so_far.kept;
      counts = no_less_since _ _ _ so_far.counts c.read_class_file.ensures.counts;
      put_counts = no_less_since _ _ _ so_far.put_counts c.read_class_file.ensures.put_counts;
    }

pub returns-in_err-read_class_file : goal.returns-in_err-read_class_file
returns-in_err-read_class_file g c =
    let dir = c.args.dir.now in
    let first = g.F.Folder.seen c.args.folder.now in
    let before = g.F.Folder.seen c.loop-relative.folder in
    let now = g.F.Folder.seen c.read_class_file.new.folder in
    let end = c.in_err-read_class_file.field-0.0 in
    let so_far = c.loop-relative.invariant in
    let ends = c.read_class_file.ensures in
    rw (err_at c.from_residual.result end c.from_residual.ensures.1) record {
      paths = tt;
      inputs = tt;
      files_kept = ends.files_kept ∙ so_far.kept;
      counts = no_less_since _ _ _ so_far.counts ends.counts;
      put_counts = no_less_since _ _ _ so_far.put_counts ends.put_counts;
      cause =
          reads_as (IsCallOfFolder before.files dir) (IsCallOfFolder first.files dir) first before now so_far.counts
          (λ call asked. subst (λ (f : Option Files). IsCallOfFolder f dir call) so_far.kept asked) end c.in_err-read_class_file.ensures.cause;
    }

pub returns-in_err-push : goal.returns-in_err-push
returns-in_err-push g c =
    let so_far = c.loop-relative.invariant in
    let ends = c.read_class_file.ensures in
    rw (err_at c.from_residual-in_err-push.result NoMemory c.from_residual-in_err-push.ensures.1) record {
      paths = tt;
      inputs = tt;
      files_kept = ends.files_kept ∙ so_far.kept;
      counts = no_less_since _ _ _ so_far.counts ends.counts;
      put_counts = no_less_since _ _ _ so_far.put_counts ends.put_counts;
      cause = tt;
    }

pub returns : goal.returns
returns g c =
    let so_far = c.loop-relative.invariant in
    let paths = c.args.paths.now in
    record {
      paths = so_far.paths_are ∙ take_all c.loop-relative.relative-index (seen_texts paths) (omega (arith, c.loop-relative-test.false, length-map paths string_bytes));
      inputs = so_far.each;
      files_kept = so_far.kept;
      counts = so_far.counts;
      put_counts = so_far.put_counts;
      cause = tt;
    }
