use Rattle.std.proofs.Common.{◌≡◌, ◌∙◌, ℕ, List, Err, inr, refl, ap, subst}
use Rattle.std.specs.Prelude.{string_bytes}
use Rattle.deuce_io.specs.Fault.{HasFailed, read_of}
use Rattle.deuce_io.specs.Files.{inside}
use Rattle.deuce.specs.Ending.{IsCallOfFolder, IsOutsideAt}
use Rattle.deuce.specs.declared.inputs.InputEnd.TheVariants.{NoMemory}
use Rattle.deuce.proofs.Listed.{no_less, failed_at}
use Rattle.deuce.proofs.Lists.{err_at}
use Rattle.deuce.proofs.inputs.read_class_file.Goals as goal

pub returns-in_ok-from_str-in-Ok : goal.returns-in_ok-from_str-in-Ok
returns-in_ok-from_str-in-Ok g c =
    let path : c.as_str.result.now ≡ inside c.args.dir.now c.args.relative.now = c.as_str.ensures.value ∙ c.in_ok-path.ensures.ok in
    let relative : string_bytes c.in_ok-from_str-in-Ok.field-0 ≡ c.args.relative.now = c.in_ok-from_str-in-Ok.ensures.ok in
    record {
      relative = relative;
      input = record {
        class_path = rw relative c.in_ok-path.ensures.ok;
        class = rw relative (λ told is. rw path at c.in-Ok.ensures.content told is);
      };
      files_kept = c.read.ensures.files_kept;
      counts = c.read.ensures.counts;
      put_counts = c.read.ensures.put_counts;
      cause = tt;
    }

pub returns-in-Err : goal.returns-in-Err
returns-in-Err g c =
    let dir = c.args.dir.now in
    let relative = c.args.relative.now in
    let old = g.F.Folder.seen c.args.folder.now in
    let new = g.F.Folder.seen c.read.new.self in
    let path : c.as_str.result.now ≡ inside dir relative = c.as_str.ensures.value ∙ c.in_ok-path.ensures.ok in
    let told : c.as_str-in-Err.result.now ≡ inside dir relative = c.as_str-in-Err.ensures.value ∙ c.in_ok-path.ensures.ok in
    record {
      relative = tt;
      input = tt;
      files_kept = c.read.ensures.files_kept;
      counts = c.read.ensures.counts;
      put_counts = c.read.ensures.put_counts;
      cause =
          failed_at (IsCallOfFolder old.files dir) old new (read_of (inside dir relative)) (inr (inr (relative, c.requires, refl))) c.in-Err.end c.outside.result
          (λ is. subst (λ (p : List ℕ). HasFailed old.faults new.faults new.failed (read_of p)) path (c.in-Err.ensures.cause (ap Err is)))
          (subst (λ (p : List ℕ). IsOutsideAt c.in-Err.end p c.outside.result) told c.outside.ensures);
    }

pub returns-in_err-path : goal.returns-in_err-path
returns-in_err-path g c =
    let old = g.F.Folder.seen c.args.folder.now in
    rw (err_at c.from_residual.result NoMemory c.from_residual.ensures.1) record {
      relative = tt;
      input = tt;
      files_kept = refl;
      counts = no_less old.faults;
      put_counts = no_less old.put_faults;
      cause = tt;
    }

pub returns-in_err-from_str-in-Ok : goal.returns-in_err-from_str-in-Ok
returns-in_err-from_str-in-Ok g c =
    rw (err_at c.from_residual-in_err-from_str-in-Ok.result NoMemory c.from_residual-in_err-from_str-in-Ok.ensures.1) record {
      relative = tt;
      input = tt;
      files_kept = c.read.ensures.files_kept;
      counts = c.read.ensures.counts;
      put_counts = c.read.ensures.put_counts;
      cause = tt;
    }
