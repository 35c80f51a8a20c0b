use Rattle.std.proofs.Common.{◌∙◌, Err, ap, inl, inr, refl}
use Rattle.deuce_io.specs.Fault.{read_of}
use Rattle.deuce.specs.Ending.{IsCallOfFolder, IsCallOfRun}
use Rattle.deuce.proofs.Listed.{failed_at, inputs_as, not_read, reads_as}
use Rattle.deuce.proofs.Lists.{err_at}
use Rattle.deuce.proofs.inputs.read_inputs.Goals as goal

pub returns-in-Ok : goal.returns-in-Ok
returns-in-Ok g c = record {
  inputs = record { of_classes = c.in_ok-classes.ensures.inputs; script_bytes = λ told is. c.in-Ok.ensures.content told (c.in_ok-classes.ensures.files_kept ∙ is) };
  files_kept = c.read.ensures.files_kept ∙ c.read_classes.ensures.files_kept;
  cause = tt;
}

pub returns-in_err-classes : goal.returns-in_err-classes
returns-in_err-classes g c =
    let dir = c.args.dir.now in
    let old = g.F.Folder.seen c.args.folder.now in
    let new = g.F.Folder.seen c.read_classes.new.folder in
    let end = c.in_err-classes.field-0.0 in
    rw (err_at c.from_residual.result end c.from_residual.ensures.1) record {
      inputs = tt;
      files_kept = c.read_classes.ensures.files_kept;
      cause = inputs_as (IsCallOfFolder old.files dir) (IsCallOfRun old.files dir c.args.script.now) dir old new (λ call asked. inr asked) end c.in_err-classes.ensures.cause;
    }

pub returns-in-Err : goal.returns-in-Err
returns-in-Err g c =
    let dir = c.args.dir.now in
    let script = c.args.script.now in
    let old = g.F.Folder.seen c.args.folder.now in
    let before = g.F.Folder.seen c.read_classes.new.folder in
    let new = g.F.Folder.seen c.read.new.self in
    let asks = IsCallOfRun old.files dir script in
    record {
      inputs = tt;
      files_kept = c.read.ensures.files_kept ∙ c.read_classes.ensures.files_kept;
      cause =
          not_read dir old new asks c.outside.result (reads_as asks asks old before new c.read_classes.ensures.counts (λ call asked. asked) c.outside.result
          (failed_at asks before new (read_of script) (inl refl) c.in-Err.end c.outside.result (λ is. c.in-Err.ensures.cause (ap Err is)) c.outside.ensures));
    }
