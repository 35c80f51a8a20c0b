use Rattle.std.proofs.Common.{inl}
use Rattle.deuce.specs.Folder.{LacksHelper}
use Rattle.deuce.specs.Ending.{IsCallOfRun}
use Rattle.deuce.specs.Outcomes.{IsUnreadAs, IsRefusedAs}
use Rattle.deuce.proofs.HelperPath.{are_elsewhere}
use Rattle.deuce.proofs.Lists.{on_ok}
use Rattle.deuce.proofs.Outcomes.{unread, not_good, kept_for_helper, refused}
use Rattle.deuce.proofs.Reading.{all_form, few_files, lacks_helper, journal_of, told_journal, unopened_of}
use Rattle.deuce.proofs.Told.{told_unread, told_refused}
use Rattle.deuce.proofs.commands.run_command.Goals as goal

pub run_files-requires-clause-form : goal.run_files-requires-clause-form
run_files-requires-clause-form g c = λ κs lives. rw c.as_slice-4.ensures.value (all_form c.as_slice.result.now c.in-Ok-classes_of.files.items c.in-Ok-classes_of.ensures.classes)

pub run_files-requires-clause-few : goal.run_files-requires-clause-few
run_files-requires-clause-few g c = λ κs lives.
    rw c.as_slice-4.ensures.value (few_files (g.F.Folder.seen c.args.folder.now).files c.args.dir.now c.in-Ok.inputs.classes.items c.in-Ok-classes_of.files.items c.in-Ok.ensures.inputs.of_classes (rw c.as_slice.ensures.value at c.in-Ok-classes_of.ensures.classes))

pub reserved-requires-clause-form : goal.reserved-requires-clause-form
reserved-requires-clause-form g c = rw c.as_slice-3.ensures.value (all_form c.as_slice.result.now c.in-Ok-classes_of.files.items c.in-Ok-classes_of.ensures.classes)

pub reserved-requires-clause-few : goal.reserved-requires-clause-few
reserved-requires-clause-few g c =
    rw c.as_slice-3.ensures.value (few_files (g.F.Folder.seen c.args.folder.now).files c.args.dir.now c.in-Ok.inputs.classes.items c.in-Ok-classes_of.files.items c.in-Ok.ensures.inputs.of_classes (rw c.as_slice.ensures.value at c.in-Ok-classes_of.ensures.classes))

pub returns-in-Some : goal.returns-in-Some
returns-in-Some g c = record {
  outcome = λ words w.
      kept_for_helper words (g.F.Folder.seen c.args.folder.now) (g.F.Folder.seen c.read_inputs.new.folder) c.args.dir.now c.read_inputs.ensures.files_kept (c.args.script.now, inl w)
      c.in-Ok.inputs.classes.items c.in-Ok.ensures.inputs.of_classes c.in-Ok-classes_of.files.items (rw c.as_slice.ensures.value at c.in-Ok-classes_of.ensures.classes)
      c.in_ok-refusal.field-0 c.in-Some.refusal (rw (c.as_slice-2.ensures.value, c.as_slice-3.ensures.value) at c.in_ok-refusal.ensures) c.in-Some.is;
  told = λ words w. tt;
  files_kept = c.read_inputs.ensures.files_kept;
}

pub returns-in-Err : goal.returns-in-Err
returns-in-Err g c = record {
  outcome =
      let old = g.F.Folder.seen c.args.folder.now in
      let new = g.F.Folder.seen c.read_inputs.new.folder in
      on_ok c.unread.result (IsUnreadAs c.in-Err.end) _
      (λ o is words w. unread words old new c.args.dir.now c.read_inputs.ensures.files_kept (c.args.script.now, inl w)
      (IsCallOfRun (g.F.Folder.seen c.args.folder.now).files c.args.dir.now c.args.script.now) c.in-Err.end o (λ path failed. (c.args.dir.now, c.args.script.now, inl (w, failed)))
      (λ r over. inl (c.args.dir.now, (c.args.script.now, inl w), inl over)) c.in-Err.ensures.cause is) c.unread.ensures;
  told =
      on_ok c.unread.result (IsUnreadAs c.in-Err.end) _
      (λ o is words w. told_unread words (g.F.Folder.seen c.args.folder.now).files _ _ c.in-Err.end o is) c.unread.ensures;
  files_kept = c.read_inputs.ensures.files_kept;
}

pub returns-in-Err-classes_of : goal.returns-in-Err-classes_of
returns-in-Err-classes_of g c = record {
  outcome =
      let old = g.F.Folder.seen c.args.folder.now in
      let new = g.F.Folder.seen c.read_inputs.new.folder in
      on_ok c.unread-in-Err-classes_of.result (IsUnreadAs c.in-Err-classes_of.end) _
      (λ o is words w. not_good words old new c.args.dir.now c.read_inputs.ensures.files_kept (c.args.script.now, inl w)
      c.in-Ok.inputs.classes.items c.in-Ok.ensures.inputs.of_classes c.in-Err-classes_of.end o (rw c.as_slice.ensures.value at c.in-Err-classes_of.ensures.cause) is) c.unread-in-Err-classes_of.ensures;
  told =
      on_ok c.unread-in-Err-classes_of.result (IsUnreadAs c.in-Err-classes_of.end) _
      (λ o is words w. told_unread words (g.F.Folder.seen c.args.folder.now).files _ _ c.in-Err-classes_of.end o is) c.unread-in-Err-classes_of.ensures;
  files_kept = c.read_inputs.ensures.files_kept;
}

pub returns-in-Ok-run_files : goal.returns-in-Ok-run_files
returns-in-Ok-run_files g c = record {
  outcome = λ words w. (
    c.read_inputs.ensures.files_kept,
    (
      c.args.dir.now,
      c.args.script.now,
      w,
      journal_of (g.F.Folder.seen c.args.folder.now).files c.args.dir.now c.args.script.now c.in-Ok.inputs c.in-Ok-classes_of.files.items c.in-Ok-run_files.text c.in-Ok.ensures.inputs
          (rw c.as_slice.ensures.value at c.in-Ok-classes_of.ensures.classes)
          (lacks_helper (g.F.Folder.seen c.args.folder.now).files c.args.dir.now c.in-Ok.inputs.classes.items c.in-Ok.ensures.inputs.of_classes
          (are_elsewhere c.in-Ok.inputs.classes.items c.in-Ok-classes_of.files.items c.in_ok-refusal.field-0 (rw (c.as_slice-2.ensures.value, c.as_slice-3.ensures.value) at c.in_ok-refusal.ensures) c.in_default.not-Some)) (rw (c.as_slice-4.ensures.value, c.as_slice-5.ensures) at c.in-Ok-run_files.ensures.run),
    ),
  );
  told = λ words w. (
    c.args.dir.now,
    c.args.script.now,
    w,
    told_journal (g.F.Folder.seen c.args.folder.now).files c.args.dir.now c.args.script.now c.in-Ok.inputs c.in-Ok-classes_of.files.items c.in-Ok-run_files.text _ _ c.in-Ok.ensures.inputs
        (rw c.as_slice.ensures.value at c.in-Ok-classes_of.ensures.classes) (rw (c.as_slice-4.ensures.value, c.as_slice-5.ensures) at c.in-Ok-run_files.ensures.run).are_calls.is_script.fits
        (rw (c.as_slice-4.ensures.value, c.as_slice-5.ensures) at c.in-Ok-run_files.ensures.told),
  );
  files_kept = c.read_inputs.ensures.files_kept;
}

pub returns : goal.returns
returns g c = record {
  outcome =
      let old = g.F.Folder.seen c.args.folder.now in
      let new = g.F.Folder.seen c.read_inputs.new.folder in
      let files = (g.F.Folder.seen c.args.folder.now).files in
      let dir = c.args.dir.now in
      let a = c.in-Ok.ensures.inputs in
      let bytes = c.in-Ok.inputs.script in
      let free : LacksHelper files dir = lacks_helper (g.F.Folder.seen c.args.folder.now).files c.args.dir.now c.in-Ok.inputs.classes.items c.in-Ok.ensures.inputs.of_classes
      (are_elsewhere c.in-Ok.inputs.classes.items c.in-Ok-classes_of.files.items c.in_ok-refusal.field-0 (rw (c.as_slice-2.ensures.value, c.as_slice-3.ensures.value) at c.in_ok-refusal.ensures) c.in_default.not-Some) in
      on_ok c.refused.result (IsRefusedAs c.in-Err-run_files.end) _
      (λ o is words w. refused words old new dir c.read_inputs.ensures.files_kept (c.args.script.now, inl w)
      c.in-Ok.inputs.classes.items a.of_classes c.in-Ok-classes_of.files.items (rw c.as_slice.ensures.value at c.in-Ok-classes_of.ensures.classes) free bytes c.in-Err-run_files.end o
      (λ r bad has. inl (dir, c.args.script.now, w, record { free = free; script_bytes = bytes; script_front = a.script_bytes; of_classes = has }))
      (λ name x h has. inl (dir, c.args.script.now, w, unopened_of files dir c.args.script.now bytes name x free a.script_bytes h.is_script.fits has))
      (rw (c.as_slice-4.ensures.value, c.as_slice-5.ensures) at c.in-Err-run_files.ensures.cause) is) c.refused.ensures;
  told =
      on_ok c.refused.result (IsRefusedAs c.in-Err-run_files.end) _
      (λ o is words w. told_refused words (g.F.Folder.seen c.args.folder.now).files _ _ c.in-Err-run_files.end o is) c.refused.ensures;
  files_kept = c.read_inputs.ensures.files_kept;
}
