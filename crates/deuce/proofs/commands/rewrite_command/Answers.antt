use Rattle.std.proofs.Common.{◌∙◌, ap, inl, inr}
use Rattle.std.specs.Prelude.{option_map}
use Rattle.deuce.specs.Folder.{with_files}
use Rattle.deuce.specs.Ending.{IsCallOfFolder, seen_files}
use Rattle.deuce.specs.Outcomes.{IsUnreadAs, IsRefusedAs, IsNotPutAs}
use Rattle.deuce.proofs.HelperPath.{are_elsewhere}
use Rattle.deuce.proofs.Lists.{on_ok}
use Rattle.deuce.proofs.Outcomes.{unread, not_good, kept_for_helper, not_rewritten, not_put, stopped}
use Rattle.deuce.proofs.Reading.{all_form, few_files, lacks_helper, rewritten_of, rewriting_of}
use Rattle.deuce.proofs.commands.rewrite_command.Goals as goal

pub write_rewriting-requires-clause-form : goal.write_rewriting-requires-clause-form
write_rewriting-requires-clause-form g c = rw c.as_slice-4.ensures.value (all_form c.as_slice.result.now c.in-Ok-classes_of.files.items c.in-Ok-classes_of.ensures.classes)

pub write_rewriting-requires-clause-few : goal.write_rewriting-requires-clause-few
write_rewriting-requires-clause-few g c =
    rw c.as_slice-4.ensures.value (few_files (g.F.Folder.seen c.args.folder.now).files c.args.dir.now c.in-Ok.inputs.items c.in-Ok-classes_of.files.items c.in-Ok.ensures.inputs (rw c.as_slice.ensures.value at c.in-Ok-classes_of.ensures.classes))

pub reserved-requires-clause-form : goal.reserved-requires-clause-form
reserved-requires-clause-form g c = rw c.as_slice-3.ensures.value (all_form c.as_slice.result.now c.in-Ok-classes_of.files.items c.in-Ok-classes_of.ensures.classes)

pub reserved-requires-clause-few : goal.reserved-requires-clause-few
reserved-requires-clause-few g c =
    rw c.as_slice-3.ensures.value (few_files (g.F.Folder.seen c.args.folder.now).files c.args.dir.now c.in-Ok.inputs.items c.in-Ok-classes_of.files.items c.in-Ok.ensures.inputs (rw c.as_slice.ensures.value at c.in-Ok-classes_of.ensures.classes))

pub returns-in-Some : goal.returns-in-Some
returns-in-Some g c = record {
  outcome = λ words w.
      kept_for_helper words (g.F.Folder.seen c.args.folder.now) (g.F.Folder.seen c.read_classes.new.folder) c.args.dir.now c.read_classes.ensures.files_kept (c.args.out.now, inr w)
      c.in-Ok.inputs.items c.in-Ok.ensures.inputs c.in-Ok-classes_of.files.items (rw c.as_slice.ensures.value at c.in-Ok-classes_of.ensures.classes)
      c.in_ok-refusal.field-0 c.in-Some.refusal (rw (c.as_slice-2.ensures.value, c.as_slice-3.ensures.value) at c.in_ok-refusal.ensures) c.in-Some.is;
  put = λ words w. inl c.read_classes.ensures.files_kept;
}

pub returns-in-Err : goal.returns-in-Err
returns-in-Err g c = record {
  outcome =
      let old = g.F.Folder.seen c.args.folder.now in
      let new = g.F.Folder.seen c.read_classes.new.folder in
      on_ok c.unread.result (IsUnreadAs c.in-Err.end) _
      (λ o is words w. unread words old new c.args.dir.now c.read_classes.ensures.files_kept (c.args.out.now, inr w)
      (IsCallOfFolder (g.F.Folder.seen c.args.folder.now).files c.args.dir.now) c.in-Err.end o (λ path failed. (c.args.dir.now, c.args.out.now, inr (w, failed)))
      (λ r over. inl (c.args.dir.now, (c.args.out.now, inr w), inl over)) c.in-Err.ensures.cause is) c.unread.ensures;
  put = λ words w. inl c.read_classes.ensures.files_kept;
}

pub returns-in-Err-classes_of : goal.returns-in-Err-classes_of
returns-in-Err-classes_of g c = record {
  outcome =
      let old = g.F.Folder.seen c.args.folder.now in
      let new = g.F.Folder.seen c.read_classes.new.folder in
      on_ok c.unread-in-Err-classes_of.result (IsUnreadAs c.in-Err-classes_of.end) _
      (λ o is words w. not_good words old new c.args.dir.now c.read_classes.ensures.files_kept (c.args.out.now, inr w)
      c.in-Ok.inputs.items c.in-Ok.ensures.inputs c.in-Err-classes_of.end o (rw c.as_slice.ensures.value at c.in-Err-classes_of.ensures.cause) is) c.unread-in-Err-classes_of.ensures;
  put = λ words w. inl c.read_classes.ensures.files_kept;
}

pub returns-in-Err-write_rewriting : goal.returns-in-Err-write_rewriting
returns-in-Err-write_rewriting g c = record {
  outcome =
      let old = g.F.Folder.seen c.args.folder.now in
      let new = g.F.Folder.seen c.read_classes.new.folder in
      on_ok c.refused.result (IsRefusedAs c.in-Err-write_rewriting.end) _
      (λ o is words w. not_rewritten words old new c.args.dir.now c.read_classes.ensures.files_kept (c.args.out.now, inr w)
      c.in-Ok.inputs.items c.in-Ok.ensures.inputs c.in-Ok-classes_of.files.items (rw c.as_slice.ensures.value at c.in-Ok-classes_of.ensures.classes)
      (lacks_helper (g.F.Folder.seen c.args.folder.now).files c.args.dir.now c.in-Ok.inputs.items c.in-Ok.ensures.inputs
      (are_elsewhere c.in-Ok.inputs.items c.in-Ok-classes_of.files.items c.in_ok-refusal.field-0 (rw (c.as_slice-2.ensures.value, c.as_slice-3.ensures.value) at c.in_ok-refusal.ensures) c.in_default.not-Some)) c.in-Err-write_rewriting.end o
      (rw c.as_slice-4.ensures.value at c.in-Err-write_rewriting.ensures.cause) is) c.refused.ensures;
  put = λ words w. inl c.read_classes.ensures.files_kept;
}

pub returns-in-Ok-put_each : goal.returns-in-Ok-put_each
returns-in-Ok-put_each g c =
    let files = (g.F.Folder.seen c.args.folder.now).files in
    let inputs = c.in-Ok.inputs.items in
    let written = c.in-Ok-write_rewriting.written in
    let puts = seen_files c.in_ok-news.news.items in
    let made = rewritten_of files c.args.dir.now inputs c.in-Ok-classes_of.files.items written.files.items written.helper written.taken written.marked c.in-Ok.ensures.inputs
    (rw c.as_slice.ensures.value at c.in-Ok-classes_of.ensures.classes)
    (lacks_helper files c.args.dir.now inputs c.in-Ok.ensures.inputs
    (are_elsewhere inputs c.in-Ok-classes_of.files.items c.in_ok-refusal.field-0 (rw (c.as_slice-2.ensures.value, c.as_slice-3.ensures.value) at c.in_ok-refusal.ensures) c.in_default.not-Some)) (rw c.as_slice-4.ensures.value at c.in-Ok-write_rewriting.ensures.rewriting) in
    let now = (g.F.Folder.seen c.put_each.new.folder).files in
    let all = rewriting_of files now c.args.dir.now c.args.out.now inputs written.files.items written.helper written.taken written.marked made puts (rw c.as_slice-5.ensures.value at c.in_ok-news.ensures)
    c.len.result (c.len.ensures ∙ c.in-Ok.inputs.ok.0) (c.in-Ok-put_each.ensures.put ∙ ap (option_map (with_files puts)) c.read_classes.ensures.files_kept) in
    record {
      outcome = λ words w. (tt, (c.args.dir.now, c.args.out.now, w, all));
      put = λ words w. inr (c.args.dir.now, c.args.out.now, w, inl (c.len.result, written.taken, written.marked, all));
    }

pub returns : goal.returns
returns g c =
    let files = (g.F.Folder.seen c.args.folder.now).files in
    let inputs = c.in-Ok.inputs.items in
    let written = c.in-Ok-write_rewriting.written in
    let puts = seen_files c.in_ok-news.news.items in
    let made = rewritten_of files c.args.dir.now inputs c.in-Ok-classes_of.files.items written.files.items written.helper written.taken written.marked c.in-Ok.ensures.inputs
    (rw c.as_slice.ensures.value at c.in-Ok-classes_of.ensures.classes)
    (lacks_helper files c.args.dir.now inputs c.in-Ok.ensures.inputs
    (are_elsewhere inputs c.in-Ok-classes_of.files.items c.in_ok-refusal.field-0 (rw (c.as_slice-2.ensures.value, c.as_slice-3.ensures.value) at c.in_ok-refusal.ensures) c.in_default.not-Some)) (rw c.as_slice-4.ensures.value at c.in-Ok-write_rewriting.ensures.rewriting) in
    let old = g.F.Folder.seen c.args.folder.now in
    let new = g.F.Folder.seen c.put_each.new.folder in
    let read = g.F.Folder.seen c.read_classes.new.folder in
    let end = c.in-Err-put_each.end in
    record {
      outcome =
          on_ok c.not_put.result (IsNotPutAs end) _
          (λ o is words w. not_put words old new c.args.dir.now c.args.out.now w inputs written.files.items written.helper written.taken written.marked made puts (rw c.as_slice-5.ensures.value at c.in_ok-news.ensures)
          read c.read_classes.ensures.files_kept c.read_classes.ensures.put_counts end o c.in-Err-put_each.ensures.cause is) c.not_put.ensures;
      put = λ words w.
          stopped words old new c.args.dir.now c.args.out.now w inputs written.files.items written.helper written.taken written.marked made puts (rw c.as_slice-5.ensures.value at c.in_ok-news.ensures)
          read c.read_classes.ensures.files_kept c.read_classes.ensures.put_counts end c.in-Err-put_each.ensures.cause;
    }
