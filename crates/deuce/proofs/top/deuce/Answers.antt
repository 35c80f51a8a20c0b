use Rattle.std.proofs.Common.{Err, ap, inl, inr, refl, arith}
use Rattle.deuce.proofs.Printed.{journal_printed, summary_printed, rewriting_printed, fault_printed, program_printed, untyped_printed, script_printed, unopened_printed, put_printed, refusal_keeps}
use Rattle.deuce.proofs.Complete.{complete, complete_rewriting, helper_refused}
use Rattle.deuce.proofs.Banks.{complete_bank, outside_limits}
use Rattle.deuce.proofs.Statuses.{apart_from, no_refusal, is_status, not_nine, not_ten, no_form, usage, usage_line, outside_printed}
use Rattle.deuce.proofs.Told.{told_printed, told_of_bank, told_nothing}
use Rattle.deuce.proofs.top.deuce.Goals as goal

pub returns-in_default : goal.returns-in_default
returns-in_default g c = record {
  no_form = λ _. inr (inr refl);
  usage = λ e. absurd (apart_from 10 2 refl e);
  usage_line = λ e. absurd (apart_from 10 2 refl e);
  journal = λ e. absurd (apart_from 10 0 refl e);
  summary = λ e. absurd (apart_from 10 0 refl e);
  told = λ e. absurd (apart_from 10 0 refl e);
  told_bank = λ e. absurd (apart_from 10 0 refl e);
  told_nothing = λ e. absurd (apart_from 10 0 refl e);
  rewriting = λ e. absurd (apart_from 10 0 refl e);
  bad_class = λ e. absurd (apart_from 10 3 refl e);
  bad_program = λ e. absurd (apart_from 10 4 refl e);
  outside_limits = λ _. inr (inr refl);
  untypable = λ e. absurd (apart_from 10 5 refl e);
  bad_script = λ e. absurd (apart_from 10 6 refl e);
  unopened = λ e. absurd (apart_from 10 7 refl e);
  helper_path = λ _. inr (inr (inr (inr refl)));
  outside = λ e. absurd (apart_from 10 8 refl e);
  not_put = λ e. absurd (apart_from 10 11 refl e);
  sink = λ e. absurd (apart_from 10 9 refl e);
  cut = λ e. absurd (apart_from 10 9 refl e);
  cut_or_none = λ _. inl refl;
  complete = λ _. inr (inr (inr refl));
  complete_bank = λ _. inr (inr refl);
  complete_rewriting = λ _. inr (inr (inr (inl refl)));
  files_kept = c.outcome_of.ensures.files_kept;
  refused_keeps = λ refused. absurd (no_refusal 10 (omega arith) refused);
  put = c.outcome_of.ensures.put;
  statuses = inr (inr (inr (inr (inr (inr (inr (inr (inr (inl refl)))))))));
}

pub returns-in_default-text_of : goal.returns-in_default-text_of
returns-in_default-text_of g c = record {
  no_form = λ _. inr (inr refl);
  usage = λ e. absurd (apart_from 10 2 refl e);
  usage_line = λ e. absurd (apart_from 10 2 refl e);
  journal = λ e. absurd (apart_from 10 0 refl e);
  summary = λ e. absurd (apart_from 10 0 refl e);
  told = λ e. absurd (apart_from 10 0 refl e);
  told_bank = λ e. absurd (apart_from 10 0 refl e);
  told_nothing = λ e. absurd (apart_from 10 0 refl e);
  rewriting = λ e. absurd (apart_from 10 0 refl e);
  bad_class = λ e. absurd (apart_from 10 3 refl e);
  bad_program = λ e. absurd (apart_from 10 4 refl e);
  outside_limits = λ _. inr (inr refl);
  untypable = λ e. absurd (apart_from 10 5 refl e);
  bad_script = λ e. absurd (apart_from 10 6 refl e);
  unopened = λ e. absurd (apart_from 10 7 refl e);
  helper_path = λ _. inr (inr (inr (inr refl)));
  outside = λ e. absurd (apart_from 10 8 refl e);
  not_put = λ e. absurd (apart_from 10 11 refl e);
  sink = λ e. absurd (apart_from 10 9 refl e);
  cut = λ e. absurd (apart_from 10 9 refl e);
  cut_or_none = λ _. inl refl;
  complete = λ _. inr (inr (inr refl));
  complete_bank = λ _. inr (inr refl);
  complete_rewriting = λ _. inr (inr (inr (inl refl)));
  files_kept = c.outcome_of.ensures.files_kept;
  refused_keeps = λ refused. absurd (no_refusal 10 (omega arith) refused);
  put = c.outcome_of.ensures.put;
  statuses = inr (inr (inr (inr (inr (inr (inr (inr (inr (inl refl)))))))));
}

pub returns-in-Ok-print : goal.returns-in-Ok-print
returns-in-Ok-print g c = record {
  no_form = λ none. inl (no_form c.args.words.now (g.F.Folder.seen c.args.folder.now) (g.F.Folder.seen c.outcome_of.new.folder) c.in-Ok.outcome c.status-status.result c.in-Ok.ensures.outcome.1 c.status-status.ensures none);
  usage = usage c.args.words.now (g.F.Folder.seen c.args.folder.now) (g.F.Folder.seen c.outcome_of.new.folder) c.in-Ok.outcome c.status-status.result c.in-Ok.ensures.outcome.1 c.status-status.ensures;
  usage_line = usage_line c.in-Ok-text_of.text _ _ c.in-Ok.outcome c.status-status.result c.status-status.ensures c.in-Ok-text_of.ensures (rw c.as_slice.ensures at c.in-Ok-print.ensures.written);
  journal = λ zero.
      journal_printed c.args.words.now (g.F.Folder.seen c.args.folder.now) (g.F.Folder.seen c.outcome_of.new.folder) c.in-Ok-text_of.text _ _ c.status-status.result c.in-Ok.outcome
      c.in-Ok.ensures.outcome.1 c.status-status.ensures c.in-Ok-text_of.ensures (rw c.as_slice.ensures at c.in-Ok-print.ensures.written) zero;
  summary = λ zero.
      summary_printed c.args.words.now (g.F.Folder.seen c.args.folder.now) (g.F.Folder.seen c.outcome_of.new.folder) c.in-Ok-text_of.text _ _ c.status-status.result c.in-Ok.outcome
      c.in-Ok.ensures.outcome.1 c.status-status.ensures c.in-Ok-text_of.ensures (rw c.as_slice.ensures at c.in-Ok-print.ensures.written) zero;
  told = λ zero.
      told_printed c.args.words.now (g.F.Folder.seen c.args.folder.now).files _ _ (g.F.Folder.seen c.args.folder.now) (g.F.Folder.seen c.outcome_of.new.folder) c.in-Ok-text_of.text _ _ c.status-status.result c.in-Ok.outcome
      c.in-Ok.ensures.outcome.1 c.in-Ok.ensures.told c.status-status.ensures c.in-Ok-text_of.ensures (rw c.as_slice.ensures at c.in-Ok-print.ensures.written) zero;
  told_bank = λ zero.
      told_of_bank c.args.words.now (g.F.Folder.seen c.args.folder.now).files _ _ (g.F.Folder.seen c.args.folder.now) (g.F.Folder.seen c.outcome_of.new.folder) c.in-Ok-text_of.text _ _ c.status-status.result c.in-Ok.outcome
      c.in-Ok.ensures.outcome.1 c.in-Ok.ensures.told c.status-status.ensures c.in-Ok-text_of.ensures (rw c.as_slice.ensures at c.in-Ok-print.ensures.written) zero;
  told_nothing = λ zero.
      told_nothing c.args.words.now (g.F.Folder.seen c.args.folder.now).files _ _ (g.F.Folder.seen c.args.folder.now) (g.F.Folder.seen c.outcome_of.new.folder) c.status-status.result c.in-Ok.outcome
      c.in-Ok.ensures.outcome.1 c.in-Ok.ensures.told c.status-status.ensures zero;
  rewriting = λ zero.
      rewriting_printed c.args.words.now (g.F.Folder.seen c.args.folder.now) (g.F.Folder.seen c.outcome_of.new.folder) c.in-Ok-text_of.text _ _ c.status-status.result c.in-Ok.outcome
      c.in-Ok.ensures.outcome.1 c.status-status.ensures c.in-Ok-text_of.ensures (rw c.as_slice.ensures at c.in-Ok-print.ensures.written) zero;
  bad_class = λ three.
      fault_printed c.args.words.now (g.F.Folder.seen c.args.folder.now) (g.F.Folder.seen c.outcome_of.new.folder) c.in-Ok-text_of.text _ _ c.status-status.result c.in-Ok.outcome
      c.in-Ok.ensures.outcome.1 c.status-status.ensures c.in-Ok-text_of.ensures (rw c.as_slice.ensures at c.in-Ok-print.ensures.written) three;
  bad_program = λ four.
      program_printed c.args.words.now (g.F.Folder.seen c.args.folder.now) (g.F.Folder.seen c.outcome_of.new.folder) c.in-Ok-text_of.text _ _ c.status-status.result c.in-Ok.outcome
      c.in-Ok.ensures.outcome.1 c.status-status.ensures c.in-Ok-text_of.ensures (rw c.as_slice.ensures at c.in-Ok-print.ensures.written) four;
  outside_limits = outside_limits c.args.words.now (g.F.Folder.seen c.args.folder.now) (g.F.Folder.seen c.outcome_of.new.folder) c.in-Ok.outcome c.status-status.result c.in-Ok.ensures.outcome.1 c.status-status.ensures;
  untypable = λ five.
      untyped_printed c.args.words.now (g.F.Folder.seen c.args.folder.now) (g.F.Folder.seen c.outcome_of.new.folder) c.in-Ok-text_of.text _ _ c.status-status.result c.in-Ok.outcome
      c.in-Ok.ensures.outcome.1 c.status-status.ensures c.in-Ok-text_of.ensures (rw c.as_slice.ensures at c.in-Ok-print.ensures.written) five;
  bad_script = λ six.
      script_printed c.args.words.now (g.F.Folder.seen c.args.folder.now) (g.F.Folder.seen c.outcome_of.new.folder) c.in-Ok-text_of.text _ _ c.status-status.result c.in-Ok.outcome
      c.in-Ok.ensures.outcome.1 c.status-status.ensures c.in-Ok-text_of.ensures (rw c.as_slice.ensures at c.in-Ok-print.ensures.written) six;
  unopened = λ seven.
      unopened_printed c.args.words.now (g.F.Folder.seen c.args.folder.now) (g.F.Folder.seen c.outcome_of.new.folder) c.in-Ok-text_of.text _ _ c.status-status.result c.in-Ok.outcome
      c.in-Ok.ensures.outcome.1 c.status-status.ensures c.in-Ok-text_of.ensures (rw c.as_slice.ensures at c.in-Ok-print.ensures.written) seven;
  helper_path = helper_refused c.args.words.now (g.F.Folder.seen c.args.folder.now) (g.F.Folder.seen c.outcome_of.new.folder) c.in-Ok.outcome c.status-status.result c.in-Ok.ensures.outcome.1 c.status-status.ensures;
  outside = outside_printed c.in-Ok-text_of.text _ _ c.args.words.now (g.F.Folder.seen c.args.folder.now) (g.F.Folder.seen c.outcome_of.new.folder) c.in-Ok.outcome c.status-status.result
      c.in-Ok.ensures.outcome.1 c.status-status.ensures c.in-Ok-text_of.ensures (rw c.as_slice.ensures at c.in-Ok-print.ensures.written);
  not_put = λ eleven.
      put_printed c.args.words.now (g.F.Folder.seen c.args.folder.now) (g.F.Folder.seen c.outcome_of.new.folder) c.in-Ok-text_of.text _ _ c.status-status.result c.in-Ok.outcome
      c.in-Ok.ensures.outcome.1 c.status-status.ensures c.in-Ok-text_of.ensures (rw c.as_slice.ensures at c.in-Ok-print.ensures.written) eleven;
  sink = λ e. absurd (not_nine c.in-Ok.outcome c.status-status.result c.status-status.ensures e);
  cut = λ e. absurd (not_nine c.in-Ok.outcome c.status-status.result c.status-status.ensures e);
  cut_or_none = λ e. absurd (not_ten c.in-Ok.outcome c.status-status.result c.status-status.ensures e);
  complete = complete c.args.words.now (g.F.Folder.seen c.args.folder.now) (g.F.Folder.seen c.outcome_of.new.folder) c.in-Ok.outcome c.status-status.result c.in-Ok.ensures.outcome.1 c.status-status.ensures;
  complete_bank = complete_bank c.args.words.now (g.F.Folder.seen c.args.folder.now) (g.F.Folder.seen c.outcome_of.new.folder) c.in-Ok.outcome c.status-status.result c.in-Ok.ensures.outcome.1 c.status-status.ensures;
  complete_rewriting = complete_rewriting c.args.words.now (g.F.Folder.seen c.args.folder.now) (g.F.Folder.seen c.outcome_of.new.folder) c.in-Ok.outcome c.status-status.result c.in-Ok.ensures.outcome.1 c.status-status.ensures;
  files_kept = c.outcome_of.ensures.files_kept;
  refused_keeps = λ refused.
      refusal_keeps c.in-Ok.outcome (g.F.Folder.seen c.args.folder.now) (g.F.Folder.seen c.outcome_of.new.folder) c.status-status.result
      c.in-Ok.ensures.outcome.0 c.status-status.ensures refused;
  put = c.outcome_of.ensures.put;
  statuses = is_status c.in-Ok.outcome c.status-status.result c.status-status.ensures;
}

pub returns-in-Err-Failed : goal.returns-in-Err-Failed
returns-in-Err-Failed g c = record {
  no_form = λ _. inr (inl refl);
  usage = λ e. absurd (apart_from 9 2 refl e);
  usage_line = λ e. absurd (apart_from 9 2 refl e);
  journal = λ e. absurd (apart_from 9 0 refl e);
  summary = λ e. absurd (apart_from 9 0 refl e);
  told = λ e. absurd (apart_from 9 0 refl e);
  told_bank = λ e. absurd (apart_from 9 0 refl e);
  told_nothing = λ e. absurd (apart_from 9 0 refl e);
  rewriting = λ e. absurd (apart_from 9 0 refl e);
  bad_class = λ e. absurd (apart_from 9 3 refl e);
  bad_program = λ e. absurd (apart_from 9 4 refl e);
  outside_limits = λ _. inr (inl refl);
  untypable = λ e. absurd (apart_from 9 5 refl e);
  bad_script = λ e. absurd (apart_from 9 6 refl e);
  unopened = λ e. absurd (apart_from 9 7 refl e);
  helper_path = λ _. inr (inr (inr (inl refl)));
  outside = λ e. absurd (apart_from 9 8 refl e);
  not_put = λ e. absurd (apart_from 9 11 refl e);
  sink = λ _. c.in-Err-Failed.ensures.failed (ap Err c.in-Err-Failed.field-0-is);
  cut = λ _.
      let front = rw c.as_slice.ensures at c.in-Err-Failed.ensures.front in
      record {
        outcome = c.in-Ok.outcome;
        is_outcome = c.in-Ok.ensures.outcome;
        text = c.in-Ok-text_of.text;
        is_text = c.in-Ok-text_of.ensures;
        many = front.0;
        front = front.1;
      };
  cut_or_none = λ e. absurd (apart_from 9 10 refl e);
  complete = λ _. inr (inr (inl refl));
  complete_bank = λ _. inr (inl refl);
  complete_rewriting = λ _. inr (inr (inl refl));
  files_kept = c.outcome_of.ensures.files_kept;
  refused_keeps = λ refused. absurd (no_refusal 9 (omega arith) refused);
  put = c.outcome_of.ensures.put;
  statuses = inr (inr (inr (inr (inr (inr (inr (inr (inl refl))))))));
}

pub returns : goal.returns
returns g c = record {
  no_form = λ _. inr (inr refl);
  usage = λ e. absurd (apart_from 10 2 refl e);
  usage_line = λ e. absurd (apart_from 10 2 refl e);
  journal = λ e. absurd (apart_from 10 0 refl e);
  summary = λ e. absurd (apart_from 10 0 refl e);
  told = λ e. absurd (apart_from 10 0 refl e);
  told_bank = λ e. absurd (apart_from 10 0 refl e);
  told_nothing = λ e. absurd (apart_from 10 0 refl e);
  rewriting = λ e. absurd (apart_from 10 0 refl e);
  bad_class = λ e. absurd (apart_from 10 3 refl e);
  bad_program = λ e. absurd (apart_from 10 4 refl e);
  outside_limits = λ _. inr (inr refl);
  untypable = λ e. absurd (apart_from 10 5 refl e);
  bad_script = λ e. absurd (apart_from 10 6 refl e);
  unopened = λ e. absurd (apart_from 10 7 refl e);
  helper_path = λ _. inr (inr (inr (inr refl)));
  outside = λ e. absurd (apart_from 10 8 refl e);
  not_put = λ e. absurd (apart_from 10 11 refl e);
  sink = λ e. absurd (apart_from 10 9 refl e);
  cut = λ e. absurd (apart_from 10 9 refl e);
  cut_or_none = λ _.
      let front = rw c.as_slice.ensures at c.in-Err-NoMemory.ensures.front in
      inr (
        c.in-Err-NoMemory.ensures.shortage (ap Err c.in-Err-NoMemory.field-0-is),
        record {
          outcome = c.in-Ok.outcome;
          is_outcome = c.in-Ok.ensures.outcome;
          text = c.in-Ok-text_of.text;
          is_text = c.in-Ok-text_of.ensures;
          many = front.0;
          front = front.1;
        },
      );
  complete = λ _. inr (inr (inr refl));
  complete_bank = λ _. inr (inr refl);
  complete_rewriting = λ _. inr (inr (inr (inl refl)));
  files_kept = c.outcome_of.ensures.files_kept;
  refused_keeps = λ refused. absurd (no_refusal 10 (omega arith) refused);
  put = c.outcome_of.ensures.put;
  statuses = inr (inr (inr (inr (inr (inr (inr (inr (inr (inl refl)))))))));
}
