use Rattle.std.proofs.Common.{◌∙◌, ℕ, List, ap}
use Rattle.bankgen.specs.Summary.{summary_lines}
use Rattle.deuce.specs.Bank.{engine_of}
use Rattle.deuce.specs.Command.{engine_word}
use Rattle.deuce.specs.Outcomes.{IsRefusedAs}
use Rattle.deuce.proofs.Banks.{bank_ended, summary_of, told_bank}
use Rattle.deuce.proofs.Lists.{on_ok}
use Rattle.deuce.proofs.Workloads.{few}
use Rattle.deuce.proofs.Told.{told_refused}
use Rattle.deuce.proofs.bank.bank_command.Goals as goal

pub count_calls-requires-clause-few : goal.count_calls-requires-clause-few
count_calls-requires-clause-few g c = λ κs lives.
    let f = c.args.asked.figures in
    rw c.as_slice-classes.ensures.value (few f.seed f.accounts f.calls f.lanes c.in-Ok.workload.classes.items c.in-Ok.workload.script c.in-Ok.ensures.made)

pub returns-clause-outcome : goal.returns-clause-outcome
returns-clause-outcome g c =
    on_ok c.refused.result (IsRefusedAs c.in-Err.end) _
    (λ o is words old new kept a. bank_ended words c.args.asked old new kept a c.in-Ok.workload.classes.items c.in-Ok.workload.script c.in-Ok.ensures.made c.in-Err.end o
    (rw (c.as_slice-classes.ensures.value, c.as_slice.ensures) at c.in-Err.ensures.cause) is) c.refused.ensures

pub returns-clause-told : goal.returns-clause-told
returns-clause-told g c =
    on_ok c.refused.result (IsRefusedAs c.in-Err.end) _ (λ o is words files a. told_refused words files _ _ c.in-Err.end o is) c.refused.ensures

pub returns-in-Ok-count_calls : goal.returns-in-Ok-count_calls
returns-in-Ok-count_calls g c =
    let asked = c.args.asked in
    let counts = c.in-Ok-count_calls.counts in
    let files = c.in-Ok.workload.classes.items in
    let script = c.in-Ok.workload.script in
    let run = rw (c.as_slice-classes.ensures.value, c.as_slice.ensures) at c.in-Ok-count_calls.ensures.run in
    let told = rw (c.as_slice-classes.ensures.value, c.as_slice.ensures) at c.in-Ok-count_calls.ensures.told in
    let is = c.in_ok-text-in-Ok-count_calls.ensures
    ∙ ap (λ (w : List ℕ). summary_lines asked.figures w counts.placed counts.unplaced c.as_slice-answer.result.now) c.engine_name.ensures
    ∙ ap (λ (a : List ℕ). summary_lines asked.figures (engine_word (engine_of asked.engine)) counts.placed counts.unplaced a) c.as_slice-answer.ensures in
    let made = c.in-Ok.ensures.made in
    record {
      told = λ words told_files a. (asked, a, told_bank asked files script c.in_ok-text-in-Ok-count_calls.text counts.placed counts.unplaced counts.answer made run is _ _ told);
      outcome = λ words old new kept a. (kept, (asked, a, summary_of asked files script c.in_ok-text-in-Ok-count_calls.text counts.placed counts.unplaced counts.answer made run is));
    }
