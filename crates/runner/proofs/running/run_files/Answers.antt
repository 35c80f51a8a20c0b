use Rattle.std.proofs.Common.{◌∙◌, List, map, ap}
use Rattle.jmodel.specs.history.Output.{journal_text}
use Rattle.session.specs.declared.record.Record.{Record}
use Rattle.runner.specs.Lines.{line_in}
use Rattle.runner.proofs.Together.{is_run_of}
use Rattle.runner.proofs.running.run_files.Goals as goal

pub returns-clause-run : goal.returns-clause-run
returns-clause-run g c =
    let P = c.in_ok-ran.ran.program in
    let kept = c.in_ok-ran.ran.calls in
    is_run_of c.args.files.now c.args.script.now P kept c.in_ok-journal.field-0 c.in_ok-ran.ensures.run
    (c.in_ok-journal.ensures ∙ ap (λ (rs : List Record). journal_text (map (line_in P) rs) (map (line_in P) c.as_slice-2.result.now)) c.as_slice.ensures.value
    ∙ ap (λ (rs : List Record). journal_text (map (line_in P) kept.placed.items) (map (line_in P) rs)) c.as_slice-2.ensures.value)

pub returns-clause-told : goal.returns-clause-told
returns-clause-told g c =
    let P = c.in_ok-ran.ran.program in
    let kept = c.in_ok-ran.ran.calls in
    record {
      program = P;
      links = c.in_ok-ran.ensures.run.are_calls.links;
      placed = kept.placed.items;
      unplaced = kept.unplaced.items;
      is_text = c.in_ok-journal.ensures ∙ ap (λ (rs : List Record). journal_text (map (line_in P) rs) (map (line_in P) c.as_slice-2.result.now)) c.as_slice.ensures.value
          ∙ ap (λ (rs : List Record). journal_text (map (line_in P) kept.placed.items) (map (line_in P) rs)) c.as_slice-2.ensures.value;
      told = c.in_ok-ran.ensures.told;
    }
