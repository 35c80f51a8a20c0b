use Rattle.std.proofs.Common.{◌∙◌, List, ap}
use Rattle.jmodel.specs.history.Output.{answer_text}
use Rattle.session.specs.declared.record.Record.{Record}
use Rattle.runner.specs.Kept.{answer_kept}
use Rattle.runner.proofs.Together.{are_counts}
use Rattle.runner.proofs.running.count_calls.Goals as goal

pub returns-clause-run : goal.returns-clause-run
returns-clause-run g c =
    are_counts c.args.files.now c.args.script.now c.in_ok-ran.ran.program c.in_ok-ran.ran.calls c.args.phase c.len.result c.len-2.result c.in_ok-answer.answer c.in_ok-ran.ensures.run
    (c.len.ensures ∙ c.in_ok-ran.ran.calls.placed.ok.0) (c.len-2.ensures ∙ c.in_ok-ran.ran.calls.unplaced.ok.0)
    (c.in_ok-answer.ensures ∙ ap (λ (rs : List Record). answer_text (answer_kept c.args.phase rs)) c.as_slice.ensures.value)

pub returns-clause-told : goal.returns-clause-told
returns-clause-told g c =
    record {
      program = c.in_ok-ran.ran.program;
      links = c.in_ok-ran.ensures.run.are_calls.links;
      placed = c.in_ok-ran.ran.calls.placed.items;
      count_is = c.len.ensures ∙ c.in_ok-ran.ran.calls.placed.ok.0;
      told = c.in_ok-ran.ensures.told;
    }
