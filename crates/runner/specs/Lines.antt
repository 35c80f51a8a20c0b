-- The lines of what is kept of calls.
use Rattle.std.specs.Prelude.{ℕ, List, []}
use Rattle.std.specs.Fmt.{decimal}
use Rattle.objects.specs.semantics.Program.{Program, method_at}
use Rattle.jmodel.specs.history.Output.{Line, ◌and◌}
use Rattle.session.specs.declared.record.Record.{Record}
use Rattle.runner.specs.Headline.{name_in}

abbrev pub line_in : Program → Record → Line
line_in P r = record { phase = r.phase; lane = r.lane; index = r.index; method = name_in (method_at P r.method); answer = r.answer }

-- where a call stands in its script, and a space
abbrev pub place_of : Record → List ℕ
place_of r = decimal r.phase and decimal r.lane and decimal r.index and []
