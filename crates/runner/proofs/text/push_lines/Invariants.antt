use Rattle.std.proofs.Common.{◌≡◌, ◌++◌, map, take}
use Rattle.std.specs.List.{flat_map}
use Rattle.jmodel.specs.history.Output.{line_text}
use Rattle.runner.specs.Lines.{line_in}
use Rattle.runner.proofs.text.push_lines.Given as goal

abbrev pub invariant-loop-call : goal.invariant-loop-call
invariant-loop-call l = l.out ≡ l.initial.out ++ flat_map line_text (map (line_in l.program) (take l.call-index l.calls))
