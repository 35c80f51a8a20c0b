use Rattle.std.proofs.Common.{◌≡◌, drop}
use Rattle.objects.specs.semantics.Step.{find_catch}
use Rattle.hierarchy.proofs.program.Method.catch.Given as goal

-- the entries before this one don't take the exception here
abbrev pub invariant-loop-entry : goal.invariant-loop-entry
invariant-loop-entry l = find_catch l.program (drop l.entry-index l.entry-items) l.pc l.of ≡ find_catch l.program l.entry-items l.pc l.of
