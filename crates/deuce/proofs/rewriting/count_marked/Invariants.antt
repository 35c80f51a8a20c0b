-- How many of those so far are marked.
use Rattle.std.proofs.Common.{◌≡◌, ◌≤◌, length, take}
use Rattle.std.specs.Prelude.{filter}
use Rattle.objects.specs.history.Journal.{is_marked}
use Rattle.deuce.proofs.rewriting.count_marked.Given as goal

abbrev pub invariant-loop-method : goal.invariant-loop-method
invariant-loop-method l = (l.count ≡ length (filter is_marked (take l.method-index l.methods))) × (l.count ≤ l.method-index)
