use Rattle.std.proofs.Common.{sym, ◌∙◌}
use Rattle.bytecode.proofs.Walks.{lead_pairs}
use Rattle.bytecode.proofs.targets.leads_on.Goals as goal

pub returns-then-is_marked-2 : goal.returns-then-is_marked-2
returns-then-is_marked-2 c = λ all m. rw c.in-Lookup.is (lead_pairs c.args.marks.now all c.pairs_are_marked.result c.in-Lookup.other c.in-Lookup.pairs c.as_slice-then-is_marked-2.result.now m (sym c.is_marked-in-Lookup.ensures ∙ c.if-is_marked-2.true) c.as_slice-then-is_marked-2.ensures c.pairs_are_marked.ensures)
