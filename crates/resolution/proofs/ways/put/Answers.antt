use Rattle.std.proofs.Common.{sym, ◌∙◌, false, arith}
use Rattle.std.proofs.lemmas.List.{get_or_read}
use Rattle.resolution.proofs.Finding.{again}
use Rattle.resolution.proofs.ways.put.Goals as goal

pub returns-then-index-clause-same : goal.returns-then-index-clause-same
returns-then-index-clause-same c = λ test.
    sym (again test c.args.list.now.items c.args.place (c.requires c.args.place (sym (get_or_read c.args.marks.now.items _ _ (omega arith) c.index.ensures false) ∙ c.if-index.true)))
