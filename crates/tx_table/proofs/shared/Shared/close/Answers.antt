use Rattle.std.proofs.Common.{ℕ, List, ◌+◌, get_or, ap, ◌∙◌, sym}
use Rattle.tx_table.proofs.Closing.{ends}
use Rattle.tx_table.proofs.shared.Shared.close.Goals as goal

pub returns-clause-ok : goal.returns-clause-ok
returns-clause-ok g c = let f = c.close_with-closed.ensures.values in
    ends (g.T.Story.story c.args.self.table.shared.key.story.value) f.2.0 f.2.1.0 c.args.pass.seat.id c.args.pass.seat.me.0 f.2.1.1 c.requires.gathered.0 c.requires.gathered.1 c.copy_heap.new.heap.items
    (λ a. c.copy_heap.ensures.words a ∙ ap (λ (ws : List ℕ). get_or ws (a + 4097) 0) (sym f.2.2))
