use Rattle.tx_table.specs.Passes.{book}
use Rattle.tl2.proofs.Stepping.{stands_begun}
use Rattle.tl2.proofs.attempt.Tl2.begin.Goals as goal

pub returns-clause-run : goal.returns-clause-run
returns-clause-run g c = λ h n s.
    let e = c.args.self.now in
    rw c.clear.ensures.items (stands_begun g.C.Calling.began e.shared.now.words e.at e.writes.items e.pass c.begin_at.new.pass h n
    (book c.begin_at.new.pass).bound (g.C.Calling.call e.call.value) c.begin_at.ensures.same c.begin_at.ensures.later c.begin_at.ensures.book s)
