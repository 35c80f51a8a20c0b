use Rattle.std.proofs.Common.{sym}
use Rattle.tl2.specs.declared.attempt.At.TheVariants.{Outside}
use Rattle.tx_table.specs.Passes.{book}
use Rattle.tl2.proofs.Stepping.{stands_begun}
use Rattle.lsa.proofs.Owned.{holds_from}
use Rattle.lsa.proofs.Stepping.{standing, stands_rest}
use Rattle.lsa.proofs.attempt.Lsa.begin.Goals as goal

pub give_back-requires-clause-held : goal.give_back-requires-clause-held
give_back-requires-clause-held g c = rw c.deref.ensures.value (holds_from c.args.self.now.stripes.items (book c.args.self.now.pass) c.args.self.now.sits.2)

pub returns-clause-run : goal.returns-clause-run
returns-clause-run g c = λ h n s.
    let e = c.args.self.now in
    let p = c.give_back.new.pass in
    let rested = stands_rest g.C.Calling.began e.shared.now.words e.at s.kept e.pass p h n _ _ c.give_back.ensures.same s.stands c.give_back.ensures.rest in
    standing (sym c.clear-3.ensures.items) (stands_begun g.C.Calling.began e.shared.now.words Outside s.kept p c.begin_at.new.pass h n
    (book c.begin_at.new.pass).bound (g.C.Calling.call e.call.value) c.begin_at.ensures.same c.begin_at.ensures.later c.begin_at.ensures.book rested)
