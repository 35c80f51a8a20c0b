use Rattle.tl2.specs.declared.attempt.At.TheVariants.{Outside}
use Rattle.tx_table.specs.Passes.{book}
use Rattle.lsa.proofs.Owned.{holds_from}
use Rattle.lsa.proofs.Stepping.{outside_stands, stands_over, stands_rest}
use Rattle.lsa.proofs.attempt.Lsa.rollback.Goals as goal

pub give_back-requires-clause-held : goal.give_back-requires-clause-held
give_back-requires-clause-held g c = rw c.deref.ensures.value (holds_from c.args.self.now.stripes.items (book c.args.self.now.pass) c.args.self.now.sits.2)

pub returns-clause-run : goal.returns-clause-run
returns-clause-run g c = λ h n r w s.
    let e = c.args.self.now in
    outside_stands (stands_over g.C.Calling.began e.shared.now.words Outside s.kept c.give_back.new.pass h n r w
    (stands_rest g.C.Calling.began e.shared.now.words e.at s.kept e.pass c.give_back.new.pass h n r w c.give_back.ensures.same s.stands c.give_back.ensures.rest))
