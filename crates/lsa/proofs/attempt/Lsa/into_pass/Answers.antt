use Rattle.tx_table.specs.Passes.{book}
use Rattle.lsa.proofs.Owned.{holds_from}
use Rattle.lsa.proofs.Stepping.{keeps_rest}
use Rattle.lsa.proofs.attempt.Lsa.into_pass.Goals as goal

pub give_back-requires-clause-held : goal.give_back-requires-clause-held
give_back-requires-clause-held g c = rw c.deref.ensures.value (holds_from c.args.self.stripes.items (book c.args.self.pass) c.args.self.sits.2)

pub returns-clause-keeps : goal.returns-clause-keeps
returns-clause-keeps g c = keeps_rest g.C.Calling.began c.args.self.pass c.give_back.new.pass c.give_back.ensures.same c.give_back.ensures.rest
