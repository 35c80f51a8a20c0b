use Rattle.tx_table.specs.Plays.{reader_entry}
use Rattle.tx_table.specs.Passes.{book}
use Rattle.lsa.proofs.attempt.Lsa.finish_refused.Given as goal

abbrev pub ghost-finish_with : goal.ghost-finish_with
ghost-finish_with g a = reader_entry (book a.pass.now) a._answer.value
