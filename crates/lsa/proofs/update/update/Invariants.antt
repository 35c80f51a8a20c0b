use Rattle.std.proofs.Common.{reverse}
use Rattle.tx_table.specs.Book.{pairs}
use Rattle.tx_table.specs.Plays.{update_entry}
use Rattle.tx_table.specs.Passes.{book}
use Rattle.lsa.proofs.update.update.Given as goal

abbrev pub ghost-tick_checked : goal.ghost-tick_checked
ghost-tick_checked g a = pairs (reverse a._writes.now.items)

abbrev pub ghost-store_all : goal.ghost-store_all
ghost-store_all g a = update_entry (book a.pass.now) a._answer.value a._used.value
