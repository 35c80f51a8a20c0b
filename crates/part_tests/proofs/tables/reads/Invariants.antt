use Rattle.tx_table.specs.Plays.{no_call}
use Rattle.part_tests.proofs.tables.reads.Given as goal

abbrev pub ghost-begin : goal.ghost-begin
ghost-begin g a = no_call
