use Rattle.std.proofs.Common.{◌≡◌}
use Rattle.tx_table.specs.Passes.{book}
use Rattle.session.proofs.call.Making.make_shared.Given as goal

abbrev pub ghosts-make_over : goal.ghosts-make_over
ghosts-make_over g a = record { began = λ t b. (t ≡ a.shared.now.table.shared.table_id) × (b ≡ book a.pass) }
