use Rattle.std.proofs.Common.{◌≡◌}
use Rattle.tx_table.specs.Passes.{book}
use Rattle.session.proofs.call.Making.make_claimed.Given as goal

abbrev pub ghosts-claim_over : goal.ghosts-claim_over
ghosts-claim_over g a = record { began = λ t b. (t ≡ a.shared.now.table.shared.table_id) × (b ≡ book a.pass) }
