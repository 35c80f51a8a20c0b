use Rattle.std.proofs.Common.{◌≡◌, ℕ, ◌*◌, IfOk, subst}
use Rattle.linking.proofs.rewritten.Counts.accessors_of.Goals as goal

pub returns : goal.returns
returns c = subst (λ (k : ℕ). IfOk c.twice.result (λ n. n ≡ 2 * k)) c.fields_in.ensures c.twice.ensures
