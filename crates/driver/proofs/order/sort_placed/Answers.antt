use Rattle.std.proofs.Common.{ℕ, Bool, not, rules}
use Rattle.std.proofs.lemmas.List.Sorted.{answers_always}
use Rattle.std.proofs.lemmas.Result.{on_ok_weaker}
use Rattle.session.specs.declared.record.Record.{Record}
use Rattle.driver.proofs.Ranking.{ranked}
use Rattle.driver.proofs.order.sort_placed.Goals as goal

pub returns-clause-sorted : goal.returns-clause-sorted
returns-clause-sorted c =
    let key : Record → ℕ × Bool × ℕ × ℕ = λ r. (r.stamp.at, not r.stamp.update, r.lane, r.index) in
    on_ok_weaker c.sort_by_key.result
    (λ sorted. ranked c.sort_by_key.new.self.items (sorted key (answers_always _ _ _ (λ f a r f' called. search rules))))
    c.sort_by_key.ensures.sorted
