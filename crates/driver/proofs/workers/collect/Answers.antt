use Rattle.std.proofs.Common.{ℕ, ◌≡◌, ◌+◌, ◌*◌, ◌^◌, length, sym, subst, ◌∙◌}
use Rattle.std.proofs.lemmas.List.{length_push, map-id}
use Rattle.std.proofs.lemmas.Iterator.Adapters.{YieldsList-from_vec}
use Rattle.std.proofs.lemmas.Iterator.Consumers.{YieldsList-turn, YieldsList-end}
use Rattle.claims.specs.Passes.{claims_of}
use Rattle.driver.specs.Bags.{lists}
use Rattle.driver.proofs.Working.{Collecting, collecting_first, collecting_more, collecting_all}
use Rattle.driver.specs.Telling.{AreSorted}
use Rattle.driver.proofs.HandedWorkers.{sorted_first, sorted_more}
use Rattle.driver.proofs.workers.collect.Goals as goal

pub loop-end-init : goal.loop-end-init
loop-end-init c = record {
  bag = c.requires.claims.0;
  collecting = λ t seen phase calls long have.
      collecting_first t seen phase calls (length c.args.ends.items) (claims_of c.args.claims.now) c.new-indexes.result.items c.new-lanes.result.items
      c.new-indexes.ensures.items c.new-lanes.ensures.items c.requires.claims.1 (subst (λ (n : ℕ). (claims_of c.args.claims.now).left + length c.args.ends.items * (n + 1) ≡ 2 ^ 32) long c.requires.left);
  sorted = sorted_first c.new-lanes.result.items c.new-indexes.result.items c.new-lanes.ensures.items c.new-indexes.ensures.items;
}

pub loop-end-preserved : goal.loop-end-preserved
loop-end-preserved c =
    let ends = c.args.ends.items in
    let from = c.into_iter-end-iterator.ensures.into_iter_gives in
    let turn = YieldsList-turn (YieldsList-from_vec ends from.0 (from.1 ∙ c.args.ends.ok.0))
    c.loop-end.yielded c.loop-end.end-iterator c.loop-end.yielded_by c.next.result c.next.new.self c.in-Some.end c.in-Some.is c.next.ensures.steps in
    let k = length c.loop-end.yielded in
    let more = sym (length_push c.loop-end.yielded c.in-Some.end) in
    let i = c.loop-end.invariant in
    record {
      bag = c.join.ensures.bag;
      collecting = λ t seen phase calls long have.
          subst (λ (n : ℕ). Collecting t seen phase calls (length ends) n (claims_of c.join.new.self) (lists c.push-in-loop-end.new.self.items) c.push.new.self.items) more
          (collecting_more t seen c.args.bag.now phase calls (length ends) k (claims_of c.loop-end.claims) (claims_of c.join.new.self) c.loop-end.indexes.items
          c.push-in-loop-end.new.self.items c.loop-end.lanes.items c.push.new.self.items ends c.in-Some.end c.in_ok-taken.taken c.in_ok-taken.other have turn.0
          turn.1 c.in_ok-taken.was c.join.ensures.claims c.in_ok-push.ensures.items c.in_ok-push-2.ensures.items (i.collecting t seen phase calls long have));
      sorted = sorted_more c.loop-end.yielded c.in-Some.end c.loop-end.lanes.items c.push.new.self.items c.loop-end.indexes.items c.push-in-loop-end.new.self.items c.in_ok-taken.taken c.in_ok-taken.other
          c.in_ok-taken.was c.in_ok-push.ensures.items c.in_ok-push-2.ensures.items i.sorted;
    }

pub returns-clause-collected : goal.returns-clause-collected
returns-clause-collected c = λ t seen phase calls long have.
    let ends = c.args.ends.items in
    let from = c.into_iter-end-iterator.ensures.into_iter_gives in
    let end = YieldsList-end (YieldsList-from_vec ends from.0 (from.1 ∙ c.args.ends.ok.0))
    c.loop-end.yielded c.loop-end.end-iterator c.loop-end.yielded_by c.next.result c.next.new.self c.in-None.is c.next.ensures.steps in
    collecting_all t seen phase calls (length ends) (length c.loop-end.yielded) (claims_of c.loop-end.claims) (lists c.loop-end.indexes.items) c.loop-end.lanes.items end.1
    (c.loop-end.invariant.collecting t seen phase calls long have)

pub returns-clause-sorted : goal.returns-clause-sorted
returns-clause-sorted c =
    let ends = c.args.ends.items in
    let from = c.into_iter-end-iterator.ensures.into_iter_gives in
    let end = YieldsList-end (YieldsList-from_vec ends from.0 (from.1 ∙ c.args.ends.ok.0))
    c.loop-end.yielded c.loop-end.end-iterator c.loop-end.yielded_by c.next.result c.next.new.self c.in-None.is c.next.ensures.steps in
    subst (λ es. AreSorted es c.loop-end.lanes.items c.loop-end.indexes.items) (sym (map-id c.loop-end.yielded) ∙ end.0) c.loop-end.invariant.sorted
