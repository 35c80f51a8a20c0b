use Rattle.std.proofs.Common.{◌≡◌, ◌++◌, ℕ, List, [], length, take, sym, ap, subst, ◌∙◌, arith}
use Rattle.std.specs.List.{flat_map}
use Rattle.std.proofs.lemmas.List.{length_push, flat_map_more, map-id}
use Rattle.std.proofs.lemmas.Iterator.Adapters.{YieldsList-from_vec}
use Rattle.std.proofs.lemmas.Iterator.Consumers.{YieldsList-turn, YieldsList-end}
use Rattle.session.specs.declared.record.Record.{Record}
use Rattle.driver.specs.declared.side.Part.{Part}
use Rattle.driver.specs.Passing.{call_count, IsJoining}
use Rattle.driver.proofs.Joining.{joins_first, may_join, sums_fit, gathers_next, gathers_all}
use Rattle.driver.proofs.Midway.{joined_long}
use Rattle.driver.proofs.Passing.{used_back}
use Rattle.driver.specs.Telling.{kept_of}
use Rattle.driver.proofs.threads.gather.Goals as goal

pub loop-end-init : goal.loop-end-init
loop-end-init g c = record {
  joining = λ b phase lanes ending.
      let t = c.args.shared.now.table.shared.table_id in
      let n = length c.args.ends.items in
      let Placed : List Record → Type 0 = λ rs. IsJoining t b phase n 0 [] rs c.new-2.result.items c.args.pass.now in
      let Parts : List Part → Type 0 = λ ps. IsJoining t b phase n 0 [] [] ps c.args.pass.now in
      subst Placed (sym c.new.ensures.items) (subst Parts (sym c.new-2.ensures.items) (joins_first t b phase n c.args.pass.now ending.split));
  placed = c.new.ensures.items;
}

pub join-requires-clause-table : goal.join-requires-clause-table
join-requires-clause-table g c =
    let ends = c.args.ends.items in
    let from = c.into_iter-end-iterator.ensures.into_iter_gives in
    let turn = YieldsList-turn (YieldsList-from_vec ends from.0 (from.1 ∙ c.args.ends.ok.0))
    c.loop-end.yielded c.loop-end.end-iterator c.loop-end.yielded_by c.next.result c.next.new.self c.in-Some.end c.in-Some.is c.next.ensures.steps in
    let k = length c.loop-end.yielded in
    let t = c.args.shared.now.table.shared.table_id in
    let given = c.requires.ending in
    let j = c.loop-end.invariant.joining given.0 given.1 given.2 given.3 in (
      j.seated.table,
      (may_join t given.0 given.1 k given.2 ends c.in-Some.end c.in_ok-lane.lane c.args.pass.now c.loop-end.pass c.in_ok-lane.other c.loop-end.side.placed.items
          c.loop-end.side.parts.items given.3 turn.0 turn.1 c.in_ok-lane.was j).0,
    )

pub join-requires-clause-free : goal.join-requires-clause-free
join-requires-clause-free g c =
    let ends = c.args.ends.items in
    let from = c.into_iter-end-iterator.ensures.into_iter_gives in
    let turn = YieldsList-turn (YieldsList-from_vec ends from.0 (from.1 ∙ c.args.ends.ok.0))
    c.loop-end.yielded c.loop-end.end-iterator c.loop-end.yielded_by c.next.result c.next.new.self c.in-Some.end c.in-Some.is c.next.ensures.steps in
    let k = length c.loop-end.yielded in
    let t = c.args.shared.now.table.shared.table_id in
    let given = c.requires.ending in
    let j = c.loop-end.invariant.joining given.0 given.1 given.2 given.3 in
    let other = may_join t given.0 given.1 k given.2 ends c.in-Some.end c.in_ok-lane.lane c.args.pass.now c.loop-end.pass c.in_ok-lane.other c.loop-end.side.placed.items
    c.loop-end.side.parts.items given.3 turn.0 turn.1 c.in_ok-lane.was j in
    (j.seated.held, j.seated.stage, other.1, other.2)

pub join-requires-clause-sums : goal.join-requires-clause-sums
join-requires-clause-sums g c =
    let ends = c.args.ends.items in
    let from = c.into_iter-end-iterator.ensures.into_iter_gives in
    let turn = YieldsList-turn (YieldsList-from_vec ends from.0 (from.1 ∙ c.args.ends.ok.0))
    c.loop-end.yielded c.loop-end.end-iterator c.loop-end.yielded_by c.next.result c.next.new.self c.in-Some.end c.in-Some.is c.next.ensures.steps in
    let k = length c.loop-end.yielded in
    let t = c.args.shared.now.table.shared.table_id in
    let given = c.requires.ending in
    let j = c.loop-end.invariant.joining given.0 given.1 given.2 given.3 in
    sums_fit t given.0 given.1 k given.2 ends c.in-Some.end c.in_ok-lane.lane c.args.pass.now c.loop-end.pass c.in_ok-lane.other c.loop-end.side.placed.items
    c.loop-end.side.parts.items given.3 turn.0 turn.1 c.in_ok-lane.was j

pub loop-end-preserved : goal.loop-end-preserved
loop-end-preserved g c =
    let ends = c.args.ends.items in
    let from = c.into_iter-end-iterator.ensures.into_iter_gives in
    let turn = YieldsList-turn (YieldsList-from_vec ends from.0 (from.1 ∙ c.args.ends.ok.0))
    c.loop-end.yielded c.loop-end.end-iterator c.loop-end.yielded_by c.next.result c.next.new.self c.in-Some.end c.in-Some.is c.next.ensures.steps in
    let k = length c.loop-end.yielded in
    let t = c.args.shared.now.table.shared.table_id in
    let more = sym (length_push c.loop-end.yielded c.in-Some.end) in
    record {
      joining = λ b phase lanes ending.
          let j = c.loop-end.invariant.joining b phase lanes ending in
          subst (λ (n : ℕ). IsJoining t b phase (length ends) (call_count (take n lanes)) (take n lanes) c.add.new.self.placed.items c.add.new.self.parts.items c.join.new.self) more
          (gathers_next t b phase k lanes ends c.in-Some.end c.in_ok-lane.lane c.args.pass.now c.loop-end.pass c.in_ok-lane.other c.loop-end.side.placed.items
          c.loop-end.side.parts.items ending turn.0 turn.1 c.in_ok-lane.was j c.join.new.self c.add.new.self.placed.items c.add.new.self.parts.items c.join.ensures.same
          c.join.ensures.book c.in_ok-add.ensures.placed c.in_ok-add.ensures.parts);
      placed =
          let kept : c.in_ok-lane.lane.placed.items ≡ kept_of c.in-Some.end = ap kept_of (sym c.in_ok-lane.was) in
          c.in_ok-add.ensures.placed ∙ ap (λ (rs : List Record). rs ++ c.in_ok-lane.lane.placed.items) c.loop-end.invariant.placed
          ∙ ap (λ (rs : List Record). flat_map kept_of c.loop-end.yielded ++ rs) kept ∙ flat_map_more kept_of [] c.loop-end.yielded c.in-Some.end;
    }

pub returns-clause-joining : goal.returns-clause-joining
returns-clause-joining g c = λ b phase lanes ending.
    let ends = c.args.ends.items in
    let from = c.into_iter-end-iterator.ensures.into_iter_gives in
    let end = YieldsList-end (YieldsList-from_vec ends from.0 (from.1 ∙ c.args.ends.ok.0))
    c.loop-end.yielded c.loop-end.end-iterator c.loop-end.yielded_by c.next.result c.next.new.self c.in-None.is c.next.ensures.steps in
    gathers_all c.args.shared.now.table.shared.table_id b phase (length c.loop-end.yielded) lanes ends c.loop-end.side.placed.items c.loop-end.side.parts.items c.args.pass.now
    c.loop-end.pass ending end.1 (c.loop-end.invariant.joining b phase lanes ending)

pub returns-clause-placed : goal.returns-clause-placed
returns-clause-placed g c =
    let ends = c.args.ends.items in
    let from = c.into_iter-end-iterator.ensures.into_iter_gives in
    let end = YieldsList-end (YieldsList-from_vec ends from.0 (from.1 ∙ c.args.ends.ok.0))
    c.loop-end.yielded c.loop-end.end-iterator c.loop-end.yielded_by c.next.result c.next.new.self c.in-None.is c.next.ensures.steps in
    c.loop-end.invariant.placed ∙ ap (flat_map kept_of) (sym (map-id c.loop-end.yielded) ∙ end.0)

pub keep_used-requires : goal.keep_used-requires
keep_used-requires g c =
    let ends = c.args.ends.items in
    let from = c.into_iter-end-iterator.ensures.into_iter_gives in
    let end = YieldsList-end (YieldsList-from_vec ends from.0 (from.1 ∙ c.args.ends.ok.0))
    c.loop-end.yielded c.loop-end.end-iterator c.loop-end.yielded_by c.next.result c.next.new.self c.in-None.is c.next.ensures.steps in
    let t = c.args.shared.now.table.shared.table_id in
    let side = c.loop-end.side in
    let p = c.loop-end.pass in
    let given = c.requires.ending in
    let j = gathers_all t given.0 given.1 (length c.loop-end.yielded) given.2 ends side.placed.items side.parts.items c.args.pass.now p given.3 end.1
    (c.loop-end.invariant.joining given.0 given.1 given.2 given.3) in
    let long = joined_long t given.0 given.1 given.2 side p j in
    rw c.as_slice.ensures.value (omega (arith, long, given.3.ended.len, c.requires.few))

pub returns-clause-used : goal.returns-clause-used
returns-clause-used g c = λ b phase lanes ending were.
    let ends = c.args.ends.items in
    let from = c.into_iter-end-iterator.ensures.into_iter_gives in
    let end = YieldsList-end (YieldsList-from_vec ends from.0 (from.1 ∙ c.args.ends.ok.0))
    c.loop-end.yielded c.loop-end.end-iterator c.loop-end.yielded_by c.next.result c.next.new.self c.in-None.is c.next.ensures.steps in
    let t = c.args.shared.now.table.shared.table_id in
    let side = c.loop-end.side in
    let p = c.loop-end.pass in
    let j = gathers_all t b phase (length c.loop-end.yielded) lanes ends side.placed.items side.parts.items c.args.pass.now p ending end.1
    (c.loop-end.invariant.joining b phase lanes ending) in
    let kept = rw c.as_slice.ensures.value at c.keep_used.ensures.lanes in
    let others = rw c.as_slice.ensures.value at c.keep_used.ensures.others in
    used_back t b phase (call_count lanes) lanes side.placed.items side.parts.items p c.args.used.now c.keep_used.new.used j were (joined_long t b phase lanes side p j) kept
    others
