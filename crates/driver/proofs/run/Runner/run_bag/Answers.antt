use Rattle.std.proofs.Common.{◌≡◌, ◌+◌, ℕ, List, [], ◌∷◌, ◌≤◌, length, map, sym, ◌∙◌, ap, subst, arith}
use Rattle.std.specs.List.{AllByRecursion}
use Rattle.jmodel.specs.history.Schedule.{Known, Phase, Lanes, Bag}
use Rattle.tx_table.specs.declared.shared.Pass.{Pass}
use Rattle.tx_table.specs.Passes.{book}
use Rattle.driver.specs.Over.{AddsPhase}
use Rattle.session.specs.Rule.{IsCallOf}
use Rattle.driver.specs.Passing.{call_count, HasRoom}
use Rattle.driver.proofs.Bags.{adds_alone}
use Rattle.driver.proofs.Lists.{on_ok}
use Rattle.driver.specs.Telling.{TellsPhase}
use Rattle.driver.proofs.ToldBags.{told_alone}
use Rattle.driver.proofs.run.Runner.run_bag.Goals as goal

pub returns-then-workers-lt2-clause-adds : goal.returns-then-workers-lt2-clause-adds
returns-then-workers-lt2-clause-adds g c =
    let cs = c.args.calls.now in
    let n = c.args.phase in
    let ls = c.from_ref.result.now in
    let b = book c.args.pass in
    let old = c.args.journal.now in
    let new = c.run_lanes.new.journal in
    on_ok c.run_lanes.result (λ (left : Pass). AddsPhase n (call_count ls) (Lanes ls) b (book left) old new)
    (λ (left : Pass). AddsPhase n (call_count (cs ∷ [])) (Bag c.args.lanes cs) b (book left) old new)
    (λ left adds. adds_alone n (call_count (cs ∷ [])) c.args.lanes cs b (book left) old new c.requires.lanes.0
    (subst (λ (l : Phase). AddsPhase n (call_count l) (Lanes l) b (book left) old new) c.from_ref.ensures.value adds)) c.run_lanes.ensures.adds

pub returns-clause-adds : goal.returns-clause-adds
returns-clause-adds g c =
    let cs = c.args.calls.now in
    let n = c.args.phase in
    let B = c.as_slice-bag.result.now in
    let b = book c.args.pass in
    let old = c.args.journal.now in
    let new = c.work_bag.new.journal in
    let bag : B ≡ cs = c.as_slice-bag.ensures.value ∙ c.calls.view_is in
    let count : length B ≡ length cs + 0 = (let long = ap length bag in omega arith) in
    on_ok c.work_bag.result (λ (left : Pass). AddsPhase n (length B) (Bag c.args.lanes B) b (book left) old new)
    (λ (left : Pass). AddsPhase n (call_count (cs ∷ [])) (Bag c.args.lanes cs) b (book left) old new)
    (λ left adds. subst (λ (k : ℕ). AddsPhase n k (Bag c.args.lanes cs) b (book left) old new) count
    (subst (λ (l : List Known). AddsPhase n (length B) (Bag c.args.lanes l) b (book left) old new) bag adds))
    (c.work_bag.ensures.adds c.args.lanes (omega (arith, c.min-workers.ensures)))

pub returns-then-workers-lt2-clause-told : goal.returns-then-workers-lt2-clause-told
returns-then-workers-lt2-clause-told g c =
    let Q = c.args.self.now.rewritten.now in
    let limits = c.args.self.now.limits in
    let cs = c.args.calls.now in
    let n = c.args.phase in
    let old = c.args.journal.now.placed.items in
    let new = c.run_lanes.new.journal.placed.items in
    let x = map g.G.Gate.told c.args.kept.now.gates.items in
    let z = map g.G.Gate.told c.run_lanes.new.kept.gates.items in
    on_ok c.run_lanes.result (λ (left : Pass). TellsPhase Q limits n (Lanes c.from_ref.result.now) old new x z) (λ (left : Pass). TellsPhase Q limits n (Bag c.args.lanes cs) old new x z)
    (λ left told. told_alone Q limits n c.args.lanes cs old new x z c.requires.lanes.0
    (subst (λ (l : Phase). TellsPhase Q limits n (Lanes l) old new x z) c.from_ref.ensures.value told)) c.run_lanes.ensures.told

pub returns-clause-told : goal.returns-clause-told
returns-clause-told g c =
    let Q = c.args.self.now.rewritten.now in
    let limits = c.args.self.now.limits in
    let cs = c.args.calls.now in
    let n = c.args.phase in
    let B = c.as_slice-bag.result.now in
    let bag : B ≡ cs = c.as_slice-bag.ensures.value ∙ c.calls.view_is in
    let old = c.args.journal.now.placed.items in
    let new = c.work_bag.new.journal.placed.items in
    let x = map g.G.Gate.told c.args.kept.now.gates.items in
    let z = map g.G.Gate.told c.work_bag.new.kept.gates.items in
    on_ok c.work_bag.result (λ (left : Pass). TellsPhase Q limits n (Bag c.args.lanes B) old new x z) (λ (left : Pass). TellsPhase Q limits n (Bag c.args.lanes cs) old new x z)
    (λ left told. subst (λ (l : List Known). TellsPhase Q limits n (Bag c.args.lanes l) old new x z) bag told)
    (c.work_bag.ensures.told c.args.lanes (omega (arith, c.min-workers.ensures)))

pub run_lanes-requires-clause-ready : goal.run_lanes-requires-clause-ready
run_lanes-requires-clause-ready g c = λ κs lives. c.requires.ready

pub run_lanes-requires-clause-attempts : goal.run_lanes-requires-clause-attempts
run_lanes-requires-clause-attempts g c = λ κs lives. c.requires.attempts

pub run_lanes-requires-clause-room_size : goal.run_lanes-requires-clause-room_size
run_lanes-requires-clause-room_size g c = λ κs lives. c.requires.room_size

pub run_lanes-requires-clause-rule : goal.run_lanes-requires-clause-rule
run_lanes-requires-clause-rule g c = λ κs lives. c.requires.rule

pub run_lanes-requires-clause-states : goal.run_lanes-requires-clause-states
run_lanes-requires-clause-states g c = λ κs lives. c.requires.states

pub run_lanes-requires-clause-pass : goal.run_lanes-requires-clause-pass
run_lanes-requires-clause-pass g c = λ κs lives. c.requires.pass

pub run_lanes-requires-clause-used : goal.run_lanes-requires-clause-used
run_lanes-requires-clause-used g c = λ κs lives. c.requires.used

pub run_lanes-requires-clause-gates : goal.run_lanes-requires-clause-gates
run_lanes-requires-clause-gates g c = λ κs lives. c.requires.gates

pub work_bag-requires-clause-ready : goal.work_bag-requires-clause-ready
work_bag-requires-clause-ready g c = λ κs lives. c.requires.ready

pub work_bag-requires-clause-attempts : goal.work_bag-requires-clause-attempts
work_bag-requires-clause-attempts g c = λ κs lives. c.requires.attempts

pub work_bag-requires-clause-room_size : goal.work_bag-requires-clause-room_size
work_bag-requires-clause-room_size g c = λ κs lives. c.requires.room_size

pub work_bag-requires-clause-rule : goal.work_bag-requires-clause-rule
work_bag-requires-clause-rule g c = λ κs lives. c.requires.rule

pub work_bag-requires-clause-states : goal.work_bag-requires-clause-states
work_bag-requires-clause-states g c = λ κs lives. c.requires.states

pub work_bag-requires-clause-pass : goal.work_bag-requires-clause-pass
work_bag-requires-clause-pass g c = λ κs lives. c.requires.pass

pub work_bag-requires-clause-used : goal.work_bag-requires-clause-used
work_bag-requires-clause-used g c = λ κs lives. c.requires.used

pub work_bag-requires-clause-gates : goal.work_bag-requires-clause-gates
work_bag-requires-clause-gates g c = λ κs lives. c.requires.gates

pub returns-then-workers-lt2-clause-whole : goal.returns-then-workers-lt2-clause-whole
returns-then-workers-lt2-clause-whole g c = c.run_lanes.ensures.whole

pub returns-then-workers-lt2-clause-used : goal.returns-then-workers-lt2-clause-used
returns-then-workers-lt2-clause-used g c = c.run_lanes.ensures.used

pub returns-clause-whole : goal.returns-clause-whole
returns-clause-whole g c = c.work_bag.ensures.whole

pub returns-clause-used : goal.returns-clause-used
returns-clause-used g c = c.work_bag.ensures.used

pub run_lanes-requires-clause-calls : goal.run_lanes-requires-clause-calls
run_lanes-requires-clause-calls g c = λ κs lives.
    subst (AllByRecursion (AllByRecursion (IsCallOf c.args.self.now.original.now))) (sym c.from_ref.ensures.value) (c.requires.calls, tt)

pub run_lanes-requires-clause-few : goal.run_lanes-requires-clause-few
run_lanes-requires-clause-few g c = λ κs lives.
    subst (AllByRecursion (λ (cs : List Known). length cs ≤ 100000)) (sym c.from_ref.ensures.value) (c.requires.few, tt)

pub run_lanes-requires-clause-room : goal.run_lanes-requires-clause-room
run_lanes-requires-clause-room g c = λ κs lives.
    subst (λ (l : Phase). HasRoom (call_count l) (book c.args.pass)) (sym c.from_ref.ensures.value) c.requires.room

pub work_bag-requires-clause-calls : goal.work_bag-requires-clause-calls
work_bag-requires-clause-calls g c = λ κs lives.
    subst (AllByRecursion (IsCallOf c.args.self.now.original.now)) (sym (c.as_slice-bag.ensures.value ∙ c.calls.view_is)) c.requires.calls

pub work_bag-requires-clause-few : goal.work_bag-requires-clause-few
work_bag-requires-clause-few g c = λ κs lives.
    subst (λ (cs : List Known). length cs ≤ 100000) (sym (c.as_slice-bag.ensures.value ∙ c.calls.view_is)) c.requires.few

pub work_bag-requires-clause-room : goal.work_bag-requires-clause-room
work_bag-requires-clause-room g c = λ κs lives.
    let bag : c.as_slice-bag.result.now ≡ c.args.calls.now = c.as_slice-bag.ensures.value ∙ c.calls.view_is in
    let count : length c.args.calls.now + 0 ≡ length c.as_slice-bag.result.now = (let long = ap length bag in omega arith) in
    subst (λ (n : ℕ). HasRoom n (book c.args.pass)) count c.requires.room
