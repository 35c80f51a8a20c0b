use Rattle.std.proofs.Common.{◌≡◌, ◌≤◌, ◌<◌, ◌++◌, ℕ, List, length, map, min, All, sym, ◌∙◌, ap, subst, arith}
use Rattle.std.specs.List.{AllByRecursion}
use Rattle.std.proofs.lemmas.List.{length-map}
use Rattle.jmodel.specs.history.Schedule.{Known, Phase, Lanes}
use Rattle.std.specs.Global.{Global}
use Rattle.std.specs.declared.vec.Vec.{Vec}
use Rattle.tx_table.specs.Passes.{book}
use Rattle.session.specs.declared.record.Record.{Record}
use Rattle.session.specs.Rule.{IsCallOf}
use Rattle.std.proofs.lemmas.Result.{IfOk-from_err}
use Rattle.driver.specs.Bags.{lists, as_lanes, IsOfWorker, numbered}
use Rattle.driver.specs.Over.{AddsPhase}
use Rattle.driver.specs.Passing.{call_count, IsMidway}
use Rattle.driver.proofs.Together.{all_under, taken_hold, few_taken}
use Rattle.driver.proofs.Bags.{adds_bag, made_inside, count_in_bag}
use Rattle.session.specs.Claimed.{calls_at}
use Rattle.driver.specs.Telling.{IsCallAt, AreTold, TellsPhase}
use Rattle.driver.proofs.ToldBags.{told_in_bag}
use Rattle.driver.proofs.run.Runner.work_bag.Goals as goal

pub by_lane-requires : goal.by_lane-requires
by_lane-requires g c =
    let B = c.args.bag.now in
    let taken = c.in_ok-first.taken.items in
    let are = c.in_ok-first.ensures.taken in
    subst (λ (vs : List (Vec ℕ Global)). AllByRecursion (AllByRecursion (λ i. i < length B)) (lists vs)) (sym c.deref.ensures.value)
    (all_under (length B) (lists taken) are)

pub add_rest-requires-clause-calls : goal.add_rest-requires-clause-calls
add_rest-requires-clause-calls g c =
    let P = c.args.self.now.original.now in
    let B = c.args.bag.now in
    let taken = c.in_ok-first.taken.items in
    let are = c.in_ok-first.ensures.taken in
    let same : c.deref-2.result.now ≡ as_lanes B (lists taken) =
    c.deref-2.ensures.value ∙ c.in_ok-by_worker.ensures ∙ ap (λ (vs : List (Vec ℕ Global)). as_lanes B (lists vs)) c.deref.ensures.value in
    subst (AllByRecursion (AllByRecursion (IsCallOf P))) (sym same) (taken_hold (IsCallOf P) B c.requires.calls (lists taken) are)

pub add_rest-requires-clause-few : goal.add_rest-requires-clause-few
add_rest-requires-clause-few g c =
    let B = c.args.bag.now in
    let taken = c.in_ok-first.taken.items in
    let are = c.in_ok-first.ensures.taken in
    let same : c.deref-2.result.now ≡ as_lanes B (lists taken) =
    c.deref-2.ensures.value ∙ c.in_ok-by_worker.ensures ∙ ap (λ (vs : List (Vec ℕ Global)). as_lanes B (lists vs)) c.deref.ensures.value in
    subst (AllByRecursion (λ (cs : List Known). length cs ≤ 100000)) (sym same) (few_taken 100000 B (lists taken) are c.requires.few)

pub add_rest-requires-clause-side : goal.add_rest-requires-clause-side
add_rest-requires-clause-side g c =
    let B = c.args.bag.now in
    let taken = c.in_ok-first.taken.items in
    let are = c.in_ok-first.ensures.taken in
    let same : c.deref-2.result.now ≡ as_lanes B (lists taken) =
    c.deref-2.ensures.value ∙ c.in_ok-by_worker.ensures ∙ ap (λ (vs : List (Vec ℕ Global)). as_lanes B (lists vs)) c.deref.ensures.value in
    let t = c.args.shared.now.table.shared.table_id in (
      book c.args.pass,
      subst (λ (l : Phase). IsMidway t (book c.args.pass) c.args.phase l c.in_ok-first.first c.bag_side.new.pass) (sym same) c.in_ok-first.ensures.midway,
    )

pub append-requires : goal.append-requires
append-requires g c =
    let B = c.args.bag.now in
    let taken = c.in_ok-first.taken.items in
    let are = c.in_ok-first.ensures.taken in
    let same : c.deref-2.result.now ≡ as_lanes B (lists taken) =
    c.deref-2.ensures.value ∙ c.in_ok-by_worker.ensures ∙ ap (λ (vs : List (Vec ℕ Global)). as_lanes B (lists vs)) c.deref.ensures.value in
    let t = c.args.shared.now.table.shared.table_id in
    let n = c.args.phase in
    let b = book c.args.pass in
    let made = c.add_rest.new.journal in
    let left = c.in_ok-left.left in
    let midway = subst (λ (l : Phase). IsMidway t b n l c.in_ok-first.first c.bag_side.new.pass) (sym same) c.in_ok-first.ensures.midway in
    let count = count_in_bag B (lists taken) are in
    let adds = subst (λ (k : ℕ). AddsPhase n k (Lanes (as_lanes B (lists taken))) b (book left) c.new-made.result made) count
    (subst (λ (l : Phase). AddsPhase n (call_count l) (Lanes l) b (book left) c.new-made.result made) same (c.in_ok-left.ensures.adds b midway)) in
    let inside = made_inside n (length B) B (lists taken) b (book left) c.new-made.result made are c.new-made.ensures.placed c.new-made.ensures.unplaced adds in
    subst (λ (vs : List (Vec ℕ Global)). All (IsOfWorker (lists vs)) made.placed.items × All (IsOfWorker (lists vs)) made.unplaced.items) (sym c.deref-3.ensures.value) inside

pub returns-clause-adds : goal.returns-clause-adds
returns-clause-adds g c = λ lanes some.
    let B = c.args.bag.now in
    let taken = c.in_ok-first.taken.items in
    let are = c.in_ok-first.ensures.taken in
    let same : c.deref-2.result.now ≡ as_lanes B (lists taken) =
    c.deref-2.ensures.value ∙ c.in_ok-by_worker.ensures ∙ ap (λ (vs : List (Vec ℕ Global)). as_lanes B (lists vs)) c.deref.ensures.value in
    let t = c.args.shared.now.table.shared.table_id in
    let n = c.args.phase in
    let b = book c.args.pass in
    let made = c.add_rest.new.journal in
    let left = c.in_ok-left.left in
    let midway = subst (λ (l : Phase). IsMidway t b n l c.in_ok-first.first c.bag_side.new.pass) (sym same) c.in_ok-first.ensures.midway in
    let count = count_in_bag B (lists taken) are in
    let adds = subst (λ (k : ℕ). AddsPhase n k (Lanes (as_lanes B (lists taken))) b (book left) c.new-made.result made) count
    (subst (λ (l : Phase). AddsPhase n (call_count l) (Lanes l) b (book left) c.new-made.result made) same (c.in_ok-left.ensures.adds b midway)) in
    let old = c.args.journal.now in
    let placed = c.in_ok-append.ensures.placed ∙ ap (λ (vs : List (Vec ℕ Global)). old.placed.items ++ map (numbered (lists vs)) made.placed.items) c.deref-3.ensures.value in
    let unplaced = c.in_ok-append.ensures.unplaced ∙ ap (λ (vs : List (Vec ℕ Global)). old.unplaced.items ++ map (numbered (lists vs)) made.unplaced.items) c.deref-3.ensures.value in
    let long = length-map taken (λ (v : Vec ℕ Global). v.items) in
    let few : length (lists taken) ≤ min lanes (length B) = omega (arith, c.in_ok-first.ensures.len, long, some, c.requires.workers.2) in
    adds_bag n (length B) lanes B (lists taken) b (book left) c.new-made.result made old c.append.new.self are few c.new-made.ensures.placed c.new-made.ensures.unplaced adds
    placed unplaced

pub returns-clause-told : goal.returns-clause-told
returns-clause-told g c = λ lanes some.
    let B = c.args.bag.now in
    let Q = c.args.self.now.rewritten.now in
    let limits = c.args.self.now.limits in
    let taken = c.in_ok-first.taken.items in
    let are = c.in_ok-first.ensures.taken in
    let ls = as_lanes B (lists taken) in
    let same : c.deref-2.result.now ≡ ls =
    c.deref-2.ensures.value ∙ c.in_ok-by_worker.ensures ∙ ap (λ (vs : List (Vec ℕ Global)). as_lanes B (lists vs)) c.deref.ensures.value in
    let t = c.args.shared.now.table.shared.table_id in
    let n = c.args.phase in
    let b = book c.args.pass in
    let made = c.add_rest.new.journal in
    let midway = subst (λ (l : Phase). IsMidway t b n l c.in_ok-first.first c.bag_side.new.pass) (sym same) c.in_ok-first.ensures.midway in
    let T = g.G.Gate.told in
    let x = map T c.args.kept.now.gates.items in
    let y = map T c.bag_side.new.kept.gates.items in
    let z = map T c.add_rest.new.kept.gates.items in
    let long : length ls ≡ c.args.workers = length-map (lists taken) (calls_at B) ∙ length-map taken (λ (v : Vec ℕ Global). v.items) ∙ c.in_ok-first.ensures.len in
    let first = subst (λ (k : ℕ). AreTold Q limits (IsCallAt n (Lanes ls)) k c.in_ok-first.first.placed.items x y) (sym long) c.in_ok-first.ensures.told in
    let started = subst (λ (l : Phase). AreTold Q limits (IsCallAt n (Lanes l)) (length l) c.in_ok-first.first.placed.items x y) (sym same) first in
    let told = c.in_ok-left.ensures.told b x midway started in
    let old = c.args.journal.now in
    let all = subst (λ (rs : List Record). TellsPhase Q limits n (Lanes ls) rs made.placed.items x z) c.new-made.ensures.placed
    (subst (λ (l : Phase). TellsPhase Q limits n (Lanes l) c.new-made.result.placed.items made.placed.items x z) same told) in
    let placed = c.in_ok-append.ensures.placed ∙ ap (λ (vs : List (Vec ℕ Global)). old.placed.items ++ map (numbered (lists vs)) made.placed.items) c.deref-3.ensures.value in
    let few : length (lists taken) ≤ lanes = omega (arith, c.in_ok-first.ensures.len, length-map taken (λ (v : Vec ℕ Global). v.items), some) in
    told_in_bag n B (lists taken) are Q limits lanes few made.placed.items old.placed.items c.append.new.self.placed.items x z all
    placed

pub bag_side-requires-clause-ready : goal.bag_side-requires-clause-ready
bag_side-requires-clause-ready g c = λ κs lives. c.requires.ready

pub bag_side-requires-clause-calls : goal.bag_side-requires-clause-calls
bag_side-requires-clause-calls g c = λ κs lives. c.requires.calls

pub bag_side-requires-clause-few : goal.bag_side-requires-clause-few
bag_side-requires-clause-few g c = λ κs lives. c.requires.few

pub bag_side-requires-clause-attempts : goal.bag_side-requires-clause-attempts
bag_side-requires-clause-attempts g c = λ κs lives. c.requires.attempts

pub bag_side-requires-clause-room_size : goal.bag_side-requires-clause-room_size
bag_side-requires-clause-room_size g c = λ κs lives. c.requires.room_size

pub bag_side-requires-clause-rule : goal.bag_side-requires-clause-rule
bag_side-requires-clause-rule g c = λ κs lives. c.requires.rule

pub bag_side-requires-clause-states : goal.bag_side-requires-clause-states
bag_side-requires-clause-states g c = λ κs lives. c.requires.states

pub bag_side-requires-clause-pass : goal.bag_side-requires-clause-pass
bag_side-requires-clause-pass g c = λ κs lives. c.requires.pass

pub bag_side-requires-clause-room : goal.bag_side-requires-clause-room
bag_side-requires-clause-room g c = λ κs lives. c.requires.room

pub bag_side-requires-clause-used : goal.bag_side-requires-clause-used
bag_side-requires-clause-used g c = λ κs lives. c.requires.used

pub bag_side-requires-clause-gates : goal.bag_side-requires-clause-gates
bag_side-requires-clause-gates g c = λ κs lives. c.requires.gates

pub bag_side-requires-clause-workers : goal.bag_side-requires-clause-workers
bag_side-requires-clause-workers g c = λ κs lives. (c.requires.workers.0, c.requires.workers.1)

pub add_rest-requires-clause-ready : goal.add_rest-requires-clause-ready
add_rest-requires-clause-ready g c = c.requires.ready

pub add_rest-requires-clause-attempts : goal.add_rest-requires-clause-attempts
add_rest-requires-clause-attempts g c = c.requires.attempts

pub add_rest-requires-clause-room_size : goal.add_rest-requires-clause-room_size
add_rest-requires-clause-room_size g c = c.requires.room_size

pub add_rest-requires-clause-rule : goal.add_rest-requires-clause-rule
add_rest-requires-clause-rule g c = c.requires.rule

pub add_rest-requires-clause-states : goal.add_rest-requires-clause-states
add_rest-requires-clause-states g c = c.requires.states

pub add_rest-requires-clause-lanes : goal.add_rest-requires-clause-lanes
add_rest-requires-clause-lanes g c =
    let B = c.args.bag.now in
    let taken = c.in_ok-first.taken.items in
    let same : c.deref-2.result.now ≡ as_lanes B (lists taken) =
    c.deref-2.ensures.value ∙ c.in_ok-by_worker.ensures ∙ ap (λ (vs : List (Vec ℕ Global)). as_lanes B (lists vs)) c.deref.ensures.value in
    omega (arith, ap length same, length-map (lists taken) (calls_at B), length-map taken (λ (v : Vec ℕ Global). v.items), c.in_ok-first.ensures.len, c.requires.workers.1)

pub add_rest-requires-clause-used : goal.add_rest-requires-clause-used
add_rest-requires-clause-used g c = c.in_ok-first.ensures.used

pub add_rest-requires-clause-gates : goal.add_rest-requires-clause-gates
add_rest-requires-clause-gates g c =
    let T = g.G.Gate.told in
    omega (arith, c.in_ok-first.ensures.told.len, length-map c.bag_side.new.kept.gates.items T, length-map c.args.kept.now.gates.items T, c.requires.gates)

pub returns-clause-whole : goal.returns-clause-whole
returns-clause-whole g c = c.in_ok-left.ensures.whole

pub returns-clause-used : goal.returns-clause-used
returns-clause-used g c = c.in_ok-left.ensures.used

pub returns-in_err-first : goal.returns-in_err-first
returns-in_err-first g c =
    let none = c.from_residual.ensures.0 in
    record {
      whole = IfOk-from_err _ _ none;
      used = IfOk-from_err _ _ none;
      adds = λ _ _. IfOk-from_err _ _ none;
      told = λ _ _. IfOk-from_err _ _ none;
    }

pub returns-in_err-by_worker : goal.returns-in_err-by_worker
returns-in_err-by_worker g c =
    let none = c.from_residual-in_err-by_worker.ensures.0 in
    record {
      whole = IfOk-from_err _ _ none;
      used = IfOk-from_err _ _ none;
      adds = λ _ _. IfOk-from_err _ _ none;
      told = λ _ _. IfOk-from_err _ _ none;
    }

pub returns-in_err-left : goal.returns-in_err-left
returns-in_err-left g c =
    let none = c.from_residual-in_err-left.ensures.0 in
    record {
      whole = IfOk-from_err _ _ none;
      used = IfOk-from_err _ _ none;
      adds = λ _ _. IfOk-from_err _ _ none;
      told = λ _ _. IfOk-from_err _ _ none;
    }

pub returns-in_err-append : goal.returns-in_err-append
returns-in_err-append g c =
    let none = c.from_residual-in_err-append.ensures.0 in
    record {
      whole = IfOk-from_err _ _ none;
      used = IfOk-from_err _ _ none;
      adds = λ _ _. IfOk-from_err _ _ none;
      told = λ _ _. IfOk-from_err _ _ none;
    }
