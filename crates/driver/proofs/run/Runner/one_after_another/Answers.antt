use Rattle.std.proofs.Common.{◌≡◌, ◌≤◌, ◌^◌, ℕ, List, [], length, map, set, take, drop, None, ◌<◌, ◌+◌, get_or, refl, sym, ap, ◌∙◌, subst, arith}
use Rattle.std.specs.List.{AllByRecursion}
use Rattle.std.proofs.lemmas.List.{get_or_default, take_all}
use Rattle.jmodel.specs.history.History.{Entry}
use Rattle.jmodel.specs.history.Schedule.{Known, Phase}
use Rattle.tx_table.specs.Passes.{book}
use Rattle.session.specs.declared.record.Record.{Record}
use Rattle.session.specs.Rule.{IsRuled, IsCallOf}
use Rattle.machine.specs.declared.machine.Limits.{Limits as CallLimits}
use Rattle.std.proofs.lemmas.Result.{IfOk-from_err}
use Rattle.driver.specs.declared.side.Part.{Part}
use Rattle.driver.specs.Sides.{AreWhole}
use Rattle.driver.specs.Memory.{AreOfStates}
use Rattle.driver.specs.Passing.{call_count, IsResting}
use Rattle.driver.proofs.Lists.{all_here, insert_removed, zip_here}
use Rattle.std.specs.List.{insert}
use Rattle.driver.proofs.Midway.{may_go_on, goes_on, whole_on}
use Rattle.driver.proofs.Passing.{used_on}
use Rattle.driver.proofs.Places.{IsFew}
use Rattle.jmodel.specs.history.Schedule.{Lanes}
use Rattle.driver.specs.Telling.{IsCallAt}
use Rattle.machine.specs.Machine.{bounds_of}
use Rattle.objects.specs.rewriting.Events.{Grows}
use Rattle.session.specs.Telling.{IsRecordOf, HasTold}
use Rattle.std.proofs.lemmas.List.{length-map}
use Rattle.driver.proofs.Handing.{told_got, told_set_here, told_set_other, told_set_long}
use Rattle.driver.proofs.Told.{told_nothing, told_turn}
use Rattle.driver.proofs.run.Runner.one_after_another.Goals as goal

-- each lane has a gate
has_gate : (n lanes now first : ℕ) → n < lanes → lanes ≤ 16 → 16 ≤ first → now ≡ first → n < now
has_gate n lanes now first inside few some same = omega arith

pub loop-number-init : goal.loop-number-init
loop-number-init g c =
    let t = c.args.shared.now.table.shared.table_id in
    let b = book c.args.pass in
    let Placed : List Record → Type 0 = λ rs. IsResting t b c.args.phase 0 [] [] rs c.new-2.result.items c.args.pass in
    let Parts : List Part → Type 0 = λ ps. IsResting t b c.args.phase 0 [] [] [] ps c.args.pass in
    record {
      resting = subst Placed (sym c.new.ensures.items) (subst Parts (sym c.new-2.ensures.items) c.requires.resting);
      used = c.requires.used;
      whole = subst (AreWhole [] []) (sym c.new-2.ensures.items) tt;
      told = told_nothing c.args.self.now.rewritten.now c.args.self.now.limits (IsCallAt c.args.phase (Lanes c.args.lanes.now)) (length c.args.lanes.now) c.new.result.items (map g.G.Gate.told c.args.kept.now.gates.items) c.new.ensures.items;
    }

pub overflow_cast-at-in-loop-number : goal.overflow_cast-at-in-loop-number
overflow_cast-at-in-loop-number g c =
    let cs = c.index-lanes-number.result in
    let few = all_here IsFew c.args.lanes.now c.loop-number.number cs c.requires.few c.loop-number-test.true c.index-lanes-number.is in
    let within = zip_here (λ (l : List Known) (n : ℕ). n ≤ length l) c.args.lanes.now c.args.firsts.now c.loop-number.number cs 0 c.requires.within
    c.loop-number-test.true c.index-lanes-number.is in
    omega (arith, few, within)

pub make_rest-requires-clause-calls : goal.make_rest-requires-clause-calls
make_rest-requires-clause-calls g c =
    rw (c.deref.ensures.value ∙ c.lane.view_is)
    (all_here (AllByRecursion (IsCallOf c.args.self.now.original.now)) c.args.lanes.now c.loop-number.number c.index-lanes-number.result c.requires.calls
    c.loop-number-test.true c.index-lanes-number.is)

pub make_rest-requires-clause-few : goal.make_rest-requires-clause-few
make_rest-requires-clause-few g c =
    rw (c.deref.ensures.value ∙ c.lane.view_is)
    (all_here IsFew c.args.lanes.now c.loop-number.number c.index-lanes-number.result c.requires.few c.loop-number-test.true c.index-lanes-number.is)

pub make_rest-requires-clause-within : goal.make_rest-requires-clause-within
make_rest-requires-clause-within g c =
    rw (c.deref.ensures.value ∙ c.lane.view_is)
    (zip_here (λ (l : List Known) (n : ℕ). n ≤ length l) c.args.lanes.now c.args.firsts.now c.loop-number.number c.index-lanes-number.result 0 c.requires.within
    c.loop-number-test.true c.index-lanes-number.is)

pub make_rest-requires-clause-region : goal.make_rest-requires-clause-region
make_rest-requires-clause-region g c =
    let region = ap (λ (l : CallLimits). l.room.region) c.in_region.ensures in
    omega (arith, region, c.loop-number-test.true, c.requires.lanes)

pub make_rest-requires-clause-room_size : goal.make_rest-requires-clause-room_size
make_rest-requires-clause-room_size g c =
    let size = ap (λ (l : CallLimits). l.room.size) c.in_region.ensures in
    omega (arith, size, c.requires.room_size)

pub make_rest-requires-clause-pass : goal.make_rest-requires-clause-pass
make_rest-requires-clause-pass g c =
    let t = c.args.shared.now.table.shared.table_id in
    let n = c.loop-number.number in
    let lanes = c.args.lanes.now in
    let firsts = c.args.firsts.now in
    let cs = c.index-lanes-number.result in
    let inside = c.loop-number-test.true in
    let first = get_or firsts n 0 in
    let here = c.index-lanes-number.is ∙ get_or_default lanes n cs [] inside in
    let used = ap (λ (l : CallLimits). l.room.used) c.in_region.ensures ∙ c.loop-number.invariant.used n (omega (arith, inside, c.requires.lanes)) in
    rw (c.deref.ensures.value ∙ c.lane.view_is, used)
    (may_go_on t (book c.args.pass) c.args.phase n first lanes firsts cs c.loop-number.side.placed.items c.loop-number.side.parts.items c.loop-number.pass inside here
    c.requires.firsts refl c.loop-number.invariant.resting c.requires.ticks (c.requires.begins n inside))

pub loop-number-preserved : goal.loop-number-preserved
loop-number-preserved g c =
    let t = c.args.shared.now.table.shared.table_id in
    let n = c.loop-number.number in
    let lanes = c.args.lanes.now in
    let firsts = c.args.firsts.now in
    let cs = c.index-lanes-number.result in
    let inside = c.loop-number-test.true in
    let first = get_or firsts n 0 in
    let here = c.index-lanes-number.is ∙ get_or_default lanes n cs [] inside in
    let i = c.loop-number.invariant in
    let b = book c.args.pass in
    let within = zip_here (λ (l : List Known) (k : ℕ). k ≤ length l) lanes firsts n cs 0 c.requires.within inside c.index-lanes-number.is in
    let is = c.deref.ensures.value ∙ c.lane.view_is in
    let numbers : (book c.loop-number.pass).numbers ≡ 2 ^ 20 = i.resting.numbers ∙ c.requires.numbers in
    let made = rw is at c.in_ok-made.ensures.made in
    let all = rw is at (c.in_ok-made.ensures.all numbers) in
    let placed_is = c.in_ok-add.ensures.placed in
    let parts_is = c.in_ok-add.ensures.parts in
    record {
      resting = goes_on t b c.args.phase n first lanes firsts cs c.loop-number.side.placed.items c.loop-number.side.parts.items c.loop-number.pass inside here c.requires.firsts
          refl i.resting c.in_ok-made.made made.0 c.in_ok-made.left within c.add.new.self.placed.items c.add.new.self.parts.items placed_is parts_is
          c.in_region.result.room.used c.in_ok-made.made.used made.1 made.2;
      used = used_on t (record { phase = c.args.phase; lane = n; first = first }) c.in_region.result.room.used _ c.in_ok-made.made.made c.in_ok-made.made.used _
          c.in_ok-made.made made.0 c.loop-number.pass c.in_ok-made.left c.loop-number.kept.used (omega (arith, inside, c.requires.lanes)) made.1 made.2 i.used;
      whole = whole_on t b c.args.phase n first lanes firsts cs c.loop-number.side.placed.items c.loop-number.side.parts.items c.loop-number.pass inside here c.requires.firsts
          refl i.resting c.in_ok-made.made made.0 c.in_ok-made.left within c.add.new.self.placed.items c.add.new.self.parts.items placed_is parts_is i.whole all;
      told =
          let T = g.G.Gate.told in
          let gs = c.loop-number.kept.gates.items in
          let gate = c.in_ok-made.gate in
          let old = c.remove-gate.result in
          let first_gates = c.args.kept.now.gates.items in
          let low : n < length gs =
          has_gate n (length lanes) (length gs) (length first_gates) inside c.requires.lanes c.requires.gates (sym (length-map gs T) ∙ i.told.len ∙ length-map first_gates T) in
          let more = c.in_ok-made.made.placed.items in
          let has = rw is at c.in_ok-made.ensures.told in
          let before = told_got T gs n old low c.remove-gate.ensures.value in
          let after = told_set_here T gs n gate low in
          let back : c.insert.new.self.items ≡ set gs n gate = c.in_ok-insert.ensures.items ∙ ap (λ l. insert l n gate) c.remove-gate.ensures.items ∙ insert_removed gs n gate low in
          rw back (
          told_turn c.args.self.now.rewritten.now c.args.self.now.limits c.args.phase n first lanes cs c.in_region.result (n + 1) (get_or c.loop-number.kept.used n 0) c.loop-number.side.placed.items more c.add.new.self.placed.items
          (map T c.args.kept.now.gates.items) (map T gs) (map T (set gs n gate)) inside here c.in_region.ensures (omega arith)
          (subst (λ a. HasTold c.args.self.now.rewritten.now (bounds_of c.in_region.result) (IsRecordOf (record { phase = c.args.phase; lane = n; first = first }) (drop first cs)) more (Grows a (get_or (map T (set gs n gate)) n None))) (sym before)
          (subst (λ b. HasTold c.args.self.now.rewritten.now (bounds_of c.in_region.result) (IsRecordOf (record { phase = c.args.phase; lane = n; first = first }) (drop first cs)) more (Grows (T old) b)) (sym after) has))
          (told_set_long T gs n gate) (told_set_other T gs n gate) i.told placed_is);
    }

pub make_rest-requires-clause-ready : goal.make_rest-requires-clause-ready
make_rest-requires-clause-ready g c = c.requires.ready

pub make_rest-requires-clause-attempts : goal.make_rest-requires-clause-attempts
make_rest-requires-clause-attempts g c =
    subst (λ (l : CallLimits). (1 ≤ l.attempts) × (l.attempts ≤ 1000000)) (sym c.in_region.ensures) c.requires.attempts

pub make_rest-requires-clause-rule : goal.make_rest-requires-clause-rule
make_rest-requires-clause-rule g c =
    let P = c.args.self.now.original.now in
    let Q = c.args.self.now.rewritten.now in
    let rule = g.K.Keeping.rule in
    subst (λ (l : CallLimits). (e : Entry) → IsRuled P Q l.room.size l.budget l.attempts e → rule e) (sym c.in_region.ensures) c.requires.rule

pub make_rest-requires-clause-states : goal.make_rest-requires-clause-states
make_rest-requires-clause-states g c =
    let P = c.args.self.now.original.now in
    subst (λ (l : CallLimits). AreOfStates P l.room.size l.budget g.K.Keeping.words g.K.Keeping.used g.K.Keeping.rule) (sym c.in_region.ensures) c.requires.states

pub remove-gate-requires : goal.remove-gate-requires
remove-gate-requires g c =
    let T = g.G.Gate.told in
    let gates = c.loop-number.kept.gates in
    let first_gates = c.args.kept.now.gates.items in
    let low = has_gate c.loop-number.number (length c.args.lanes.now) (length gates.items) (length first_gates) c.loop-number-test.true c.requires.lanes c.requires.gates
    (sym (length-map gates.items T) ∙ c.loop-number.invariant.told.len ∙ length-map first_gates T) in
    subst (λ (k : ℕ). c.loop-number.number < k) (sym gates.ok.0) low

pub insert-requires : goal.insert-requires
insert-requires g c =
    let T = g.G.Gate.told in
    let told = c.loop-number.invariant.told in
    omega (arith, c.remove-gate.ensures.len, c.loop-number-test.true, c.requires.lanes, c.requires.gates, told.len, length-map c.loop-number.kept.gates.items T, length-map c.args.kept.now.gates.items T)

pub overflow_cast-at : goal.overflow_cast-at
overflow_cast-at g c = omega (arith, c.loop-number-test.true, c.requires.lanes)

pub overflow_add-number : goal.overflow_add-number
overflow_add-number g c = omega (arith, c.loop-number-test.true, c.requires.lanes)

pub returns-clause-made : goal.returns-clause-made
returns-clause-made g c =
    let t = c.args.shared.now.table.shared.table_id in
    let b = book c.args.pass in
    let n = c.loop-number.number in
    let lanes = c.args.lanes.now in
    let firsts = c.args.firsts.now in
    let placed = c.loop-number.side.placed.items in
    let parts = c.loop-number.side.parts.items in
    let done = c.loop-number-test.false in
    let every : take n firsts ≡ firsts = take_all n firsts (omega (arith, done, c.requires.firsts)) in
    subst (λ (ns : List ℕ). IsResting t b c.args.phase (call_count lanes) lanes ns placed parts c.loop-number.pass) every
    (subst (λ (ls : Phase). IsResting t b c.args.phase (call_count ls) ls (take n firsts) placed parts c.loop-number.pass) (take_all n lanes done)
    c.loop-number.invariant.resting)

pub returns-clause-whole : goal.returns-clause-whole
returns-clause-whole g c =
    let n = c.loop-number.number in
    let lanes = c.args.lanes.now in
    let firsts = c.args.firsts.now in
    let parts = c.loop-number.side.parts.items in
    let done = c.loop-number-test.false in
    let every : take n firsts ≡ firsts = take_all n firsts (omega (arith, done, c.requires.firsts)) in
    subst (λ (ns : List ℕ). AreWhole lanes ns parts) every
    (subst (λ (ls : Phase). AreWhole ls (take n firsts) parts) (take_all n lanes done) c.loop-number.invariant.whole)

pub returns-clause-used : goal.returns-clause-used
returns-clause-used g c = c.loop-number.invariant.used

pub returns-clause-told : goal.returns-clause-told
returns-clause-told g c = c.loop-number.invariant.told

pub returns-in_err-made : goal.returns-in_err-made
returns-in_err-made g c =
    let none = c.from_residual.ensures.0 in
    record {
      made = IfOk-from_err _ _ none;
      whole = IfOk-from_err _ _ none;
      used = IfOk-from_err _ _ none;
      told = IfOk-from_err _ _ none;
    }

pub returns-in_err-insert : goal.returns-in_err-insert
returns-in_err-insert g c =
    let none = c.from_residual-in_err-insert.ensures.0 in
    record {
      made = IfOk-from_err _ _ none;
      whole = IfOk-from_err _ _ none;
      used = IfOk-from_err _ _ none;
      told = IfOk-from_err _ _ none;
    }

pub returns-in_err-add : goal.returns-in_err-add
returns-in_err-add g c =
    let none = c.from_residual-in_err-add.ensures.0 in
    record {
      made = IfOk-from_err _ _ none;
      whole = IfOk-from_err _ _ none;
      used = IfOk-from_err _ _ none;
      told = IfOk-from_err _ _ none;
    }
