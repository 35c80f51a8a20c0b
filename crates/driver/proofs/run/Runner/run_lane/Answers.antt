use Rattle.std.proofs.Common.{◌≡◌, ◌≢◌, ◌≤◌, ◌<◌, ℕ, List, [], length, get_or, arith, ◌+◌, suc, sym, ap, ◌∙◌, subst}
use Rattle.std.proofs.lemmas.List.{get_or_default}
use Rattle.jmodel.specs.history.Schedule.{Known}
use Rattle.tx_table.specs.Passes.{book}
use Rattle.machine.specs.declared.machine.Limits.{Limits as CallLimits}
use Rattle.jmodel.specs.history.History.{Entry}
use Rattle.tx_table.specs.declared.shared.Pass.{Pass}
use Rattle.session.specs.declared.record.Lane.{Lane}
use Rattle.session.specs.Lane.{HasMade}
use Rattle.session.specs.Passes.{IsStarting, IsEnding, HasSpent}
use Rattle.session.specs.Rule.{IsRuled}
use Rattle.std.specs.Prelude.{IfOk}
use Rattle.driver.specs.Telling.{HasRunLane, lane_limits}
use Rattle.driver.specs.Passing.{first_of, HasEnded}
use Rattle.driver.proofs.Lists.{all_here, if_both}
use Rattle.driver.proofs.Places.{IsFew}
use Rattle.driver.proofs.Passing.{may_start, is_done}
use Rattle.driver.proofs.States.{over_lane}
use Rattle.driver.proofs.Rooms.{room_fits}
use Rattle.machine.specs.Machine.{bounds_of}
use Rattle.objects.specs.rewriting.Events.{Grows}
use Rattle.session.specs.Telling.{IsRecordOf, HasTold}
use Rattle.driver.proofs.Told.{lane_told, limits_are}
use Rattle.driver.proofs.run.Runner.run_lane.Goals as goal

pub make_shared-requires-clause-region : goal.make_shared-requires-clause-region
make_shared-requires-clause-region g c =
    let region = ap (λ (l : CallLimits). l.room.region) c.in_region.ensures in
    omega (arith, region, c.from-2.ensures)

pub make_shared-requires-clause-fits : goal.make_shared-requires-clause-fits
make_shared-requires-clause-fits g c =
    let region = ap (λ (l : CallLimits). l.room.region) c.in_region.ensures in
    let size = ap (λ (l : CallLimits). l.room.size) c.in_region.ensures in
    room_fits c.in_region.result.room (c.from-2.result + 1) c.args.self.now.limits.size region size
    (omega (arith, c.from-2.ensures, c.requires.lane, c.requires.few_lanes)) c.requires.room_size

pub make_shared-requires-clause-states : goal.make_shared-requires-clause-states
make_shared-requires-clause-states g c =
    let region = ap (λ (l : CallLimits). l.room.region) c.in_region.ensures in
    over_lane c.args.self.now.original.now c.args.self.now.limits.size c.args.self.now.limits.budget g.K.Keeping.words g.K.Keeping.used g.K.Keeping.rule _ c.in_region.result c.from-2.result c.requires.states
    (ap (λ (l : CallLimits). l.room.size) c.in_region.ensures) (ap (λ (l : CallLimits). l.budget) c.in_region.ensures) (omega (arith, region))

pub make_shared-requires-clause-pass : goal.make_shared-requires-clause-pass
make_shared-requires-clause-pass g c =
    let start = c.args.begun.0 in
    let inside = subst (λ (n : ℕ). n < length c.args.lanes.now) (sym c.from.ensures) c.requires.lane in
    let few = all_here IsFew c.args.lanes.now c.from.result c.index-lanes-from.result c.requires.few inside c.index-lanes-from.is in
    let short : length c.as_slice.result.now ≤ 100000 = rw (c.as_slice.ensures.value ∙ c.calls.view_is) few in
    let t = c.args.shared.now.table.shared.table_id in
    let at = first_of c.args.phase start.lane in
    let count = length c.as_slice.result.now in
    let used = ap (λ (l : CallLimits). l.room.used) c.in_region.ensures ∙ c.requires.used in
    subst (λ (n : ℕ). IsStarting t at n count start.pass) (sym used) (may_start t (book start.pass).seen at count start.pass short c.requires.pass)

pub returns-clause-ran : goal.returns-clause-ran
returns-clause-ran g c =
    let t = c.args.shared.now.table.shared.table_id in
    let start = c.args.begun.0 in
    let Q = c.args.self.now.rewritten.now in
    let limits = c.args.self.now.limits in
    let seen = (book start.pass).seen in
    let calls = c.as_slice.result.now in
    let at = first_of c.args.phase start.lane in
    let inside = subst (λ (n : ℕ). n < length c.args.lanes.now) (sym c.from.ensures) c.requires.lane in
    let same : calls ≡ get_or c.args.lanes.now start.lane [] =
    (c.as_slice.ensures.value ∙ c.calls.view_is) ∙ c.index-lanes-from.is
    ∙ get_or_default c.args.lanes.now c.from.result c.index-lanes-from.result [] inside
    ∙ ap (λ (n : ℕ). get_or c.args.lanes.now n []) c.from.ensures in
    let before = c.in_region.result.room.used in
    let region : c.from-2.result + 1 ≡ suc start.lane = omega (arith, c.from-2.ensures) in
    let B = bounds_of c.in_region.result in
    let own = get_or c.args.lanes.now start.lane [] in
    let told = g.G.Gate.told in
    let first = told c.args.begun.1 in
    let Made : (Lane × Pass) × g.row.G.Denot → Type 0 = λ r. (h : List Entry) × IsEnding t (book start.pass) at (length calls) r.0.0.made r.0.0.used h r.0.1 × HasMade at before calls h r.0.0 in
    let Told : (Lane × Pass) × g.row.G.Denot → Type 0 = λ r. HasTold Q B (IsRecordOf at calls) r.0.0.placed.items (Grows first (told r.1)) in
    if_both Made Told (HasRunLane told Q limits t seen c.args.phase start.lane own first) c.make_shared.result
    (λ r made tells.
    let end = r.0 in
    let done = is_done t seen at before (length calls) end.0.made end.0.used calls end.0 made.0 start.pass end.1 c.requires.pass made.1 made.2 in (
      subst (λ (cs : List Known). HasEnded t seen c.args.phase start.lane cs end) same (record {
        history = made.0;
        before = before;
        pass = done.0;
        made = made.2;
        used = done.1;
      }),
      lane_told Q limits c.in_region.result (c.from-2.result + 1) start.lane start.used (IsRecordOf at own) end.0.placed.items (Grows first (told r.1)) c.in_region.ensures region
          (subst (λ (cs : List Known). HasTold Q B (IsRecordOf at cs) end.0.placed.items (Grows first (told r.1))) same tells),
    ))
    c.make_shared.ensures.made c.make_shared.ensures.told

pub returns-clause-stopped : goal.returns-clause-stopped
returns-clause-stopped g c =
    let start = c.args.begun.0 in
    let limits = c.args.self.now.limits in
    let calls = c.as_slice.result.now in
    let inside = subst (λ (n : ℕ). n < length c.args.lanes.now) (sym c.from.ensures) c.requires.lane in
    let same : calls ≡ get_or c.args.lanes.now start.lane [] =
    (c.as_slice.ensures.value ∙ c.calls.view_is) ∙ c.index-lanes-from.is
    ∙ get_or_default c.args.lanes.now c.from.result c.index-lanes-from.result [] inside
    ∙ ap (λ (n : ℕ). get_or c.args.lanes.now n []) c.from.ensures in
    let region : c.from-2.result + 1 ≡ suc start.lane = omega (arith, c.from-2.ensures) in
    let own : c.in_region.result ≡ lane_limits limits start.lane start.used = limits_are limits c.in_region.result (c.from-2.result + 1) start.lane start.used c.in_region.ensures region in
    let Stopped : List Known → CallLimits → (Lane × Pass) × g.row.G.Denot → Type 0 =
    λ cs l r. r.0.0.made ≢ length cs → HasSpent c.args.self.now.original.now c.args.self.now.rewritten.now l cs r.0.0.made r.0.0.used (book start.pass) r.0.1 in
    subst (λ (cs : List Known). IfOk c.make_shared.result (Stopped cs (lane_limits limits start.lane start.used))) same
    (subst (λ (l : CallLimits). IfOk c.make_shared.result (Stopped calls l)) own c.make_shared.ensures.stopped)

pub make_shared-requires-clause-ready : goal.make_shared-requires-clause-ready
make_shared-requires-clause-ready g c = c.requires.ready

pub make_shared-requires-clause-attempts : goal.make_shared-requires-clause-attempts
make_shared-requires-clause-attempts g c =
    subst (λ (l : CallLimits). (1 ≤ l.attempts) × (l.attempts ≤ 1000000)) (sym c.in_region.ensures) c.requires.attempts

pub make_shared-requires-clause-rule : goal.make_shared-requires-clause-rule
make_shared-requires-clause-rule g c =
    let P = c.args.self.now.original.now in
    let Q = c.args.self.now.rewritten.now in
    let rule = g.K.Keeping.rule in
    subst (λ (l : CallLimits). (e : Entry) → IsRuled P Q l.room.size l.budget l.attempts e → rule e) (sym c.in_region.ensures) c.requires.rule
