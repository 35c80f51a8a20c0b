use Rattle.std.proofs.Common.{◌≡◌, ◌≢◌, ◌≤◌, ℕ, suc, ◌+◌, length, arith, sym, ap, subst, ◌∙◌}
use Rattle.tx_table.specs.Passes.{book}
use Rattle.jmodel.specs.history.History.{Entry}
use Rattle.session.specs.Rule.{IsRuled}
use Rattle.session.specs.Claimed.{calls_at}
use Rattle.machine.specs.declared.machine.Limits.{Limits as CallLimits}
use Rattle.session.specs.Passes.{IsStarting, HasSpent}
use Rattle.driver.specs.Telling.{lane_limits}
use Rattle.driver.specs.Passing.{first_of}
use Rattle.driver.proofs.Passing.{may_start, is_done}
use Rattle.driver.proofs.States.{over_lane}
use Rattle.driver.proofs.Rooms.{room_fits}
use Rattle.driver.proofs.Working.{done_as}
use Rattle.objects.specs.rewriting.Events.{Grows}
use Rattle.session.specs.Telling.{IsRecordOf}
use Rattle.driver.proofs.Told.{lane_told, limits_are}
use Rattle.driver.proofs.run.Runner.work.Goals as goal

pub make_claimed-requires-clause-region : goal.make_claimed-requires-clause-region
make_claimed-requires-clause-region g c =
    let region = ap (λ (l : CallLimits). l.room.region) c.in_region.ensures in
    omega (arith, region, c.from.ensures)

pub make_claimed-requires-clause-fits : goal.make_claimed-requires-clause-fits
make_claimed-requires-clause-fits g c =
    let region = ap (λ (l : CallLimits). l.room.region) c.in_region.ensures in
    let size = ap (λ (l : CallLimits). l.room.size) c.in_region.ensures in
    room_fits c.in_region.result.room (c.from.result + 1) c.args.self.now.limits.size region size (omega (arith, c.from.ensures)) c.requires.room_size

pub make_claimed-requires-clause-states : goal.make_claimed-requires-clause-states
make_claimed-requires-clause-states g c =
    let region = ap (λ (l : CallLimits). l.room.region) c.in_region.ensures in
    over_lane c.args.self.now.original.now c.args.self.now.limits.size c.args.self.now.limits.budget g.K.Keeping.words g.K.Keeping.used g.K.Keeping.rule _ c.in_region.result c.from.result c.requires.states
    (ap (λ (l : CallLimits). l.room.size) c.in_region.ensures) (ap (λ (l : CallLimits). l.budget) c.in_region.ensures) (omega (arith, region))

pub make_claimed-requires-clause-pass : goal.make_claimed-requires-clause-pass
make_claimed-requires-clause-pass g c =
    let start = c.args.begun.0.start in
    let t = c.args.shared.now.table.shared.table_id in
    let at = first_of c.args.phase start.lane in
    let count = length c.args.calls.now in
    let used = ap (λ (l : CallLimits). l.room.used) c.in_region.ensures ∙ c.requires.used in
    subst (λ (n : ℕ). IsStarting t at n count start.pass) (sym used) (may_start t (book start.pass).seen at count start.pass c.requires.few c.requires.pass)

pub returns-clause-ran : goal.returns-clause-ran
returns-clause-ran g c =
    let t = c.args.shared.now.table.shared.table_id in
    let start = c.args.begun.0.start in
    let Q = c.args.self.now.rewritten.now in
    let limits = c.args.self.now.limits in
    let seen = (book start.pass).seen in
    let at = first_of c.args.phase start.lane in
    let taken = c.in_ok-taken.taken in
    let made = c.in_ok-taken.ensures.made in
    let indexes = taken.indexes.items in
    let calls = calls_at c.args.calls.now indexes in
    let before = c.in_region.result.room.used in
    let done = is_done t seen at before (length indexes) taken.lane.made taken.lane.used calls taken.lane made.0 start.pass taken.pass c.requires.pass made.1 made.2 in
    let region : c.from.result + 1 ≡ suc start.lane = omega (arith, c.from.ensures) in
    let T = Grows (g.G.Gate.told c.args.begun.1) (g.G.Gate.told c.in_ok-taken.gate) in (
      record {
        ended = record {
          history = made.0;
          before = before;
          pass = done_as t seen at c.args.calls.now indexes taken.lane.made made.0 taken.pass done.0;
          made = made.2;
          used = done.1;
        };
        bag = c.make_claimed.ensures.bag;
        taken = c.in_ok-taken.ensures.claims;
      },
      lane_told Q limits c.in_region.result (c.from.result + 1) start.lane start.used (IsRecordOf at calls) taken.lane.placed.items T c.in_region.ensures region c.in_ok-taken.ensures.told,
    )

pub returns-clause-stopped : goal.returns-clause-stopped
returns-clause-stopped g c =
    let start = c.args.begun.0.start in
    let limits = c.args.self.now.limits in
    let taken = c.in_ok-taken.taken in
    let region : c.from.result + 1 ≡ suc start.lane = omega (arith, c.from.ensures) in
    let own : c.in_region.result ≡ lane_limits limits start.lane start.used = limits_are limits c.in_region.result (c.from.result + 1) start.lane start.used c.in_region.ensures region in
    subst (λ (l : CallLimits). taken.lane.made ≢ length taken.indexes.items → HasSpent c.args.self.now.original.now c.args.self.now.rewritten.now l (calls_at c.args.calls.now taken.indexes.items) taken.lane.made taken.lane.used (book start.pass) taken.pass) own
    c.in_ok-taken.ensures.stopped

pub returns-clause-emptied : goal.returns-clause-emptied
returns-clause-emptied g c = c.in_ok-taken.ensures.emptied

pub make_claimed-requires-clause-ready : goal.make_claimed-requires-clause-ready
make_claimed-requires-clause-ready g c = c.requires.ready

pub make_claimed-requires-clause-attempts : goal.make_claimed-requires-clause-attempts
make_claimed-requires-clause-attempts g c =
    subst (λ (l : CallLimits). (1 ≤ l.attempts) × (l.attempts ≤ 1000000)) (sym c.in_region.ensures) c.requires.attempts

pub make_claimed-requires-clause-rule : goal.make_claimed-requires-clause-rule
make_claimed-requires-clause-rule g c =
    let P = c.args.self.now.original.now in
    let Q = c.args.self.now.rewritten.now in
    let rule = g.K.Keeping.rule in
    subst (λ (l : CallLimits). (e : Entry) → IsRuled P Q l.room.size l.budget l.attempts e → rule e) (sym c.in_region.ensures) c.requires.rule

pub make_claimed-requires-clause-calls : goal.make_claimed-requires-clause-calls
make_claimed-requires-clause-calls g c = c.requires.calls
