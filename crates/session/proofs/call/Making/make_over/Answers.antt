use Rattle.std.proofs.Common.{suc, inl, inr, ◌≡◌, ◌≤◌, ◌+◌, ◌*◌, ◌++◌, ℕ, [], length, get_or, reverse, sym, ◌∙◌, ap, subst, arith}
use Rattle.std.proofs.lemmas.Result.{IfOk-from_err}
use Rattle.std.proofs.lemmas.List.{reverse-reverse}
use Rattle.tx_table.specs.declared.shared.Pass.{Pass}
use Rattle.tx_table.specs.Passes.{book}
use Rattle.tl2.specs.Commits.{IsRest}
use Rattle.tl2.specs.Standing.{Keeps}
use Rattle.session.specs.Engines.{pass_of, named_by, StandsIn}
use Rattle.session.proofs.Either.{rests}
use Rattle.session.specs.declared.record.Lane.{Lane}
use Rattle.session.specs.declared.record.Place.{Place}
use Rattle.session.specs.Adds.{call_of}
use Rattle.session.specs.Rule.{IsCallOf}
use Rattle.session.specs.Lane.{HasMade}
use Rattle.session.specs.Passes.{IsEnding, bounds_with, HasSpent}
use Rattle.machine.specs.Machine.{bounds_of}
use Rattle.objects.specs.rewriting.Events.{Grows}
use Rattle.session.specs.Telling.{IsRecordOf, HasTold}
use Rattle.session.proofs.Elements.{all_here}
use Rattle.session.proofs.Counts.{few_left, place_left, clock_left, ticks_first, ticks_more, ticks_within, is_left}
use Rattle.session.proofs.Lanes.{lane_empty, over_more, same_call}
use Rattle.session.proofs.Telling.{told_first, told_more, told_lost, record_here, was_told, was_lost}
use Rattle.session.proofs.Stood.{awaits_next, keeps_first, rests_after, ticks_after, stood_first, stood_more, was_made, was_left, has_spent, meets_none, ending, untouched}
use Rattle.session.proofs.call.Making.make_over.Goals as goal
use Rattle.session.proofs.call.Making.make_over.Goals.{else-loop-index-test, then-loop-index-test+in_ok-is_made+then-not-is_made}

pub returns-in_default-clause-made : goal.returns-in_default-clause-made
returns-in_default-clause-made g c = (
  [],
  untouched c.args.shared.now.table.shared.table_id c.args.at c.args.self.now.limits.room.used (length c.args.calls.now) (length c.args.calls.now) c.new-lane.result.made c.new-lane.result.used c.args.pass c.new-lane.ensures.made
      c.new-lane.ensures.used_are c.requires.pass,
  lane_empty c.args.at c.args.self.now.limits.room.used c.args.calls.now c.new-lane.result c.new-lane.ensures,
)

pub loop-index-init : goal.loop-index-init
loop-index-init g c =
    let e = c.engine_of-engine.result in
    let p = c.args.pass in
    let first = reverse (book p).entries in
    let keeps = keeps_first g.K.Beginning.began c.args.shared.now.table.shared.table_id p c.requires.only c.requires.pass.seated in
    record {
      making = c.open-session.ensures.making;
      stood = rw c.open-session.ensures.engine (stood_first (StandsIn g.K.Beginning.began e) first c.args.at c.args.self.now.limits.room.used c.args.calls.now c.open-session.result.lane
          (length (book p).lost) c.open-session.ensures.lane (c.engine_of-engine.ensures.stands first (sym (reverse-reverse (book p).entries)) keeps));
      count = c.open-session.ensures.lane.made;
      ticks = let same = ap (λ (x : Pass). (book x).ticks) c.engine_of-engine.ensures.pass in rw c.open-session.ensures.engine (ticks_first _ _ same);
      told = rw c.open-session.ensures.gate (told_first c.args.self.now.rewritten.now (bounds_of c.args.self.now.limits) (IsRecordOf c.args.at c.args.calls.now) c.open-session.result.lane.placed.items (g.G.Gate.told c.args.gate) c.open-session.ensures.lane.placed);
    }

pub call-requires-clause-stands : goal.call-requires-clause-stands
call-requires-clause-stands g c =
    let so = c.loop-index.invariant.stood in
    let first = reverse (book c.args.pass).entries in
    (first ++ so.history, so.conflicts, c.set_call.ensures.stands (first ++ so.history) so.conflicts [] [] so.stands, inl tt)

pub call-requires-clause-states : goal.call-requires-clause-states
call-requires-clause-states g c = rw c.loop-index.invariant.making (
    over_more c.args.self.now.original.now c.args.self.now.limits _ _ c.loop-index.session.lane.used c.loop-index.invariant.stood.made.grows c.requires.states)

pub call-requires-clause-awaits : goal.call-requires-clause-awaits
call-requires-clause-awaits g c = rw c.loop-index.invariant.making (
    let so = c.loop-index.invariant.stood in
    let here = c.onward-here.result in
    let call = c.index-calls-index.result in
    let e = c.set_call.new.self in
    let named = named_by e in
    let room = c.args.self.now.limits.room in
    let b = book c.args.pass in
    let told : call_of room here call ≡ call_of named.room named.at named.call.now =
    same_call room named.room here named.at call named.call.now (ap (λ x. x.room) c.set_call.ensures.call ∙ c.of-in-loop-index.ensures.room) (ap (λ x. x.at) c.set_call.ensures.call ∙ c.of-in-loop-index.ensures.at)
    (ap (λ x. x.call.now) c.set_call.ensures.call ∙ c.of-in-loop-index.ensures.call) in
    awaits_next g.K.Beginning.began c.args.shared.now.table.shared.table_id b room c.args.at here room.used c.loop-index.session.lane.made c.loop-index.index c.loop-index.session.lane.used (pass_of e) so.history so.conflicts call (call_of named.room named.at named.call.now) c.requires.began
    (rests g.K.Beginning.began e (reverse b.entries ++ so.history) so.conflicts [] []
    (c.set_call.ensures.stands (reverse b.entries ++ so.history) so.conflicts [] [] so.stands)) c.requires.pass.begins so.made.takes c.requires.region c.onward-here.ensures
    c.loop-index.invariant.count told so.earlier)

pub loop-index-preserved : goal.loop-index-preserved
loop-index-preserved g c =
    let so = c.loop-index.invariant.stood in
    let e = c.call.new.self.engine in
    let first = reverse (book c.args.pass).entries in
    let S = StandsIn g.K.Beginning.began e in
    let room = c.args.self.now.limits.room in
    let call = c.index-calls-index.result in
    let adds = was_made c.in_ok-is_made.is_made c.args.self.now.original.now c.args.self.now.rewritten.now (bounds_with c.args.self.now.limits c.loop-index.session.lane.used) (call_of room c.onward-here.result call) S
    (first ++ so.history) so.conflicts c.loop-index.session.lane c.call.new.self.lane c.if-not-is_made.false
    ((rw c.loop-index.invariant.making at c.in_ok-is_made.ensures.adds) (first ++ so.history) so.conflicts (c.set_call.ensures.stands (first ++ so.history) so.conflicts [] [] so.stands)) in
    record {
      making = c.call.ensures.making ∙ c.loop-index.invariant.making;
      stood = stood_more S room c.args.at c.onward-here.result room.used c.args.calls.now c.loop-index.index c.loop-index.session.lane c.call.new.self.lane call
          c.requires.region c.onward-here.ensures c.loop-index.invariant.count c.loop-index-test.true c.index-calls-index.is
          first so.history (length (book c.args.pass).lost) so.conflicts so.later so.made so.earlier adds;
      count = adds.record_is.made ∙ ap (λ (k : ℕ). k + 1) c.loop-index.invariant.count;
      ticks = let same = ap (λ (p : Pass). (book p).ticks) c.set_call.ensures.pass in ticks_more _ _ _ _ _ _ c.loop-index.invariant.ticks same (rw c.loop-index.invariant.making at c.call.ensures.clock) c.requires.attempts.1;
      told =
          let made = was_told c.in_ok-is_made.is_made c.args.self.now.rewritten.now (bounds_with c.args.self.now.limits c.loop-index.session.lane.used) c.onward-here.result call c.loop-index.session.lane c.call.new.self.lane _
          c.if-not-is_made.false (rw c.loop-index.invariant.making at c.in_ok-is_made.ensures.told) in
          told_more c.args.self.now.rewritten.now (bounds_of c.args.self.now.limits) (IsRecordOf c.args.at c.args.calls.now) c.loop-index.session.lane.used c.onward-here.result call c.loop-index.session.lane c.call.new.self.lane
          (g.G.Gate.told c.args.gate) (g.G.Gate.told c.loop-index.session.gate) (g.G.Gate.told c.call.new.self.gate) c.loop-index.invariant.told made
          (record_here c.args.at c.onward-here.result c.args.calls.now c.loop-index.index call made.one c.onward-here.ensures c.loop-index-test.true c.index-calls-index.is made.phase made.lane made.index);
    }

pub call-requires-clause-region : goal.call-requires-clause-region
call-requires-clause-region g c = rw c.loop-index.invariant.making (inr (c.requires.region ∙ ap (λ (p : Place). suc p.lane) (sym c.onward-here.ensures)))

pub returns-in_default-clause-told : goal.returns-in_default-clause-told
returns-in_default-clause-told g c =
    told_first c.args.self.now.rewritten.now (bounds_of c.args.self.now.limits) (IsRecordOf c.args.at c.args.calls.now) c.new-lane.result.placed.items (g.G.Gate.told c.args.gate) c.new-lane.ensures.placed

pub returns-in_err-is_made-clause-made : goal.returns-in_err-is_made-clause-made
returns-in_err-is_made-clause-made g c = IfOk-from_err _ _ c.from_residual.ensures.0

pub returns-in_err-is_made-clause-stopped : goal.returns-in_err-is_made-clause-stopped
returns-in_err-is_made-clause-stopped g c = IfOk-from_err _ _ c.from_residual.ensures.0

pub returns-in_err-is_made-clause-all : goal.returns-in_err-is_made-clause-all
returns-in_err-is_made-clause-all g c = λ _. IfOk-from_err _ _ c.from_residual.ensures.0

pub returns-in_err-is_made-clause-told : goal.returns-in_err-is_made-clause-told
returns-in_err-is_made-clause-told g c = IfOk-from_err _ _ c.from_residual.ensures.0

pub onward-here-requires : goal.onward-here-requires
onward-here-requires g c = place_left c.args.at.first c.loop-index.index (length c.args.calls.now) 100000 c.loop-index-test.true c.requires.few

pub call-requires-clause-ready : goal.call-requires-clause-ready
call-requires-clause-ready g c = rw c.loop-index.invariant.making c.requires.ready

pub call-requires-clause-fits : goal.call-requires-clause-fits
call-requires-clause-fits g c = rw c.loop-index.invariant.making c.requires.fits

pub call-requires-clause-attempts : goal.call-requires-clause-attempts
call-requires-clause-attempts g c = rw c.loop-index.invariant.making c.requires.attempts

pub call-requires-clause-rule : goal.call-requires-clause-rule
call-requires-clause-rule g c = rw c.loop-index.invariant.making c.requires.rule

pub call-requires-clause-call : goal.call-requires-clause-call
call-requires-clause-call g c = rw c.loop-index.invariant.making (
    all_here (IsCallOf c.args.self.now.original.now) c.args.calls.now c.loop-index.index c.index-calls-index.result c.requires.calls c.loop-index-test.true c.index-calls-index.is)

pub call-requires-clause-few : goal.call-requires-clause-few
call-requires-clause-few g c =
    few_left c.args.at.first c.loop-index.session.lane.made c.loop-index.index (length c.args.calls.now) 100000 c.loop-index.invariant.count c.loop-index-test.true c.requires.few

pub call-requires-clause-clock : goal.call-requires-clause-clock
call-requires-clause-clock g c =
    let same = ap (λ (p : Pass). (book p).ticks) c.set_call.ensures.pass in
    clock_left (book c.args.pass).ticks (book (pass_of c.loop-index.session.engine)).ticks (book (pass_of c.set_call.new.self)).ticks c.loop-index.index (length c.args.calls.now) _ c.loop-index.invariant.ticks c.loop-index-test.true c.requires.pass.ticks same

pub returns : goal.returns
returns g c = rw c.into_parts-engine.ensures (
    let so = c.loop-index.invariant.stood in
    let t = c.args.shared.now.table.shared.table_id in
    let b = book c.args.pass in
    let first = reverse b.entries in
    let n = length c.args.calls.now in
    let P = c.args.self.now.original.now in
    let Q = c.args.self.now.rewritten.now in
    let B = bounds_of c.args.self.now.limits in
    let C = IsRecordOf c.args.at c.args.calls.now in
    let before = g.G.Gate.told c.args.gate in
    let Left : Lane → Type 0 = λ l. IsEnding t b c.args.at n l.made l.used so.history c.into_pass.result × HasMade c.args.at c.args.self.now.limits.room.used c.args.calls.now so.history l in
    let Told : Lane → g.row.G.Denot → Type 0 = λ l d. HasTold Q B C l.placed.items (Grows before (g.G.Gate.told d)) in
    elim c.loop-index-test.branch [
      | else-loop-index-test w ↦
          let e = c.loop-index.session.engine in
          let engine : c.into_parts-engine.result.0 ≡ e = ap (λ p. p.0) c.into_parts-engine.ensures ∙ ap (λ x. x.engine) w.session-is in
          let rest = subst (λ x. IsRest [] 0 (book (pass_of x)) (book c.into_pass.result)) engine c.into_pass.ensures.rest in
          let keeps = subst (λ x. Keeps g.K.Beginning.began (pass_of x) → Keeps g.K.Beginning.began c.into_pass.result) engine c.into_pass.ensures.keeps in
          let lane : c.loop-index.session.lane ≡ c.loop-index-test.session.lane = sym (ap (λ x. x.lane) w.session-is) in
          let gate : c.loop-index.session.gate ≡ c.loop-index-test.session.gate = sym (ap (λ x. x.gate) w.session-is) in
          let whole : c.loop-index.index ≡ n = omega (arith, w.loop-index-test.false) in
          let within : (book (pass_of e)).ticks ≤ b.ticks + n * 1000000 = subst (λ (k : ℕ). (book (pass_of e)).ticks ≤ b.ticks + k * 1000000) whole c.loop-index.invariant.ticks in
          let all : c.loop-index-test.session.lane.made ≡ n = ap (λ (l : Lane). l.made) (sym lane) ∙ c.loop-index.invariant.count ∙ whole in
          let left = subst Left lane (
            ending g.K.Beginning.began t b c.args.at c.args.self.now.limits.room.used n c.loop-index.session.lane.made c.loop-index.session.lane.used c.into_pass.result so.history so.conflicts
                c.requires.began (rests_after g.K.Beginning.began (pass_of e) c.into_pass.result (first ++ so.history) so.conflicts rest keeps (rests g.K.Beginning.began e (first ++ so.history) so.conflicts [] [] so.stands))
                c.into_pass.ensures.free c.requires.pass.begins so.made.takes so.earlier (ticks_after (pass_of e) c.into_pass.result _ rest within),
            so.made,
          ) in
          record {
            made = (so.history, left.0, left.1);
            stopped = λ some_left. absurd (some_left all);
            all = λ whole. all;
            told = subst (λ (l : Lane). Told l c.loop-index-test.session.gate) lane (subst (Told c.loop-index.session.lane) gate c.loop-index.invariant.told);
          }
      | then-loop-index-test+in_ok-is_made+then-not-is_made w ↦
          let e = w.call.new.self.engine in
          let engine : c.into_parts-engine.result.0 ≡ e = ap (λ p. p.0) c.into_parts-engine.ensures ∙ ap (λ x. x.engine) w.session-is in
          let rest = subst (λ x. IsRest [] 0 (book (pass_of x)) (book c.into_pass.result)) engine c.into_pass.ensures.rest in
          let keeps = subst (λ x. Keeps g.K.Beginning.began (pass_of x) → Keeps g.K.Beginning.began c.into_pass.result) engine c.into_pass.ensures.keeps in
          let same = ap (λ (p : Pass). (book p).ticks) w.set_call.ensures.pass in
          let within : (book (pass_of e)).ticks ≤ b.ticks + n * 1000000 =
          ticks_within _ _ _ _ _ _ _ c.loop-index.invariant.ticks same (rw c.loop-index.invariant.making at w.call.ensures.clock) c.requires.attempts.1 w.loop-index-test.true in
          let call = w.index-calls-index.result in
          let S = StandsIn g.K.Beginning.began e in
          let still = was_left w.in_ok-is_made.is_made P Q (bounds_with c.args.self.now.limits c.loop-index.session.lane.used) (call_of c.args.self.now.limits.room w.onward-here.result call) S
          (first ++ so.history) so.conflicts c.loop-index.session.lane w.call.new.self.lane w.if-not-is_made.true
          ((rw c.loop-index.invariant.making at w.in_ok-is_made.ensures.adds) (first ++ so.history) so.conflicts (w.set_call.ensures.stands (first ++ so.history) so.conflicts [] [] so.stands)) in
          let last : w.call.new.self.lane ≡ c.loop-index-test.session.lane = sym (ap (λ x. x.lane) w.session-is) in
          let lane : c.loop-index.session.lane ≡ c.loop-index-test.session.lane = sym still.0 ∙ last in
          let gate : w.call.new.self.gate ≡ c.loop-index-test.session.gate = sym (ap (λ x. x.gate) w.session-is) in
          let stands = rests g.K.Beginning.began e (first ++ so.history) (so.conflicts + still.1.tried) [] [] still.1.stands in
          let ended = rests_after g.K.Beginning.began (pass_of e) c.into_pass.result (first ++ so.history) (so.conflicts + still.1.tried) rest keeps stands in
          let left = subst Left lane (
            ending g.K.Beginning.began t b c.args.at c.args.self.now.limits.room.used n c.loop-index.session.lane.made c.loop-index.session.lane.used c.into_pass.result so.history (so.conflicts + still.1.tried)
                c.requires.began ended c.into_pass.ensures.free c.requires.pass.begins so.made.takes so.earlier (ticks_after (pass_of e) c.into_pass.result _ rest within),
            so.made,
          ) in
          let count = c.loop-index.invariant.count in
          let next : call ≡ get_or c.args.calls.now c.loop-index.session.lane.made call = w.index-calls-index.is ∙ ap (λ (k : ℕ). get_or c.args.calls.now k call) (sym count) in
          let Spent : Lane → Type 0 = λ l. HasSpent P Q c.args.self.now.limits c.args.calls.now l.made l.used b c.into_pass.result in
          let lost = was_lost w.in_ok-is_made.is_made Q (bounds_with c.args.self.now.limits c.loop-index.session.lane.used) w.onward-here.result call c.loop-index.session.lane w.call.new.self.lane _
          w.if-not-is_made.true (rw c.loop-index.invariant.making at w.in_ok-is_made.ensures.told) in
          record {
            made = (so.history, left.0, left.1);
            stopped = λ some_left. subst Spent lane
                (has_spent P Q c.args.self.now.limits c.args.calls.now c.loop-index.session.lane.made c.loop-index.session.lane.used call
                g.K.Beginning.began b c.into_pass.result (first ++ so.history) so.conflicts still.1.tried (is_left _ _ _ count w.loop-index-test.true) next so.later still.1.used_up ended);
            all = λ whole.
                let none = meets_none g.K.Beginning.began t b (pass_of e) (first ++ so.history) (so.conflicts + still.1.tried) c.requires.began whole stands in
                let more = still.1.used_up.some in
                let least = so.later in
                absurd (omega arith);
            told = subst (λ (l : Lane). Told l c.loop-index-test.session.gate) lane (subst (Told c.loop-index.session.lane) gate
                (told_lost Q B C c.loop-index.session.lane.placed.items before (g.G.Gate.told c.loop-index.session.gate) (g.G.Gate.told w.call.new.self.gate) c.loop-index.invariant.told lost));
          }
    ])
