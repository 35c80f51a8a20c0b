use Rattle.std.proofs.Common.{suc, inl, inr, ◌≡◌, ◌≤◌, ◌<◌, ◌+◌, ◌*◌, ◌++◌, ◌∷◌, ℕ, List, [], Some, None, length, reverse, get_or, sym, ◌∙◌, ap, subst, arith}
use Rattle.std.proofs.lemmas.Result.{IfOk-from_err}
use Rattle.std.proofs.lemmas.List.{get_or_default, length_push, reverse-reverse}
use Rattle.claims.specs.Claims.{HasClaimed}
use Rattle.claims.specs.Passes.{claims_of, IsOf}
use Rattle.jmodel.specs.history.Schedule.{Known}
use Rattle.tx_table.specs.declared.shared.Pass.{Pass}
use Rattle.tx_table.specs.Passes.{book}
use Rattle.tl2.specs.Commits.{IsRest}
use Rattle.tl2.specs.Standing.{Keeps}
use Rattle.session.specs.Engines.{pass_of, named_by, StandsIn}
use Rattle.session.proofs.Either.{rests}
use Rattle.session.specs.declared.record.Lane.{Lane}
use Rattle.session.specs.declared.record.Record.{Record}
use Rattle.session.specs.declared.record.Place.{Place}
use Rattle.session.specs.Adds.{call_of}
use Rattle.session.specs.Rule.{IsCallOf}
use Rattle.session.specs.Lane.{HasMade}
use Rattle.session.specs.Passes.{IsEnding, bounds_with, HasSpent}
use Rattle.session.specs.Claimed.{calls_at}
use Rattle.session.proofs.Elements.{all_here}
use Rattle.session.proofs.Counts.{few_left, place_left, clock_left, ticks_first, ticks_more, is_last, at_most, not_all, claim_left}
use Rattle.session.proofs.Lanes.{lane_empty, over_more, same_call}
use Rattle.session.proofs.Stood.{awaits_next, keeps_first, rests_after, ticks_after, stood_first, stood_more, was_made, was_left, has_spent, ending, untouched}
use Rattle.session.proofs.Claiming.{claiming_first, claiming_more, index_under, has_taken, has_ended, taken_at, emptied_whole, emptied_behind}
use Rattle.session.proofs.Longer.{made_next, call_last, length_calls, calls_push}
use Rattle.machine.specs.Machine.{bounds_of}
use Rattle.objects.specs.rewriting.Events.{Grows}
use Rattle.session.specs.Telling.{IsRecordOf, HasTold}
use Rattle.session.proofs.Telling.{told_first, told_more, told_lost, told_weaker, record_here, record_longer, was_told, was_lost}
use Rattle.session.proofs.call.Making.claim_over.Goals as goal
use Rattle.session.proofs.call.Making.claim_over.Goals.{else-loop-count-test, then-loop-count-test+in_default-claim, then-loop-count-test+in-Some-claim+in_ok-push+in_ok-is_made+then-not-is_made}

pub returns-in_default-clause-made : goal.returns-in_default-clause-made
returns-in_default-clause-made g c = (
  [],
  untouched c.args.shared.now.table.shared.table_id c.args.at c.args.self.now.limits.room.used (length c.args.calls.now) (length c.new-indexes.result.items) c.new-lane.result.made c.new-lane.result.used c.args.pass c.new-lane.ensures.made
      c.new-lane.ensures.used_are c.requires.pass,
  lane_empty c.args.at c.args.self.now.limits.room.used (calls_at c.args.calls.now c.new-indexes.result.items) c.new-lane.result c.new-lane.ensures,
)

pub loop-count-init : goal.loop-count-init
loop-count-init g c =
    let e = c.engine_of-engine.result in
    let p = c.args.pass in
    let first = reverse (book p).entries in
    let keeps = keeps_first g.K.Beginning.began c.args.shared.now.table.shared.table_id p c.requires.only c.requires.pass.seated in
    record {
      making = c.open-session.ensures.making;
      stood = rw c.open-session.ensures.engine (stood_first (StandsIn g.K.Beginning.began e) first c.args.at c.args.self.now.limits.room.used
          (calls_at c.args.calls.now c.new-indexes.result.items) c.open-session.result.lane (length (book p).lost) c.open-session.ensures.lane
          (c.engine_of-engine.ensures.stands first (sym (reverse-reverse (book p).entries)) keeps));
      count = c.open-session.ensures.lane.made;
      ticks = let same = ap (λ (x : Pass). (book x).ticks) c.engine_of-engine.ensures.pass in rw c.open-session.ensures.engine (ticks_first _ _ same);
      bag = c.requires.bag.0;
      claiming = claiming_first (length c.args.calls.now) (claims_of c.args.claims.now) c.new-indexes.result.items c.requires.claims c.new-indexes.ensures.items;
      told = rw c.open-session.ensures.gate (told_first c.args.self.now.rewritten.now (bounds_of c.args.self.now.limits) (IsRecordOf c.args.at (calls_at c.args.calls.now c.new-indexes.result.items)) c.open-session.result.lane.placed.items
          (g.G.Gate.told c.args.gate) c.open-session.ensures.lane.placed);
    }

pub call-requires-clause-call : goal.call-requires-clause-call
call-requires-clause-call g c = rw c.loop-count.invariant.making (
    let calls = c.args.calls.now in
    let i = c.in-Some-claim.index in
    let call = c.index-calls-index.result in
    let claim = subst (λ (n : ℕ). HasClaimed n (claims_of c.loop-count.claims) (claims_of c.claim.new.self) (Some i)) c.requires.bag.1 c.in-Some-claim.ensures.claims in
    let within : i < length calls = index_under (length calls) i (claims_of c.loop-count.claims) (claims_of c.claim.new.self) claim in
    all_here (IsCallOf c.args.self.now.original.now) calls i call c.requires.calls within c.index-calls-index.is)

pub call-requires-clause-stands : goal.call-requires-clause-stands
call-requires-clause-stands g c =
    let so = c.loop-count.invariant.stood in
    let first = reverse (book c.args.pass).entries in
    (first ++ so.history, so.conflicts, c.set_call.ensures.stands (first ++ so.history) so.conflicts [] [] so.stands, inl tt)

pub call-requires-clause-states : goal.call-requires-clause-states
call-requires-clause-states g c = rw c.loop-count.invariant.making (
    over_more c.args.self.now.original.now c.args.self.now.limits _ _ c.loop-count.session.lane.used c.loop-count.invariant.stood.made.grows c.requires.states)

pub call-requires-clause-awaits : goal.call-requires-clause-awaits
call-requires-clause-awaits g c = rw c.loop-count.invariant.making (
    let so = c.loop-count.invariant.stood in
    let here = c.onward-here.result in
    let call = c.index-calls-index.result in
    let e = c.set_call.new.self in
    let named = named_by e in
    let room = c.args.self.now.limits.room in
    let b = book c.args.pass in
    let told : call_of room here call ≡ call_of named.room named.at named.call.now =
    same_call room named.room here named.at call named.call.now (ap (λ x. x.room) c.set_call.ensures.call ∙ c.of-in-loop-count.ensures.room) (ap (λ x. x.at) c.set_call.ensures.call ∙ c.of-in-loop-count.ensures.at)
    (ap (λ x. x.call.now) c.set_call.ensures.call ∙ c.of-in-loop-count.ensures.call) in
    awaits_next g.K.Beginning.began c.args.shared.now.table.shared.table_id b room c.args.at here room.used c.loop-count.session.lane.made c.loop-count.count c.loop-count.session.lane.used (pass_of e) so.history so.conflicts call (call_of named.room named.at named.call.now) c.requires.began
    (rests g.K.Beginning.began e (reverse b.entries ++ so.history) so.conflicts [] []
    (c.set_call.ensures.stands (reverse b.entries ++ so.history) so.conflicts [] [] so.stands)) c.requires.pass.begins so.made.takes c.requires.region c.onward-here.ensures
    c.loop-count.invariant.count told so.earlier)

pub loop-count-preserved : goal.loop-count-preserved
loop-count-preserved g c =
    let so = c.loop-count.invariant.stood in
    let e = c.call.new.self.engine in
    let first = reverse (book c.args.pass).entries in
    let calls = c.args.calls.now in
    let i = c.in-Some-claim.index in
    let old = c.loop-count.indexes.items in
    let new = c.push.new.self.items in
    let pushed = c.in_ok-push.ensures.items in
    let call = c.index-calls-index.result in
    let claim = subst (λ (n : ℕ). HasClaimed n (claims_of c.loop-count.claims) (claims_of c.claim.new.self) (Some i)) c.requires.bag.1 c.in-Some-claim.ensures.claims in
    let claiming = claiming_more (length calls) c.loop-count.count i (claims_of c.loop-count.claims) (claims_of c.claim.new.self) old new c.loop-count-test.true
    claim pushed c.loop-count.invariant.claiming in
    let nothing : Known = record { method = 0; args = [] } in
    let within : i < length calls = index_under (length calls) i (claims_of c.loop-count.claims) (claims_of c.claim.new.self) claim in
    let there = c.index-calls-index.is ∙ get_or_default calls i call nothing within in
    let last = call_last calls old new i call pushed there
    ∙ ap (λ (k : ℕ). get_or (calls_at calls new) k call) c.loop-count.invariant.claiming.long in
    let room : c.loop-count.count < length (calls_at calls new) = is_last c.loop-count.count _ _ (length_calls calls new) claiming.long in
    let S = StandsIn g.K.Beginning.began e in
    let adds = was_made c.in_ok-is_made.is_made c.args.self.now.original.now c.args.self.now.rewritten.now (bounds_with c.args.self.now.limits c.loop-count.session.lane.used) (call_of c.args.self.now.limits.room c.onward-here.result call) S
    (first ++ so.history) so.conflicts c.loop-count.session.lane c.call.new.self.lane c.if-not-is_made.false
    ((rw c.loop-count.invariant.making at c.in_ok-is_made.ensures.adds) (first ++ so.history) so.conflicts (c.set_call.ensures.stands (first ++ so.history) so.conflicts [] [] so.stands)) in
    record {
      making = c.call.ensures.making ∙ c.loop-count.invariant.making;
      stood = stood_more S c.args.self.now.limits.room c.args.at c.onward-here.result c.args.self.now.limits.room.used (calls_at calls new) c.loop-count.count c.loop-count.session.lane c.call.new.self.lane call
          c.requires.region c.onward-here.ensures c.loop-count.invariant.count room last
          first so.history (length (book c.args.pass).lost) so.conflicts so.later (made_next c.args.at c.args.self.now.limits.room.used calls old new i so.history c.loop-count.session.lane pushed so.made)
          so.earlier adds;
      count = adds.record_is.made ∙ ap (λ (k : ℕ). k + 1) c.loop-count.invariant.count;
      ticks = let same = ap (λ (p : Pass). (book p).ticks) c.set_call.ensures.pass in ticks_more _ _ _ _ _ _ c.loop-count.invariant.ticks same (rw c.loop-count.invariant.making at c.call.ensures.clock) c.requires.attempts.1;
      bag = c.claim.ensures.bag;
      claiming = claiming;
      told =
          let Q = c.args.self.now.rewritten.now in
          let B = bounds_of c.args.self.now.limits in
          let made = was_told c.in_ok-is_made.is_made Q (bounds_with c.args.self.now.limits c.loop-count.session.lane.used) c.onward-here.result call c.loop-count.session.lane c.call.new.self.lane _
          c.if-not-is_made.false (rw c.loop-count.invariant.making at c.in_ok-is_made.ensures.told) in
          told_more Q B (IsRecordOf c.args.at (calls_at calls new)) c.loop-count.session.lane.used c.onward-here.result call c.loop-count.session.lane c.call.new.self.lane
          (g.G.Gate.told c.args.gate) (g.G.Gate.told c.loop-count.session.gate) (g.G.Gate.told c.call.new.self.gate)
          (told_weaker Q B (IsRecordOf c.args.at (calls_at calls old)) (IsRecordOf c.args.at (calls_at calls new))
          (record_longer c.args.at (calls_at calls old) (calls_at calls (i ∷ [])) (calls_at calls new) (calls_push calls old new i pushed)) c.loop-count.session.lane.placed.items _ c.loop-count.invariant.told) made
          (record_here c.args.at c.onward-here.result (calls_at calls new) c.loop-count.count call made.one c.onward-here.ensures room last made.phase made.lane made.index);
    }

pub call-requires-clause-region : goal.call-requires-clause-region
call-requires-clause-region g c = rw c.loop-count.invariant.making (inr (c.requires.region ∙ ap (λ (p : Place). suc p.lane) (sym c.onward-here.ensures)))

pub returns-in_default-clause-told : goal.returns-in_default-clause-told
returns-in_default-clause-told g c =
    told_first c.args.self.now.rewritten.now (bounds_of c.args.self.now.limits) (IsRecordOf c.args.at (calls_at c.args.calls.now c.new-indexes.result.items)) c.new-lane.result.placed.items
    (g.G.Gate.told c.args.gate) c.new-lane.ensures.placed

pub call-requires-clause-rule : goal.call-requires-clause-rule
call-requires-clause-rule g c = rw c.loop-count.invariant.making c.requires.rule

pub returns-in_err-push-clause-made : goal.returns-in_err-push-clause-made
returns-in_err-push-clause-made g c = IfOk-from_err _ _ c.from_residual.ensures.0

pub returns-in_err-push-clause-stopped : goal.returns-in_err-push-clause-stopped
returns-in_err-push-clause-stopped g c = IfOk-from_err _ _ c.from_residual.ensures.0

pub returns-in_err-push-clause-emptied : goal.returns-in_err-push-clause-emptied
returns-in_err-push-clause-emptied g c = IfOk-from_err _ _ c.from_residual.ensures.0

pub returns-in_err-push-clause-claims : goal.returns-in_err-push-clause-claims
returns-in_err-push-clause-claims g c = IfOk-from_err _ _ c.from_residual.ensures.0

pub returns-in_err-push-clause-told : goal.returns-in_err-push-clause-told
returns-in_err-push-clause-told g c = IfOk-from_err _ _ c.from_residual.ensures.0

pub returns-in_err-is_made-clause-made : goal.returns-in_err-is_made-clause-made
returns-in_err-is_made-clause-made g c = IfOk-from_err _ _ c.from_residual-in_err-is_made.ensures.0

pub returns-in_err-is_made-clause-stopped : goal.returns-in_err-is_made-clause-stopped
returns-in_err-is_made-clause-stopped g c = IfOk-from_err _ _ c.from_residual-in_err-is_made.ensures.0

pub returns-in_err-is_made-clause-emptied : goal.returns-in_err-is_made-clause-emptied
returns-in_err-is_made-clause-emptied g c = IfOk-from_err _ _ c.from_residual-in_err-is_made.ensures.0

pub returns-in_err-is_made-clause-claims : goal.returns-in_err-is_made-clause-claims
returns-in_err-is_made-clause-claims g c = IfOk-from_err _ _ c.from_residual-in_err-is_made.ensures.0

pub returns-in_err-is_made-clause-told : goal.returns-in_err-is_made-clause-told
returns-in_err-is_made-clause-told g c = IfOk-from_err _ _ c.from_residual-in_err-is_made.ensures.0

pub onward-here-requires : goal.onward-here-requires
onward-here-requires g c = place_left c.args.at.first c.loop-count.count (length c.args.calls.now) 100000 c.loop-count-test.true c.requires.few

pub call-requires-clause-ready : goal.call-requires-clause-ready
call-requires-clause-ready g c = rw c.loop-count.invariant.making c.requires.ready

pub call-requires-clause-fits : goal.call-requires-clause-fits
call-requires-clause-fits g c = rw c.loop-count.invariant.making c.requires.fits

pub call-requires-clause-attempts : goal.call-requires-clause-attempts
call-requires-clause-attempts g c = rw c.loop-count.invariant.making c.requires.attempts

pub call-requires-clause-few : goal.call-requires-clause-few
call-requires-clause-few g c =
    few_left c.args.at.first c.loop-count.session.lane.made c.loop-count.count (length c.args.calls.now) 100000 c.loop-count.invariant.count c.loop-count-test.true c.requires.few

pub call-requires-clause-clock : goal.call-requires-clause-clock
call-requires-clause-clock g c =
    let same = ap (λ (p : Pass). (book p).ticks) c.set_call.ensures.pass in
    clock_left (book c.args.pass).ticks (book (pass_of c.loop-count.session.engine)).ticks (book (pass_of c.set_call.new.self)).ticks c.loop-count.count (length c.args.calls.now) _ c.loop-count.invariant.ticks c.loop-count-test.true c.requires.pass.ticks same

pub bounds-calls-index : goal.bounds-calls-index
bounds-calls-index g c =
    let claim = subst (λ (n : ℕ). HasClaimed n (claims_of c.loop-count.claims) (claims_of c.claim.new.self) (Some c.in-Some-claim.index)) c.requires.bag.1 c.in-Some-claim.ensures.claims in
    index_under (length c.args.calls.now) c.in-Some-claim.index (claims_of c.loop-count.claims) (claims_of c.claim.new.self) claim

pub claim-requires-clause-bag : goal.claim-requires-clause-bag
claim-requires-clause-bag g c = c.loop-count.invariant.bag

pub claim-requires-clause-left : goal.claim-requires-clause-left
claim-requires-clause-left g c = claim_left _ _ _ c.loop-count.invariant.claiming.left c.loop-count-test.true

pub returns-in_default-clause-bag : goal.returns-in_default-clause-bag
returns-in_default-clause-bag g c = c.requires.bag.0

pub returns-in_default-clause-stopped : goal.returns-in_default-clause-stopped
returns-in_default-clause-stopped g c = λ some_left. absurd (some_left (c.new-lane.ensures.made ∙ sym (ap length c.new-indexes.ensures.items)))

pub returns-in_default-clause-claims : goal.returns-in_default-clause-claims
returns-in_default-clause-claims g c =
    let n = length c.args.calls.now in
    let v = claims_of c.args.claims.now in
    let indexes = c.new-indexes.result.items in
    has_taken n 0 v indexes (claiming_first n v indexes c.requires.claims c.new-indexes.ensures.items)

pub returns-in_err-push-clause-bag : goal.returns-in_err-push-clause-bag
returns-in_err-push-clause-bag g c = c.claim.ensures.bag

pub returns-in_err-is_made-clause-bag : goal.returns-in_err-is_made-clause-bag
returns-in_err-is_made-clause-bag g c = c.claim.ensures.bag

pub returns : goal.returns
returns g c = rw c.into_parts-engine.ensures (
    let so = c.loop-count.invariant.stood in
    let t = c.args.shared.now.table.shared.table_id in
    let b = book c.args.pass in
    let first = reverse b.entries in
    let calls = c.args.calls.now in
    let n = length calls in
    let v = claims_of c.loop-count.claims in
    let old = c.loop-count.indexes.items in
    let all = c.loop-count-test.indexes.items in
    let many = length all in
    let count = c.loop-count.count in
    let claiming = c.loop-count.invariant.claiming in
    let long = claiming.long in
    let held : c.loop-count.session.lane.made ≡ length old = c.loop-count.invariant.count ∙ sym long in
    let P = c.args.self.now.original.now in
    let Q = c.args.self.now.rewritten.now in
    let B = bounds_of c.args.self.now.limits in
    let C : List ℕ → Record → Known → Type 0 = λ l. IsRecordOf c.args.at (calls_at calls l) in
    let before = g.G.Gate.told c.args.gate in
    let Made : List ℕ → Type 0 = λ l. HasMade c.args.at c.args.self.now.limits.room.used (calls_at calls l) so.history c.loop-count.session.lane in
    let Left : Lane → Type 0 = λ l. IsEnding t b c.args.at many l.made l.used so.history c.into_pass-pass.result × HasMade c.args.at c.args.self.now.limits.room.used (calls_at calls all) so.history l in
    let Told : List ℕ → Lane → g.row.G.Denot → Type 0 = λ is l d. HasTold Q B (C is) l.placed.items (Grows before (g.G.Gate.told d)) in
    elim c.loop-count-test.branch [
      | else-loop-count-test w ↦
          let e = c.loop-count.session.engine in
          let engine : c.into_parts-engine.result.0 ≡ e = ap (λ p. p.0) c.into_parts-engine.ensures ∙ ap (λ x. x.engine) w.session-is in
          let rest = subst (λ x. IsRest [] 0 (book (pass_of x)) (book c.into_pass-pass.result)) engine c.into_pass-pass.ensures.rest in
          let keeps = subst (λ x. Keeps g.K.Beginning.began (pass_of x) → Keeps g.K.Beginning.began c.into_pass-pass.result) engine c.into_pass-pass.ensures.keeps in
          let indexes : old ≡ all = sym (ap (λ x. x.items) w.indexes-is) in
          let same_long = ap length indexes in
          let within : (book (pass_of e)).ticks ≤ b.ticks + many * 1000000 = subst (λ (k : ℕ). (book (pass_of e)).ticks ≤ b.ticks + k * 1000000) (sym long ∙ same_long) c.loop-count.invariant.ticks in
          let lane : c.loop-count.session.lane ≡ c.loop-count-test.session.lane = sym (ap (λ x. x.lane) w.session-is) in
          let gate : c.loop-count.session.gate ≡ c.loop-count-test.session.gate = sym (ap (λ x. x.gate) w.session-is) in
          let left = subst Left lane (
            ending g.K.Beginning.began t b c.args.at c.args.self.now.limits.room.used many c.loop-count.session.lane.made c.loop-count.session.lane.used c.into_pass-pass.result so.history so.conflicts
                c.requires.began (rests_after g.K.Beginning.began (pass_of e) c.into_pass-pass.result (first ++ so.history) so.conflicts rest keeps (rests g.K.Beginning.began e (first ++ so.history) so.conflicts [] [] so.stands))
                c.into_pass-pass.ensures.free c.requires.pass.begins so.made.takes so.earlier (ticks_after (pass_of e) c.into_pass-pass.result _ rest within),
            subst Made indexes so.made,
          ) in
          let claims : v ≡ claims_of c.loop-count-test.claims = sym (ap claims_of w.claims-is) in
          let whole : count ≡ n = omega (arith, w.loop-count-test.false) in
          record {
            made = (so.history, left.0, left.1);
            stopped = λ some_left. absurd (some_left (ap (λ (l : Lane). l.made) (sym lane) ∙ held ∙ same_long));
            emptied = λ ended. emptied_whole n count v (claims_of c.loop-count-test.claims) old all whole indexes claiming;
            bag = subst (IsOf c.args.bag.now) (sym w.claims-is) c.loop-count.invariant.bag;
            claims = taken_at n v (claims_of c.loop-count-test.claims) old all claims indexes (has_taken n count v old claiming);
            told = subst (λ (is : List ℕ). Told is c.loop-count-test.session.lane c.loop-count-test.session.gate) indexes
                (subst (λ (l : Lane). Told old l c.loop-count-test.session.gate) lane (subst (Told old c.loop-count.session.lane) gate c.loop-count.invariant.told));
          }
      | then-loop-count-test+in_default-claim w ↦
          let e = c.loop-count.session.engine in
          let engine : c.into_parts-engine.result.0 ≡ e = ap (λ p. p.0) c.into_parts-engine.ensures ∙ ap (λ x. x.engine) w.session-is in
          let rest = subst (λ x. IsRest [] 0 (book (pass_of x)) (book c.into_pass-pass.result)) engine c.into_pass-pass.ensures.rest in
          let keeps = subst (λ x. Keeps g.K.Beginning.began (pass_of x) → Keeps g.K.Beginning.began c.into_pass-pass.result) engine c.into_pass-pass.ensures.keeps in
          let indexes : old ≡ all = sym (ap (λ x. x.items) w.indexes-is) in
          let same_long = ap length indexes in
          let within : (book (pass_of e)).ticks ≤ b.ticks + many * 1000000 = subst (λ (k : ℕ). (book (pass_of e)).ticks ≤ b.ticks + k * 1000000) (sym long ∙ same_long) c.loop-count.invariant.ticks in
          let lane : c.loop-count.session.lane ≡ c.loop-count-test.session.lane = sym (ap (λ x. x.lane) w.session-is) in
          let gate : c.loop-count.session.gate ≡ c.loop-count-test.session.gate = sym (ap (λ x. x.gate) w.session-is) in
          let left = subst Left lane (
            ending g.K.Beginning.began t b c.args.at c.args.self.now.limits.room.used many c.loop-count.session.lane.made c.loop-count.session.lane.used c.into_pass-pass.result so.history so.conflicts
                c.requires.began (rests_after g.K.Beginning.began (pass_of e) c.into_pass-pass.result (first ++ so.history) so.conflicts rest keeps (rests g.K.Beginning.began e (first ++ so.history) so.conflicts [] [] so.stands))
                c.into_pass-pass.ensures.free c.requires.pass.begins so.made.takes so.earlier (ticks_after (pass_of e) c.into_pass-pass.result _ rest within),
            subst Made indexes so.made,
          ) in
          let claims : claims_of w.claim.new.self ≡ claims_of c.loop-count-test.claims = sym (ap claims_of w.claims-is) in
          let claim = subst (λ (k : ℕ). HasClaimed k v (claims_of w.claim.new.self) None) c.requires.bag.1 w.in_default-claim.ensures.claims in
          record {
            made = (so.history, left.0, left.1);
            stopped = λ some_left. absurd (some_left (ap (λ (l : Lane). l.made) (sym lane) ∙ held ∙ same_long));
            emptied = λ ended. emptied_behind n count v (claims_of w.claim.new.self) (claims_of c.loop-count-test.claims) old all claims indexes claim claiming;
            bag = subst (IsOf c.args.bag.now) (sym w.claims-is) w.claim.ensures.bag;
            claims = taken_at n (claims_of w.claim.new.self) (claims_of c.loop-count-test.claims) old all claims indexes
                (has_ended n count v (claims_of w.claim.new.self) old (at_most _ _ w.loop-count-test.true) claim claiming);
            told = subst (λ (is : List ℕ). Told is c.loop-count-test.session.lane c.loop-count-test.session.gate) indexes
                (subst (λ (l : Lane). Told old l c.loop-count-test.session.gate) lane (subst (Told old c.loop-count.session.lane) gate c.loop-count.invariant.told));
          }
      | then-loop-count-test+in-Some-claim+in_ok-push+in_ok-is_made+then-not-is_made w ↦
          let e = w.call.new.self.engine in
          let engine : c.into_parts-engine.result.0 ≡ e = ap (λ p. p.0) c.into_parts-engine.ensures ∙ ap (λ x. x.engine) w.session-is in
          let rest = subst (λ x. IsRest [] 0 (book (pass_of x)) (book c.into_pass-pass.result)) engine c.into_pass-pass.ensures.rest in
          let keeps = subst (λ x. Keeps g.K.Beginning.began (pass_of x) → Keeps g.K.Beginning.began c.into_pass-pass.result) engine c.into_pass-pass.ensures.keeps in
          let i = w.in-Some-claim.index in
          let new = w.push.new.self.items in
          let call = w.index-calls-index.result in
          let pushed = w.in_ok-push.ensures.items in
          let indexes : new ≡ all = sym (ap (λ x. x.items) w.indexes-is) in
          let same = ap (λ (p : Pass). (book p).ticks) w.set_call.ensures.pass in
          let longer = ap length pushed ∙ length_push old i in
          let within : (book (pass_of e)).ticks ≤ b.ticks + many * 1000000 =
          subst (λ (k : ℕ). (book (pass_of e)).ticks ≤ b.ticks + k * 1000000) (sym (longer ∙ ap (λ (k : ℕ). k + 1) long) ∙ ap length indexes)
          (ticks_more _ _ _ _ _ _ c.loop-count.invariant.ticks same (rw c.loop-count.invariant.making at w.call.ensures.clock) c.requires.attempts.1) in
          let S = StandsIn g.K.Beginning.began e in
          let still = was_left w.in_ok-is_made.is_made P Q (bounds_with c.args.self.now.limits c.loop-count.session.lane.used) (call_of c.args.self.now.limits.room w.onward-here.result call) S
          (first ++ so.history) so.conflicts c.loop-count.session.lane w.call.new.self.lane w.if-not-is_made.true
          ((rw c.loop-count.invariant.making at w.in_ok-is_made.ensures.adds) (first ++ so.history) so.conflicts (w.set_call.ensures.stands (first ++ so.history) so.conflicts [] [] so.stands)) in
          let last : w.call.new.self.lane ≡ c.loop-count-test.session.lane = sym (ap (λ x. x.lane) w.session-is) in
          let lane : c.loop-count.session.lane ≡ c.loop-count-test.session.lane = sym still.0 ∙ last in
          let gate : w.call.new.self.gate ≡ c.loop-count-test.session.gate = sym (ap (λ x. x.gate) w.session-is) in
          let ended = rests_after g.K.Beginning.began (pass_of e) c.into_pass-pass.result (first ++ so.history) (so.conflicts + still.1.tried) rest keeps
          (rests g.K.Beginning.began e (first ++ so.history) (so.conflicts + still.1.tried) [] [] still.1.stands) in
          let left = subst Left lane (
            ending g.K.Beginning.began t b c.args.at c.args.self.now.limits.room.used many c.loop-count.session.lane.made c.loop-count.session.lane.used c.into_pass-pass.result so.history (so.conflicts + still.1.tried)
                c.requires.began ended c.into_pass-pass.ensures.free c.requires.pass.begins so.made.takes so.earlier (ticks_after (pass_of e) c.into_pass-pass.result _ rest within),
            subst Made indexes (made_next c.args.at c.args.self.now.limits.room.used calls old new i so.history c.loop-count.session.lane pushed so.made),
          ) in
          let claim = subst (λ (k : ℕ). HasClaimed k v (claims_of w.claim.new.self) (Some i)) c.requires.bag.1 w.in-Some-claim.ensures.claims in
          let claims : claims_of w.claim.new.self ≡ claims_of c.loop-count-test.claims = sym (ap claims_of w.claims-is) in
          let more = claiming_more n count i v (claims_of w.claim.new.self) old new w.loop-count-test.true claim pushed claiming in
          let within_calls : i < n = index_under n i v (claims_of w.claim.new.self) claim in
          let nothing : Known = record { method = 0; args = [] } in
          let next : call ≡ get_or (calls_at calls new) c.loop-count.session.lane.made call =
          call_last calls old new i call pushed (w.index-calls-index.is ∙ get_or_default calls i call nothing within_calls) ∙ ap (λ (k : ℕ). get_or (calls_at calls new) k call) (sym held) in
          let room : c.loop-count.session.lane.made < length (calls_at calls new) = is_last _ _ _ (length_calls calls new) (longer ∙ ap (λ (k : ℕ). k + 1) (sym held)) in
          let Spent : List ℕ → Lane → Type 0 = λ l k. HasSpent P Q c.args.self.now.limits (calls_at calls l) k.made k.used b c.into_pass-pass.result in
          let lost = was_lost w.in_ok-is_made.is_made Q (bounds_with c.args.self.now.limits c.loop-count.session.lane.used) w.onward-here.result call c.loop-count.session.lane w.call.new.self.lane _
          w.if-not-is_made.true (rw c.loop-count.invariant.making at w.in_ok-is_made.ensures.told) in
          let weaker = told_weaker Q B (C old) (C new) (record_longer c.args.at (calls_at calls old) (calls_at calls (i ∷ [])) (calls_at calls new) (calls_push calls old new i pushed)) c.loop-count.session.lane.placed.items _
          c.loop-count.invariant.told in
          record {
            made = (so.history, left.0, left.1);
            stopped = λ some_left. subst (Spent all) lane (subst (λ (l : List ℕ). Spent l c.loop-count.session.lane) indexes
                (has_spent P Q c.args.self.now.limits (calls_at calls new) c.loop-count.session.lane.made c.loop-count.session.lane.used call
                g.K.Beginning.began b c.into_pass-pass.result (first ++ so.history) so.conflicts still.1.tried room next so.later still.1.used_up ended));
            emptied = λ over.
                let kept = ap (λ (l : Lane). l.made) (sym lane) in
                absurd (not_all _ _ _ _ over (ap length (sym indexes) ∙ more.long) kept c.loop-count.invariant.count);
            bag = subst (IsOf c.args.bag.now) (sym w.claims-is) w.claim.ensures.bag;
            claims = taken_at n (claims_of w.claim.new.self) (claims_of c.loop-count-test.claims) new all claims indexes (has_taken n (count + 1) (claims_of w.claim.new.self) new more);
            told = subst (λ (is : List ℕ). Told is c.loop-count-test.session.lane c.loop-count-test.session.gate) indexes
                (subst (λ (l : Lane). Told new l c.loop-count-test.session.gate) lane (subst (Told new c.loop-count.session.lane) gate
                (told_lost Q B (C new) c.loop-count.session.lane.placed.items before (g.G.Gate.told c.loop-count.session.gate) (g.G.Gate.told w.call.new.self.gate) weaker lost)));
          }
    ])
