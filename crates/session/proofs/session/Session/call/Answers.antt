use Rattle.std.proofs.Common.{◌≡◌, List, true, refl, sym, ◌∙◌, ap, subst}
use Rattle.machine.specs.Machine.{bounds_of}
use Rattle.session.specs.declared.call.Making.{Making}
use Rattle.session.specs.Lane.{record_of}
use Rattle.machine.specs.Opacity.{OpaqueBy}
use Rattle.session.specs.Rule.{Leads}
use Rattle.session.specs.Adds.{call_of, told_by, is_spent, AddsCall}
use Rattle.session.specs.Telling.{TellsCall}
use Rattle.objects.specs.declared.event.Event.{Event}
use Rattle.objects.specs.rewriting.Events.{Grows}
use Rattle.session.specs.declared.record.Record.{Record}
use Rattle.session.specs.Passes.{limits_with, bounds_with}
use Rattle.session.proofs.Lanes.{made_one, spent_one}
use Rattle.session.proofs.Telling.{spent_open}
use Rattle.session.proofs.Tried.{tries_spent, tries_made}
use Rattle.session.proofs.session.Session.call.Goals as goal

pub make_next-one-requires-clause-fits : goal.make_next-one-requires-clause-fits
make_next-one-requires-clause-fits g c = rw c.with_used-making.ensures c.requires.fits

pub make_next-one-requires-clause-rule : goal.make_next-one-requires-clause-rule
make_next-one-requires-clause-rule g c = rw c.with_used-making.ensures c.requires.rule

pub make_next-one-requires-clause-attempts : goal.make_next-one-requires-clause-attempts
make_next-one-requires-clause-attempts g c = rw c.with_used-making.ensures c.requires.attempts

pub returns-clause-adds : goal.returns-clause-adds
returns-clause-adds g c = λ h n stands.
    let self = c.args.self.now.making in
    let old = c.args.self.now.lane in
    let one = c.make_next-one.result.0 in
    let used = c.make_next-one.result.1 in
    let k = c.args.call.now in
    let S = g.E.Engine.stands c.make_next-one.new.engine in
    let Adds : Making → Type 0 = λ m. AddsCall m.original.now m.rewritten.now (bounds_of m.limits) S h n (told_by m.limits.room c.args.at k one) used in
    let Tells : Making → Type 0 = λ m. one ≡ record_of (told_by m.limits.room c.args.at k one) in
    let adds : Adds (record self { limits = limits_with self.limits old.used }) = subst Adds c.with_used-making.ensures (c.make_next-one.ensures.adds h n stands) in
    let tells = subst Tells c.with_used-making.ensures c.make_next-one.ensures.tells in
    made_one self.original.now self.rewritten.now (bounds_with self.limits old.used) S h n self.limits.room c.args.at k one used old c.add.new.self refl adds
    (sym c.is_spent.ensures ∙ c.if-is_spent.false) tells c.in_ok-add.ensures

pub make_next-one-requires-clause-states : goal.make_next-one-requires-clause-states
make_next-one-requires-clause-states g c = rw c.with_used-making.ensures c.requires.states

pub make_next-one-requires-clause-stands : goal.make_next-one-requires-clause-stands
make_next-one-requires-clause-stands g c = rw c.with_used-making.ensures c.requires.stands

pub returns-clause-told : goal.returns-clause-told
returns-clause-told g c =
    let self = c.args.self.now.making in
    let one = c.make_next-one.result.0 in
    let k = c.args.call.now in
    let Told : Making → Type 0 = λ m. (es : List Event) × TellsCall one.answer m.rewritten.now (bounds_of m.limits) k.method k.args es
    × Grows (g.G.Gate.told c.args.self.now.gate) (g.G.Gate.told c.make_next-one.new.gate) es in
    let told = subst Told c.with_used-making.ensures c.make_next-one.ensures.told in
    let tells = subst (λ (m : Making). one ≡ record_of (told_by m.limits.room c.args.at k one)) c.with_used-making.ensures c.make_next-one.ensures.tells in
    record {
      one = one;
      phase = ap (λ (r : Record). r.phase) tells;
      lane = ap (λ (r : Record). r.lane) tells;
      index = ap (λ (r : Record). r.index) tells;
      unspent = sym c.is_spent.ensures ∙ c.if-is_spent.false;
      placed = c.in_ok-add.ensures.placed;
      events = told.0;
      tells = told.1;
      told = told.2;
    }

pub returns-then-is_spent-clause-told : goal.returns-then-is_spent-clause-told
returns-then-is_spent-clause-told g c =
    let self = c.args.self.now.making in
    let one = c.make_next-one.result.0 in
    let k = c.args.call.now in
    let Told : Making → Type 0 = λ m. (es : List Event) × TellsCall one.answer m.rewritten.now (bounds_of m.limits) k.method k.args es
    × Grows (g.G.Gate.told c.args.self.now.gate) (g.G.Gate.told c.make_next-one.new.gate) es in
    let told = subst Told c.with_used-making.ensures c.make_next-one.ensures.told in
    record {
      events = told.0;
      no_entry = spent_open self.rewritten.now (bounds_with self.limits c.args.self.now.lane.used) k.method k.args one.answer (sym c.is_spent.ensures ∙ c.if-is_spent.true) told.0 told.1;
      told = told.2;
    }

pub returns-clause-attempts : goal.returns-clause-attempts
returns-clause-attempts g c = λ h n k stands begins.
    tries_made (g.E.Engine.stands c.make_next-one.new.engine) (g.E.Engine.attempts c.make_next-one.new.engine) n k c.make_next-one.result.0 c.args.self.now.lane c.add.new.self
    (sym c.is_spent.ensures ∙ c.if-is_spent.false) c.in_ok-add.ensures.placed (c.make_next-one.ensures.attempts h n k stands begins)

pub returns-then-is_spent-clause-attempts : goal.returns-then-is_spent-clause-attempts
returns-then-is_spent-clause-attempts g c = λ h n k stands begins.
    tries_spent (g.E.Engine.stands c.make_next-one.new.engine) (g.E.Engine.attempts c.make_next-one.new.engine) n k c.make_next-one.result.0.answer
    (sym c.is_spent.ensures ∙ c.if-is_spent.true) (c.make_next-one.ensures.attempts h n k stands begins)

pub returns-clause-prefixes : goal.returns-clause-prefixes
returns-clause-prefixes g c = λ h n stands leads.
    let one = c.make_next-one.result.0 in
    let used = c.make_next-one.result.1 in
    let k = c.args.call.now in
    let S = g.E.Engine.stands c.make_next-one.new.engine in
    let T = Grows (g.G.Gate.told c.args.self.now.gate) (g.G.Gate.told c.make_next-one.new.gate) in
    let Sees : Making → Type 0 = λ m. Leads g.E.Engine.is_shared g.E.Engine.begins h (call_of m.limits.room c.args.at k) m.limits.room.used
    → OpaqueBy one.answer m.original.now m.rewritten.now (bounds_of m.limits) g.E.Engine.begins g.E.Engine.allows (call_of m.limits.room c.args.at k) S h n T (record { answer = one.answer; stamp = one.stamp; used = used }) in
    (one, used, c.in_ok-add.ensures, subst Sees c.with_used-making.ensures (c.make_next-one.ensures.prefixes h n stands) leads)

pub returns-then-is_spent-clause-prefixes : goal.returns-then-is_spent-clause-prefixes
returns-then-is_spent-clause-prefixes g c = λ h n stands leads.
    let one = c.make_next-one.result.0 in
    let used = c.make_next-one.result.1 in
    let k = c.args.call.now in
    let S = g.E.Engine.stands c.make_next-one.new.engine in
    let T = Grows (g.G.Gate.told c.args.self.now.gate) (g.G.Gate.told c.make_next-one.new.gate) in
    let Sees : Making → Type 0 = λ m. Leads g.E.Engine.is_shared g.E.Engine.begins h (call_of m.limits.room c.args.at k) m.limits.room.used
    → OpaqueBy one.answer m.original.now m.rewritten.now (bounds_of m.limits) g.E.Engine.begins g.E.Engine.allows (call_of m.limits.room c.args.at k) S h n T (record { answer = one.answer; stamp = one.stamp; used = used }) in
    let self = c.args.self.now.making in
    let old = c.args.self.now.lane in
    let Adds : Making → Type 0 = λ m. AddsCall m.original.now m.rewritten.now (bounds_of m.limits) S h n (told_by m.limits.room c.args.at k one) used in
    let adds : Adds (record self { limits = limits_with self.limits old.used }) = subst Adds c.with_used-making.ensures (c.make_next-one.ensures.adds h n stands) in
    let spent : is_spent one.answer ≡ true = sym c.is_spent.ensures ∙ c.if-is_spent.true in
    let unused = spent_one self.original.now self.rewritten.now (bounds_with self.limits old.used) S h n self.limits.room c.args.at k one used old old refl adds spent in
    (one, used, (spent, refl, unused), subst Sees c.with_used-making.ensures (c.make_next-one.ensures.prefixes h n stands) leads)

pub make_next-one-requires-clause-ready : goal.make_next-one-requires-clause-ready
make_next-one-requires-clause-ready g c = rw c.with_used-making.ensures c.requires.ready

pub make_next-one-requires-clause-call : goal.make_next-one-requires-clause-call
make_next-one-requires-clause-call g c = rw c.with_used-making.ensures c.requires.call

pub make_next-one-requires-clause-region : goal.make_next-one-requires-clause-region
make_next-one-requires-clause-region g c = rw c.with_used-making.ensures c.requires.region

pub make_next-one-requires-clause-awaits : goal.make_next-one-requires-clause-awaits
make_next-one-requires-clause-awaits g c = rw c.with_used-making.ensures c.requires.awaits

pub make_next-one-requires-clause-clock : goal.make_next-one-requires-clause-clock
make_next-one-requires-clause-clock g c = c.requires.clock
