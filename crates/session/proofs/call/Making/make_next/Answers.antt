use Rattle.std.proofs.Common.{◌≡◌, refl, ap, sym, ◌∙◌}
use Rattle.jmodel.specs.history.Schedule.{Known}
use Rattle.machine.specs.Machine.{bounds_of}
use Rattle.session.proofs.Calling.{may_run, may_start, typed_call, call_adds}
use Rattle.session.proofs.Telling.{call_told}
use Rattle.session.specs.Adds.{call_of}
use Rattle.session.proofs.call.Making.make_next.Goals as goal

pub call-requires-clause-ready : goal.call-requires-clause-ready
call-requires-clause-ready g c = λ shared.
    let k = c.args.call.now in
    let method : k.method ≡ c.call.inside.method = ap (λ (x : Known). x.method) (sym c.call.view_is) in
    let args : k.args ≡ c.as_slice.result.now = ap (λ (x : Known). x.args) (sym c.call.view_is) ∙ sym c.as_slice.ensures.value in
    may_start c.args.self.now.original.now c.args.self.now.rewritten.now c.requires.ready c.args.self.now.limits c.args.at k c.requires.call c.requires.region g.E.Engine.allows c.requires.rule
    (g.E.Engine.stands c.args.engine.now) (g.E.Engine.awaits c.args.engine.now)
    c.requires.stands.0 c.requires.stands.1 c.requires.stands.2 c.requires.awaits c.call.inside.method c.as_slice.result.now method args

pub unreachable-requires : goal.unreachable-requires
unreachable-requires g c =
    let P = c.args.self.now.original.now in
    let k = c.args.call.now in
    let at = c.args.at in
    let ready = c.requires.ready in
    let method : k.method ≡ c.call.inside.method = ap (λ (x : Known). x.method) (sym c.call.view_is) in
    let args : k.args ≡ c.as_slice.result.now = ap (λ (x : Known). x.args) (sym c.call.view_is) ∙ sym c.as_slice.ensures.value in
    let typed = typed_call P c.args.self.now.rewritten.now ready c.args.self.now.limits at k c.requires.call c.requires.region c.call.inside.method c.as_slice.result.now method args in
    let fall = c.in-Err.ensures.sound P ready.tables c.requires.stands.0 c.requires.stands.1 (call_of c.args.self.now.limits.room at k) typed c.requires.stands.2 c.requires.awaits refl c.requires.stands.3 c.requires.states in
    cc

pub returns-clause-adds : goal.returns-clause-adds
returns-clause-adds g c = λ h n stands.
    let P = c.args.self.now.original.now in
    let Q = c.args.self.now.rewritten.now in
    let k = c.args.call.now in
    let at = c.args.at in
    let method : k.method ≡ c.call.inside.method = ap (λ (x : Known). x.method) (sym c.call.view_is) in
    let args : k.args ≡ c.as_slice.result.now = ap (λ (x : Known). x.args) (sym c.call.view_is) ∙ sym c.as_slice.ensures.value in
    let may = may_run P Q c.requires.ready c.args.self.now.limits at k c.requires.call c.requires.region g.E.Engine.allows c.requires.rule in
    call_adds P Q c.requires.ready c.args.self.now.limits at k c.requires.call c.requires.region c.requires.attempts.0 (g.E.Engine.stands c.call-2.new.tx) h n c.in-Ok.field-0
    (c.in-Ok.ensures.run h n (call_of c.args.self.now.limits.room at k) stands c.requires.awaits method args may)

pub returns-clause-told : goal.returns-clause-told
returns-clause-told g c =
    let P = c.args.self.now.original.now in
    let Q = c.args.self.now.rewritten.now in
    let k = c.args.call.now in
    let at = c.args.at in
    let method : k.method ≡ c.call.inside.method = ap (λ (x : Known). x.method) (sym c.call.view_is) in
    let args : k.args ≡ c.as_slice.result.now = ap (λ (x : Known). x.args) (sym c.call.view_is) ∙ sym c.as_slice.ensures.value in
    let may = may_run P Q c.requires.ready c.args.self.now.limits at k c.requires.call c.requires.region g.E.Engine.allows c.requires.rule in
    let h = c.requires.stands.0 in
    let n = c.requires.stands.1 in
    call_told Q (bounds_of c.args.self.now.limits) (call_of c.args.self.now.limits.room at k) (g.E.Engine.stands c.call-2.new.tx) h n _ c.in-Ok.field-0
    (c.in-Ok.ensures.told h n (call_of c.args.self.now.limits.room at k) c.requires.stands.2 c.requires.awaits method args may)

pub returns-clause-attempts : goal.returns-clause-attempts
returns-clause-attempts g c = λ h n begun stands begins.
    let P = c.args.self.now.original.now in
    let Q = c.args.self.now.rewritten.now in
    let k = c.args.call.now in
    let at = c.args.at in
    let method : k.method ≡ c.call.inside.method = ap (λ (x : Known). x.method) (sym c.call.view_is) in
    let args : k.args ≡ c.as_slice.result.now = ap (λ (x : Known). x.args) (sym c.call.view_is) ∙ sym c.as_slice.ensures.value in
    let may = may_run P Q c.requires.ready c.args.self.now.limits at k c.requires.call c.requires.region g.E.Engine.allows c.requires.rule in
    c.in-Ok.ensures.attempts h n begun (call_of c.args.self.now.limits.room at k) stands c.requires.awaits method args may begins

pub returns-clause-prefixes : goal.returns-clause-prefixes
returns-clause-prefixes g c = λ h n stands leads.
    let P = c.args.self.now.original.now in
    let Q = c.args.self.now.rewritten.now in
    let k = c.args.call.now in
    let at = c.args.at in
    let ready = c.requires.ready in
    let method : k.method ≡ c.call.inside.method = ap (λ (x : Known). x.method) (sym c.call.view_is) in
    let args : k.args ≡ c.as_slice.result.now = ap (λ (x : Known). x.args) (sym c.call.view_is) ∙ sym c.as_slice.ensures.value in
    let may = may_run P Q ready c.args.self.now.limits at k c.requires.call c.requires.region g.E.Engine.allows c.requires.rule in
    let typed = typed_call P Q ready c.args.self.now.limits at k c.requires.call c.requires.region c.call.inside.method c.as_slice.result.now method args in
    c.in-Ok.ensures.prefixes P ready.tables h n (call_of c.args.self.now.limits.room at k) typed stands c.requires.awaits method args refl may leads c.requires.states
