use Rattle.std.proofs.Common.{◌≡◌, ap}
use Rattle.objects.specs.typing.Typing.{Types}
use Rattle.verifier.specs.Visits.{Step}
use Rattle.verifier.proofs.Visits.{follow_first, follow_second, follow_ok}
use Rattle.verifier.proofs.visit.follow.Goals as goal

pub returns-then-not-branch : goal.returns-then-not-branch
returns-then-not-branch c =
    let step = c.args.step.now in
    let left : c.step.inside.left.types ≡ c.args.step.now.left.types = cc (ap (λ (s : Step). s.left.types) c.step.view_is) in
    follow_first c.args.program.now c.args.method.now c.args.pc step.before.types step.left.types step.to _ _ c.args.search.now c.flow_each.new.self _ c.in_ok-flow_each.ensures (cc) left c.if-not-branch.true

pub returns-then-not-branch-2 : goal.returns-then-not-branch-2
returns-then-not-branch-2 c =
    let step = c.args.step.now in
    let before : c.step.inside.before.types ≡ c.args.step.now.before.types = cc (ap (λ (s : Step). s.before.types) c.step.view_is) in
    let left : c.step.inside.left.types ≡ c.args.step.now.left.types = cc (ap (λ (s : Step). s.left.types) c.step.view_is) in
    follow_second c.args.program.now c.args.method.now c.args.pc step.before.types step.left.types step.to _ _ c.args.search.now c.flow_each.new.self c.flow_caught.new.self _ _ _ _ _ c.in_ok-flow_each.ensures c.in_ok-flow_caught.ensures (cc) left c.if-not-branch.false (cc) (ap (λ (h : Types). h.locals) before) (ap (λ (h : Types). h.built) before) c.if-not-branch-2.true

pub returns : goal.returns
returns c =
    let step = c.args.step.now in
    let before : c.step.inside.before.types ≡ c.args.step.now.before.types = cc (ap (λ (s : Step). s.before.types) c.step.view_is) in
    let left : c.step.inside.left.types ≡ c.args.step.now.left.types = cc (ap (λ (s : Step). s.left.types) c.step.view_is) in
    follow_ok c.args.program.now c.args.method.now c.args.pc step.before.types step.left.types step.to c.flow_caught-2.result _ _ c.args.search.now c.flow_each.new.self c.flow_caught.new.self _ _ _ _ _ _ _ _ _ c.in_ok-flow_each.ensures c.in_ok-flow_caught.ensures c.flow_caught-2.ensures
    (cc) left c.if-not-branch.false (cc) (ap (λ (h : Types). h.locals) before) (ap (λ (h : Types). h.built) before) c.if-not-branch-2.false (cc) (ap (λ (h : Types). h.locals) left) (ap (λ (h : Types). h.built) left)
