use Rattle.std.proofs.Common.{Bool}
use Rattle.std.proofs.lemmas.Result.{err_from_is_err_and}
use Rattle.objects.specs.linking.Each.{each}
use Rattle.objects.specs.linking.Classes.{Declared}
use Rattle.hierarchy.proofs.Each.{starts, goes_on, ends, is_done, item_is}
use Rattle.linking.specs.Relinking.{meaning_among}
use Rattle.linking.proofs.rebuild.methods_among.Goals as goal

pub loop-method-preserved : goal.loop-method-preserved
loop-method-preserved c =
    let scope = c.args.scope.now in
    let f = λ (p : Declared × Bool). meaning_among scope.names.now scope.numbering.now scope.bases.now p.1 p.0 in
    let all = c.args.methods.now in
    let i = c.loop-method.method-index in
    rw c.in_ok-push.ensures.items (goes_on f c.loop-method.built.items all i c.loop-method-item.result c.in_ok-rewritten_method.field-0 (each f all)
    (item_is all i c.loop-method-item.result c.loop-method-test.true c.loop-method-item.is) c.in_ok-rewritten_method.ensures c.loop-method.invariant)

pub loop-method-init : goal.loop-method-init
loop-method-init c =
    let scope = c.args.scope.now in
    let f = λ (p : Declared × Bool). meaning_among scope.names.now scope.numbering.now scope.bases.now p.1 p.0 in
    let all = c.args.methods.now in
    rw c.new-built.ensures.items (starts f all)

pub returns-in_err-rewritten_method : goal.returns-in_err-rewritten_method
returns-in_err-rewritten_method c =
    let scope = c.args.scope.now in
    let f = λ (p : Declared × Bool). meaning_among scope.names.now scope.numbering.now scope.bases.now p.1 p.0 in
    let all = c.args.methods.now in
    let i = c.loop-method.method-index in
    let p = err_from_is_err_and c.from_residual.result c.from_residual.ensures.1 in
    rw (p.1, p.2) (ends f c.in_err-rewritten_method.field-0.0 c.loop-method.built.items all i c.loop-method-item.result (each f all)
    (item_is all i c.loop-method-item.result c.loop-method-test.true c.loop-method-item.is) c.in_err-rewritten_method.ensures c.loop-method.invariant)

pub returns-in_err-push : goal.returns-in_err-push
returns-in_err-push c = let p = err_from_is_err_and c.from_residual-in_err-push.result c.from_residual-in_err-push.ensures.1 in rw (p.1, p.2) tt

pub returns : goal.returns
returns c =
    let scope = c.args.scope.now in
    let f = λ (p : Declared × Bool). meaning_among scope.names.now scope.numbering.now scope.bases.now p.1 p.0 in
    let all = c.args.methods.now in
    is_done f c.loop-method.built.items all c.loop-method.method-index (each f all) c.loop-method-test.false c.loop-method.invariant
