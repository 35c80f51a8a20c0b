use Rattle.std.proofs.Common.{◌≡◌, ◌+◌, length, [], ◌∷◌, length-append, arith}
use Rattle.std.proofs.lemmas.List.{length-map}
use Rattle.std.proofs.lemmas.Result.{IfOk-from_err}
use Rattle.objects.specs.linking.StaticBases.{base_of}
use Rattle.hierarchy.proofs.InOrder.{seen}
use Rattle.heap_layout.proofs.Bases.{next_base}
use Rattle.linking.proofs.BasePlaces.{one_more}
use Rattle.linking.proofs.bases.bases_of.Goals as goal

pub loop-class-preserved : goal.loop-class-preserved
loop-class-preserved c =
    let classes = c.args.classes.now in
    let i = c.loop-class.class-index in
    let inv = c.loop-class.invariant in
    let next = next_base classes i c.class-item.result c.loop-class-test.true c.class-item.is in
    let is : c.in_ok-base.base ≡ base_of (seen classes) (i + 1) = omega (arith, c.in_ok-base.ensures, c.in_ok-base_words.ensures, inv.next, next) in
    rw c.in_ok-push.ensures.items (record {
      next = is;
      many = omega (arith, length-append c.loop-class.bases.items (c.loop-class.base ∷ []), inv.many);
      each = one_more c.loop-class.bases.items (base_of (seen classes)) i c.loop-class.base inv.many inv.each inv.next;
    })

pub returns-in_err-push : goal.returns-in_err-push
returns-in_err-push c = IfOk-from_err _ _ c.from_residual.ensures.0

pub returns-in_err-base_words : goal.returns-in_err-base_words
returns-in_err-base_words c = IfOk-from_err _ _ c.from_residual-in_err-base_words.ensures.0

pub returns-in_err-base : goal.returns-in_err-base
returns-in_err-base c = IfOk-from_err _ _ c.from_residual-in_err-base.ensures.0

pub returns : goal.returns
returns c =
    let classes = c.args.classes.now in
    let i = c.loop-class.class-index in
    let inv = c.loop-class.invariant in
    let long : length (seen classes) ≡ length classes = length-map _ _ in
    let whole : i ≡ length (seen classes) = omega (arith, long, c.loop-class-test.false, c.loop-class.auto.class-index-end) in
    rw c.in_ok-push-2.ensures.items (record {
      many = omega (arith, length-append c.loop-class.bases.items (c.loop-class.base ∷ []), inv.many, whole);
      each = λ n inside. one_more c.loop-class.bases.items (base_of (seen classes)) i c.loop-class.base inv.many inv.each inv.next n (omega (arith, inside, whole));
    })
