use Rattle.std.proofs.Common.{rules, ◌≡◌, ℤ, List, Option, length, get_or, false, sym, ap, subst, ◌∙◌, arith}
use Rattle.std.specs.Prelude.{option_copied, slice_get, zip}
use Rattle.std.proofs.lemmas.Result.{err_from_is_err_and}
use Rattle.jmodel.specs.format.Reading.{Fails}
use Rattle.jmodel.specs.format.ClassFile.{Member}
use Rattle.objects.specs.linking.Code.{is_root, retries_of}
use Rattle.objects.specs.semantics.Program.{Method}
use Rattle.rewriter.specs.Rewritten.{wrapped_if}
use Rattle.rewriter.proofs.Wrapping.{pair_is, number_is, id_is, one_more, done, goes_on, fails}
use Rattle.rewriter.proofs.wrappers.wrap_each.Goals as goal

pub returns-in_err-wrap_if : goal.returns-in_err-wrap_if
returns-in_err-wrap_if c =
    let told : c.as_slice-methods.result.now ≡ c.args.class.now.methods = search rules in
    let flags : c.flags-flags.result.now ≡ c.args.share.now.flags = search rules in
    let item = pair_is c.args.class.now.methods c.as_slice-methods.result.now c.args.share.now.flags c.flags-flags.result.now c.loop-i.i c.index-methods-i.result told flags c.requires.flags c.loop-i-test.true c.index-methods-i.is in
    let p = err_from_is_err_and c.from_residual.result c.from_residual.ensures.1 in
    let attempts : c.retries_of-attempts.result ≡ retries_of c.args.class.now.pool c.index-methods-i.result = search rules in
    let method : option_copied c.method-method.result ≡ slice_get c.args.program.now.methods c.loop-i.number = c.method-method.ensures in
    let failed = subst (λ (a : Option ℤ). Fails c.in_err-wrap_if.field-0.0 (wrapped_if c.loop-i.wrapper a (slice_get c.args.program.now.methods c.loop-i.number) c.loop-i.rewritten c.loop-i.i)) attempts
    (subst (λ (k : Option Method). Fails c.in_err-wrap_if.field-0.0 (wrapped_if c.loop-i.wrapper c.retries_of-attempts.result k c.loop-i.rewritten c.loop-i.i)) method c.in_err-wrap_if.ensures) in
    rw (p.1, p.2) (fails c.args.program.now c.args.class.now.pool (zip c.args.class.now.methods c.args.share.now.flags) c.loop-i.i c.loop-i.number c.loop-i.wrapper (c.index-methods-i.result, get_or c.flags-flags.result.now c.loop-i.i false) c.loop-i.rewritten item
    _ c.loop-i.invariant.0 c.in_err-wrap_if.field-0.0 failed)

pub loop-i-preserved : goal.loop-i-preserved
loop-i-preserved c =
    let told : c.as_slice-methods.result.now ≡ c.args.class.now.methods = search rules in
    let flags : c.flags-flags.result.now ≡ c.args.share.now.flags = search rules in
    let item = pair_is c.args.class.now.methods c.as_slice-methods.result.now c.args.share.now.flags c.flags-flags.result.now c.loop-i.i c.index-methods-i.result told flags c.requires.flags c.loop-i-test.true c.index-methods-i.is in
    let attempts : c.retries_of-attempts.result ≡ retries_of c.args.class.now.pool c.index-methods-i.result = search rules in
    let method : option_copied c.method-method.result ≡ slice_get c.args.program.now.methods c.loop-i.number = c.method-method.ensures in
    let gives = ap (λ (a : Option ℤ). wrapped_if c.loop-i.wrapper a (slice_get c.args.program.now.methods c.loop-i.number) c.loop-i.rewritten c.loop-i.i) (sym attempts)
    ∙ ap (λ (k : Option Method). wrapped_if c.loop-i.wrapper c.retries_of-attempts.result k c.loop-i.rewritten c.loop-i.i) (sym method) ∙ c.in_ok-wrap_if.ensures in
    let root : c.is_root.result ≡ is_root c.args.class.now.pool c.index-methods-i.result = search rules in
    let number = number_is (get_or c.flags-flags.result.now c.loop-i.i false) c.loop-i.number c.from-number.result c.from-number.ensures in
    let wrapper = id_is c.is_root.result c.args.class.now.pool c.index-methods-i.result c.loop-i.wrapper c.from-wrapper.result root c.from-wrapper.ensures in
    let step = goes_on c.args.program.now c.args.class.now.pool (zip c.args.class.now.methods c.args.share.now.flags) c.loop-i.i c.loop-i.number c.loop-i.wrapper (c.index-methods-i.result, get_or c.flags-flags.result.now c.loop-i.i false) c.loop-i.rewritten item
    _ c.loop-i.invariant.0 c.wrap_if.new.rewritten gives in
    let one = one_more (get_or c.flags-flags.result.now c.loop-i.i false) c.from-number.result c.from-number.ensures in
    let other = one_more c.is_root.result c.from-wrapper.result c.from-wrapper.ensures in (
      rw (number, wrapper) step,
      omega (arith, one, c.loop-i.invariant.1),
      omega (arith, other, c.loop-i.invariant.2),
    )

pub returns : goal.returns
returns c =
    let told : c.as_slice-methods.result.now ≡ c.args.class.now.methods = search rules in
    let past = ap (λ (ms : List Member). length ms) told in
    done c.args.program.now c.args.class.now.pool c.args.class.now.methods c.args.share.now.flags c.loop-i.i c.loop-i.number c.loop-i.wrapper c.loop-i.rewritten _ (omega (arith, past, c.loop-i-test.false)) c.loop-i.invariant.0
