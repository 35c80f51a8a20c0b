use Rattle.std.proofs.Common.{rules, ◌≡◌, ℕ, length, sym, subst, drop, ◌++◌, ◌∷◌, [], Option, true}
use Rattle.std.proofs.lemmas.Result.{err_from_is_err_and}
use Rattle.std.proofs.lemmas.Slice.Zip.{zip_turn, zip_end}
use Rattle.std.specs.Iterator.Adapters.{zip_first, zip_second}
use Rattle.std.specs.Slice.Iter.{iter_rest}
use Rattle.objects.specs.linking.Each.{each}
use Rattle.objects.specs.linking.Code.{Coded}
use Rattle.objects.specs.linking.Classes.{Declared}
use Rattle.objects.specs.linking.Linking.{method_of}
use Rattle.hierarchy.proofs.Each.{with_front, goes_on, ends, is_done}
use Rattle.linking.specs.Numbering.{symbols_among}
use Rattle.linking.proofs.Zipped.{side_by_side, length_more, pair_is, no_more}
use Rattle.linking.proofs.build.methods_among.Goals as goal

pub returns-in_err-method_of : goal.returns-in_err-method_of
returns-in_err-method_of c =
    let f = λ (p : Declared × Option Coded). method_of (symbols_among c.args.scope.now.names.now c.args.scope.now.numbering.now c.args.scope.now.bases.now p.0.class) true p.0.member p.1 in
    let p = err_from_is_err_and c.from_residual.result c.from_residual.ensures.1 in
    let first : iter_rest (zip_first c.into_iter-method-iterator.result) ≡ c.args.methods.now = first_of (cc, search rules) in
    let second : iter_rest (zip_second c.into_iter-method-iterator.result) ≡ c.args.coded.now = first_of (cc, search rules) in
    let t = zip_turn c.args.methods.now c.args.coded.now c.loop-method.yielded c.into_iter-method-iterator.result c.loop-method.method-iterator c.next.new.self c.next.result first second c.loop-method.yielded_by
    (c.in-Some.method, c.in-Some.code) c.in-Some.is c.next.ensures.steps in
    rw (p.1, p.2) (ends f c.in_err-method_of.field-0.0 c.loop-method.built.items (side_by_side c.args.methods.now c.args.coded.now) (length c.loop-method.yielded) (c.in-Some.method.now.now, c.in-Some.code.now) _
    (pair_is c.args.methods.now c.args.coded.now (length c.loop-method.yielded) c.in-Some.method.now c.in-Some.code.now t.0 t.1 (t.2 _) (t.3 _)) c.in_err-method_of.ensures c.loop-method.invariant)

pub loop-method-preserved : goal.loop-method-preserved
loop-method-preserved c =
    let f = λ (p : Declared × Option Coded). method_of (symbols_among c.args.scope.now.names.now c.args.scope.now.numbering.now c.args.scope.now.bases.now p.0.class) true p.0.member p.1 in
    let first : iter_rest (zip_first c.into_iter-method-iterator.result) ≡ c.args.methods.now = first_of (cc, search rules) in
    let second : iter_rest (zip_second c.into_iter-method-iterator.result) ≡ c.args.coded.now = first_of (cc, search rules) in
    let t = zip_turn c.args.methods.now c.args.coded.now c.loop-method.yielded c.into_iter-method-iterator.result c.loop-method.method-iterator c.next.new.self c.next.result first second c.loop-method.yielded_by
    (c.in-Some.method, c.in-Some.code) c.in-Some.is c.next.ensures.steps in
    let all = side_by_side c.args.methods.now c.args.coded.now in
    let step =
    goes_on f c.loop-method.built.items all (length c.loop-method.yielded) (c.in-Some.method.now.now, c.in-Some.code.now) c.in_ok-method_of.field-0 (each f all)
    (pair_is c.args.methods.now c.args.coded.now (length c.loop-method.yielded) c.in-Some.method.now c.in-Some.code.now t.0 t.1 (t.2 _) (t.3 _)) c.in_ok-method_of.ensures c.loop-method.invariant in
    let counted = subst (λ (n : ℕ). with_front (c.loop-method.built.items ++ c.in_ok-method_of.field-0 ∷ []) (each f (drop n all)) ≡ each f all)
    (sym (length_more c.loop-method.yielded (c.in-Some.method, c.in-Some.code))) step in
    rw c.in_ok-push.ensures.items counted

pub returns : goal.returns
returns c =
    let f = λ (p : Declared × Option Coded). method_of (symbols_among c.args.scope.now.names.now c.args.scope.now.numbering.now c.args.scope.now.bases.now p.0.class) true p.0.member p.1 in
    let first : iter_rest (zip_first c.into_iter-method-iterator.result) ≡ c.args.methods.now = first_of (cc, search rules) in
    let second : iter_rest (zip_second c.into_iter-method-iterator.result) ≡ c.args.coded.now = first_of (cc, search rules) in
    let t = zip_end c.args.methods.now c.args.coded.now c.loop-method.yielded c.into_iter-method-iterator.result c.loop-method.method-iterator c.next.new.self c.next.result first second c.loop-method.yielded_by
    c.in-None.is c.next.ensures.steps in
    let all = side_by_side c.args.methods.now c.args.coded.now in
    is_done f c.loop-method.built.items all (length c.loop-method.yielded) (each f all) (no_more c.args.methods.now c.args.coded.now (length c.loop-method.yielded) t) c.loop-method.invariant
