use Rattle.std.proofs.Common.{rules, ◌≡◌, ℕ, ◌+◌, ◌++◌, ◌∷◌, [], List, length, take, sym, ap, subst, ◌∙◌}
use Rattle.std.specs.Iterator.Adapters.{zip_first, zip_second}
use Rattle.std.specs.Slice.Iter.{iter_rest}
use Rattle.std.proofs.lemmas.List.{length_push}
use Rattle.std.proofs.lemmas.Slice.Zip.{zip_turn, zip_end}
use Rattle.objects.specs.semantics.Program.{Method}
use Rattle.objects.specs.rewriting.Rewriting.{duplicate_method, duplicates}
use Rattle.program_rewriter.proofs.Tabled.{shaped_at, one_more, all_made}
use Rattle.program_rewriter.proofs.rewriting.duplicates.Goals as goal

pub duplicate_of-requires : goal.duplicate_of-requires
duplicate_of-requires c =
    let P = c.args.program.now in
    let first : iter_rest (zip_first c.into_iter-method-iterator.result) ≡ P.methods = first_of (cc, search rules) in
    let second : iter_rest (zip_second c.into_iter-method-iterator.result) ≡ c.args.typings.now = first_of (cc, search rules) in
    let t = zip_turn P.methods c.args.typings.now c.loop-method.yielded c.into_iter-method-iterator.result c.loop-method.method-iterator c.next.new.self c.next.result first second c.loop-method.yielded_by
    (c.in-Some.method, c.in-Some.typing) c.in-Some.is c.next.ensures.steps in
    shaped_at P (length c.loop-method.yielded) c.in-Some.method.now c.requires.source t.0 (t.2 _)

pub loop-method-preserved : goal.loop-method-preserved
loop-method-preserved c =
    let P = c.args.program.now in
    let Ts = c.args.typings.now in
    let n = length c.loop-method.yielded in
    let first : iter_rest (zip_first c.into_iter-method-iterator.result) ≡ P.methods = first_of (cc, search rules) in
    let second : iter_rest (zip_second c.into_iter-method-iterator.result) ≡ Ts = first_of (cc, search rules) in
    let t = zip_turn P.methods Ts c.loop-method.yielded c.into_iter-method-iterator.result c.loop-method.method-iterator c.next.new.self c.next.result first second c.loop-method.yielded_by
    (c.in-Some.method, c.in-Some.typing) c.in-Some.is c.next.ensures.steps in
    let more = one_more P P.methods Ts n c.in-Some.method.now c.in-Some.typing.now t.0 t.1 (t.2 _) (t.3 _) in
    let made : c.push.new.self.items ≡ duplicates P (take (n + 1) P.methods) (take (n + 1) Ts) =
    c.in_ok-push.ensures.items ∙ ap (λ (ds : List Method). ds ++ c.in_ok-duplicate_of.field-0 ∷ []) c.loop-method.invariant
    ∙ ap (λ (d : Method). duplicates P (take n P.methods) (take n Ts) ++ d ∷ []) c.in_ok-duplicate_of.ensures ∙ sym more in
    subst (λ (k : ℕ). c.push.new.self.items ≡ duplicates P (take k P.methods) (take k Ts)) (sym (length_push c.loop-method.yielded (c.in-Some.method, c.in-Some.typing))) made

pub returns : goal.returns
returns c =
    let P = c.args.program.now in
    let Ts = c.args.typings.now in
    let first : iter_rest (zip_first c.into_iter-method-iterator.result) ≡ P.methods = first_of (cc, search rules) in
    let second : iter_rest (zip_second c.into_iter-method-iterator.result) ≡ Ts = first_of (cc, search rules) in
    let end = zip_end P.methods Ts c.loop-method.yielded c.into_iter-method-iterator.result c.loop-method.method-iterator c.next.new.self c.next.result first second c.loop-method.yielded_by c.in-None.is c.next.ensures.steps in
    c.loop-method.invariant ∙ all_made P Ts (length c.loop-method.yielded) c.requires.tables end
