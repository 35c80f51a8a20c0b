use Rattle.std.proofs.Common.{◌≡◌, ℕ, ◌-◌, ◌<◌, ◌≤◌, suc, List, length, Some, sym, ap, subst, ◌∙◌, get_or, arith}
use Rattle.std.proofs.lemmas.Option.{get_or_from_slice_get, slice_get-get_or}
use Rattle.std.proofs.lemmas.Bool.Decides.{nat_tests}
use Rattle.std.specs.Prelude.{slice_get}
use Rattle.objects.specs.semantics.Program.{Method}
use Rattle.objects.specs.typing.Typing.{IsTyping, IsNarrowest, IsUntypableAt}
use Rattle.verifier.specs.Bounded.{IsTableUpTo, IsFoundUpTo}
use Rattle.verifier.proofs.Infers.{found_typing, found_narrowest, none_empty}
use Rattle.verifier.proofs.inference.infer.Goals as goal

-- the method of the number is the code that is looked at
the_code : (ms ns : List Method) (i : ℕ) (x : Method) → ms ≡ ns → x ≡ get_or ms i x → (k : Method) → slice_get ns i ≡ Some k → x ≡ k
the_code ms ns i x e is k g = is ∙ get_or_from_slice_get ms i k x (subst (λ (y : List Method). slice_get y i ≡ Some k) (sym e) g)

code_there : (ms ns : List Method) (i : ℕ) (x : Method) → ms ≡ ns → x ≡ get_or ms i x → i < length ns → slice_get ns i ≡ Some x
code_there ms ns i x e is lt =
    let f : get_or ns i x ≡ x = sym (is ∙ ap (λ (y : List Method). get_or y i x) e) in
    slice_get-get_or ns i x lt ∙ ap (λ (y : Method). Some y) f

pub returns-then-is_empty-clause-err : goal.returns-then-is_empty-clause-err
returns-then-is_empty-clause-err c = λ k e.
    let P = c.args.program.now in
    let x = c.index-methods-method.result in
    let l = ap length c.ops.ensures in
    let a = c.is_empty.ensures in
    let b = c.if-is_empty.true in
    let none : length x.ops ≡ 0 = grind (arith, nat_tests) in
    subst (λ (y : Method). IsUntypableAt P y 0) (the_code c.methods.result.now P.methods c.args.method x c.methods.ensures c.index-methods-method.is k e) (none_empty P x none)

pub table_up_to-requires-clause-takes : goal.table_up_to-requires-clause-takes
table_up_to-requires-clause-takes c =
    let x = c.index-methods-method.result in
    c.requires.takes x (code_there c.methods.result.now c.args.program.now.methods c.args.method x c.methods.ensures c.index-methods-method.is c.requires.there)

pub least_untyped-requires-clause-takes : goal.least_untyped-requires-clause-takes
least_untyped-requires-clause-takes c =
    let x = c.index-methods-method.result in
    c.requires.takes x (code_there c.methods.result.now c.args.program.now.methods c.args.method x c.methods.ensures c.index-methods-method.is c.requires.there)

pub returns-in_default-clause-err : goal.returns-in_default-clause-err
returns-in_default-clause-err c = λ k e.
    let P = c.args.program.now in
    let x = c.index-methods-method.result in
    subst (λ (y : Method). IsUntypableAt P y c.in_ok-place.place) (the_code c.methods.result.now P.methods c.args.method x c.methods.ensures c.index-methods-method.is k e) c.in_ok-place.ensures

pub returns-clause-ok : goal.returns-clause-ok
returns-clause-ok c =
    let P = c.args.program.now in
    let x = c.index-methods-method.result in
    let T = c.in-Some.typing in
    let last = length c.ops-2.result.now - 1 in
    let l = ap length c.ops-2.ensures in
    let le : length x.ops ≤ suc last = omega arith in
    let found : IsTableUpTo P x last T = subst (IsFoundUpTo P x last) c.in-Some.is c.in_ok-typing.ensures in
    let code = the_code c.methods.result.now P.methods c.args.method x c.methods.ensures c.index-methods-method.is in
    record {
      typing = λ k h. subst (λ (y : Method). IsTyping P y T) (code k h) (found_typing P x last T le found);
      narrowest = λ k h. subst (λ (y : Method). IsNarrowest P y T) (code k h) (found_narrowest P x last T found);
    }
