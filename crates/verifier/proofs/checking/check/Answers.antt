use Rattle.std.proofs.Common.{◌≡◌, ℕ, ◌+◌, ◌<◌, ◌≤◌, List, length, drop, get_or, Option, Some, Bool, true, false, refl, sym, ap, subst, ◌∙◌, arith}
use Rattle.std.proofs.lemmas.Option.{get_or_from_slice_get}
use Rattle.std.specs.Prelude.{◌&&◌, slice_get}
use Rattle.objects.specs.semantics.Program.{Method}
use Rattle.objects.specs.typing.Typing.{Types, IsTyping, types_at, first_types}
use Rattle.verifier.specs.Check.{keeps_from, keeps_at}
use Rattle.verifier.proofs.Checks.{passes, typing_passes, from_step, from_end}
use Rattle.verifier.proofs.checking.check.Goals as goal

-- the method of the number is the code that is tested
the_code : (ms ns : List Method) (i : ℕ) (x : Method) → ms ≡ ns → x ≡ get_or ms i x → (k : Method) → slice_get ns i ≡ Some k → x ≡ k
the_code ms ns i x e is k g = is ∙ get_or_from_slice_get ms i k x (subst (λ (y : List Method). slice_get y i ≡ Some k) (sym e) g)

pub returns-then-not-branch-2 : goal.returns-then-not-branch-2
returns-then-not-branch-2 c = λ k g.
    let P = c.args.program.now in
    let T = c.args.typing.now in
    let x = c.index-methods-method.result in
    let code = the_code c.methods.result.now P.methods c.args.method x c.methods.ensures c.index-methods-method.is k g in
    let e = c.entries-entry-items.ensures in
    let el = ap (length) e in
    let f = c.loop-pc-test.true in
    let lt : c.loop-pc.pc < length T = omega arith in
    let d = c.entry-item.is in
    let o : c.entry-item.result ≡ get_or T c.loop-pc.pc c.entry-item.result = subst (λ (y : List (Option Types)). c.entry-item.result ≡ get_or y c.loop-pc.pc c.entry-item.result) e d in
    let off : keeps_at P x T c.loop-pc.pc c.entry-item.result ≡ false = sym c.in_ok-keeps_at.ensures ∙ c.if-not-branch-2.true in
    let h = c.loop-pc.invariant in
    let s : keeps_from P x T 0 T ≡ false = h ∙ from_step P x T c.loop-pc.pc c.entry-item.result lt o ∙ ap (λ (b : Bool). b && keeps_from P x T (c.loop-pc.pc + 1) (drop (c.loop-pc.pc + 1) T)) off in
    (λ t. absurd (cc t), λ t. let u : IsTyping P x T = subst (λ (y : Method). IsTyping P y T) (sym code) t in sym s ∙ typing_passes P x T u)

pub returns : goal.returns
returns c = λ k g.
    let P = c.args.program.now in
    let T = c.args.typing.now in
    let x = c.index-methods-method.result in
    let code = the_code c.methods.result.now P.methods c.args.method x c.methods.ensures c.index-methods-method.is k g in
    let el = ap (length) c.entries-entry-items.ensures in
    let f = c.loop-pc-test.false in
    let le : length T ≤ c.loop-pc.pc = omega arith in
    let h = c.loop-pc.invariant in
    let s : keeps_from P x T 0 T ≡ true = h ∙ from_end P x T c.loop-pc.pc le in
    let first : types_at T 0 ≡ Some (first_types x) = sym c.in-Some.ensures ∙ ap (λ (y : Types). Some y) (c.in_ok-is_first.ensures.0 c.if-not-branch.false) in
    (λ t. subst (λ (y : Method). IsTyping P y T) code (passes P x T first s), λ t. refl)
