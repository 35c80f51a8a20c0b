use Rattle.std.proofs.Common.{◌≡◌, ◌+◌, ◌++◌, ◌∷◌, [], List, Bool, Ok, map, Bor, sym, ap, ◌∙◌, subst}
use Rattle.std.specs.List.{AllZip}
use Rattle.std.proofs.lemmas.Result.{err_from_is_err_and}
use Rattle.jmodel.specs.format.ClassFile.{ClassFile}
use Rattle.jmodel.specs.format.Reading.{Fails}
use Rattle.objects.specs.linking.Members.{own_name}
use Rattle.objects.specs.typing.Typing.{Table}
use Rattle.program_typing.specs.Tables.{IsTableOf}
use Rattle.rewriter.specs.Asked.{IsShare}
use Rattle.rewriter.specs.Part.{Share, Rest}
use Rattle.rewriter.specs.Rewritten.{rewritten_share}
use Rattle.rewriter.specs.RewrittenClasses.{of_class}
use Rattle.rewriter.proofs.Codes.{ready}
use Rattle.rewriter.proofs.Lists.{seen_item}
use Rattle.rewriter.proofs.Shares.{IsUnderWay, starts, part, behind, stands, has_next, is_share, here, next_typed, goes_on, fails}
use Rattle.rewriter.proofs.classes.rewrite_each.Goals as goal

abbrev seen : List (Bor ClassFile) → List ClassFile
seen cs = map (λ (c : Bor ClassFile). c.now) cs

pub loop-class-init : goal.loop-class-init
loop-class-init c =
    let all = c.all-rest.ensures ∙ ap (λ (bs : List Bool). record { flags = bs; fields = c.args.typed.now.program.now.fields; methods = c.args.typed.now.program.now.methods; first = 0; wrapper = 0 }) c.requires.told in
    subst (IsUnderWay (seen c.args.classes.now) c.args.typed.now.program.now 0 c.all-rest.result) (sym c.new-rewritten.ensures.items) (starts (seen c.args.classes.now) c.args.typed.now.program.now c.requires.read c.requires.links c.all-rest.result all)

pub split-requires-clause-next : goal.split-requires-clause-next
split-requires-clause-next c =
    let item = seen_item c.args.classes.now c.loop-class.class-index c.class-item.result c.loop-class-test.true c.class-item.is in
    has_next (seen c.args.classes.now) c.args.typed.now.program.now c.requires.read c.requires.links c.loop-class.class-index c.class-item.result.now item c.loop-class.rest c.loop-class.rewritten.items c.loop-class.invariant

pub rewrite_class-requires-clause-ready : goal.rewrite_class-requires-clause-ready
rewrite_class-requires-clause-ready c = ready (seen c.args.classes.now) c.args.typed.now.program.now c.args.typed.now.typings.now c.requires.read c.requires.filed c.requires.links c.requires.tables

pub rewrite_class-requires-clause-share : goal.rewrite_class-requires-clause-share
rewrite_class-requires-clause-share c =
    let cs = seen c.args.classes.now in
    let item = seen_item c.args.classes.now c.loop-class.class-index c.class-item.result c.loop-class-test.true c.class-item.is in
    let told = c.in_ok-share.ensures (part (seen c.args.classes.now) c.args.typed.now.program.now c.requires.read c.requires.links c.loop-class.class-index c.class-item.result.now item c.loop-class.rest c.loop-class.rewritten.items c.loop-class.invariant)
    (behind (seen c.args.classes.now) c.args.typed.now.program.now c.requires.read c.requires.links c.loop-class.class-index c.class-item.result.now item c.loop-class.rest c.loop-class.rewritten.items c.loop-class.invariant)
    (stands (seen c.args.classes.now) c.args.typed.now.program.now c.requires.read c.requires.links c.loop-class.class-index c.class-item.result.now item c.loop-class.rest c.loop-class.rewritten.items c.loop-class.invariant) in
    subst (IsShare c.args.typed.now.program.now c.class-item.result.now) (sym told.0)
    (is_share (seen c.args.classes.now) c.args.typed.now.program.now c.requires.read c.requires.links c.loop-class.class-index c.class-item.result.now item c.loop-class.rest c.loop-class.rewritten.items c.loop-class.invariant)

pub returns-in_err-rewrite_class : goal.returns-in_err-rewrite_class
returns-in_err-rewrite_class c = λ Ts are.
    let item = seen_item c.args.classes.now c.loop-class.class-index c.class-item.result c.loop-class-test.true c.class-item.is in
    let told = c.in_ok-share.ensures (part (seen c.args.classes.now) c.args.typed.now.program.now c.requires.read c.requires.links c.loop-class.class-index c.class-item.result.now item c.loop-class.rest c.loop-class.rewritten.items c.loop-class.invariant)
    (behind (seen c.args.classes.now) c.args.typed.now.program.now c.requires.read c.requires.links c.loop-class.class-index c.class-item.result.now item c.loop-class.rest c.loop-class.rewritten.items c.loop-class.invariant)
    (stands (seen c.args.classes.now) c.args.typed.now.program.now c.requires.read c.requires.links c.loop-class.class-index c.class-item.result.now item c.loop-class.rest c.loop-class.rewritten.items c.loop-class.invariant) in
    let p = err_from_is_err_and c.from_residual-in_err-rewrite_class.result c.from_residual-in_err-rewrite_class.ensures.1 in
    let failed = subst (λ (s : Share). (Us : List Table) → AllZip (IsTableOf c.args.typed.now.program.now) s.methods Us → Fails c.in_err-rewrite_class.field-0.0 (of_class (own_name c.class-item.result.now) (rewritten_share c.args.typed.now.program.now c.class-item.result.now s Us))) told.0 c.in_err-rewrite_class.ensures in
    rw (p.1, p.2) (fails (seen c.args.classes.now) c.args.typed.now.program.now c.requires.read c.requires.links c.loop-class.class-index c.class-item.result.now item c.loop-class.rest c.loop-class.rewritten.items c.loop-class.invariant Ts are c.in_err-rewrite_class.field-0.0
    (failed (here (seen c.args.classes.now) c.args.typed.now.program.now c.requires.read c.requires.links c.loop-class.class-index c.class-item.result.now item c.loop-class.rest c.loop-class.rewritten.items c.loop-class.invariant Ts are)
    (next_typed (seen c.args.classes.now) c.args.typed.now.program.now c.requires.read c.requires.links c.loop-class.class-index c.class-item.result.now item c.loop-class.rest c.loop-class.rewritten.items c.loop-class.invariant Ts are)))

pub loop-class-preserved : goal.loop-class-preserved
loop-class-preserved c =
    let item = seen_item c.args.classes.now c.loop-class.class-index c.class-item.result c.loop-class-test.true c.class-item.is in
    let told = c.in_ok-share.ensures (part (seen c.args.classes.now) c.args.typed.now.program.now c.requires.read c.requires.links c.loop-class.class-index c.class-item.result.now item c.loop-class.rest c.loop-class.rewritten.items c.loop-class.invariant)
    (behind (seen c.args.classes.now) c.args.typed.now.program.now c.requires.read c.requires.links c.loop-class.class-index c.class-item.result.now item c.loop-class.rest c.loop-class.rewritten.items c.loop-class.invariant)
    (stands (seen c.args.classes.now) c.args.typed.now.program.now c.requires.read c.requires.links c.loop-class.class-index c.class-item.result.now item c.loop-class.rest c.loop-class.rewritten.items c.loop-class.invariant) in
    let gives = subst (λ (s : Share). (Us : List Table) → AllZip (IsTableOf c.args.typed.now.program.now) s.methods Us → of_class (own_name c.class-item.result.now) (rewritten_share c.args.typed.now.program.now c.class-item.result.now s Us) ≡ Ok c.in_ok-rewrite_class.field-0) told.0 c.in_ok-rewrite_class.ensures in
    let step = goes_on (seen c.args.classes.now) c.args.typed.now.program.now c.requires.read c.requires.links c.loop-class.class-index c.class-item.result.now item c.loop-class.rest c.loop-class.rewritten.items c.loop-class.invariant c.in_ok-rewrite_class.field-0
    (λ Ts are. gives (here (seen c.args.classes.now) c.args.typed.now.program.now c.requires.read c.requires.links c.loop-class.class-index c.class-item.result.now item c.loop-class.rest c.loop-class.rewritten.items c.loop-class.invariant Ts are)
    (next_typed (seen c.args.classes.now) c.args.typed.now.program.now c.requires.read c.requires.links c.loop-class.class-index c.class-item.result.now item c.loop-class.rest c.loop-class.rewritten.items c.loop-class.invariant Ts are)) in
    let left = subst (λ (r : Rest). IsUnderWay (seen c.args.classes.now) c.args.typed.now.program.now (c.loop-class.class-index + 1) r (c.loop-class.rewritten.items ++ c.in_ok-rewrite_class.field-0 ∷ [])) (sym told.1) step in
    subst (IsUnderWay (seen c.args.classes.now) c.args.typed.now.program.now (c.loop-class.class-index + 1) c.in_ok-share.behind) (sym c.in_ok-push.ensures.items) left
