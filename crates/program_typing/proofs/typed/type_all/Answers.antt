use Rattle.std.proofs.Common.{◌<◌, length, subst, ap, arith}
use Rattle.program_typing.specs.Typed.{EndsTable, IsUntyped, AreTyped}
use Rattle.program_typing.proofs.Firsts.{untyped, next_typed, all_early}
use Rattle.program_typing.proofs.typed.type_all.Goals as goal

pub returns-in-Err-Untypable-clause-cause : goal.returns-in-Err-Untypable-clause-cause
returns-in-Err-Untypable-clause-cause c =
    let P = c.args.program.now in
    let n = c.loop-method.method in
    let lt : n < length P.methods = rw c.methods-method-end.ensures at c.loop-method-test.true in
    let none : IsUntyped P n c.in-Err-Untypable.place = subst (EndsTable P n) c.in-Err-Untypable.field-0-is c.in-Err-Untypable.ensures.cause in
    rw c.in-Err-Untypable.place-is (untyped P n c.loop-method.typings.items c.loop-method.first_early c.loop-method.invariant c.in-Err-Untypable.place lt none)

pub loop-method-preserved : goal.loop-method-preserved
loop-method-preserved c =
    let P = c.args.program.now in
    let n = c.loop-method.method in
    let lt : n < length P.methods = rw c.methods-method-end.ensures at c.loop-method-test.true in
    let next = next_typed P n c.loop-method.typings.items c.loop-method.first_early c.loop-method.invariant c.in-Ok.typing c.early_at.result c.or-first_early.result lt c.in-Ok.ensures.table c.early_at.ensures c.or-first_early.ensures in
    rw c.in_ok-push.ensures.items next

pub returns-in-Some-clause-cause : goal.returns-in-Some-clause-cause
returns-in-Some-clause-cause c =
    let P = c.args.program.now in
    let n = c.loop-method.method in
    let many = ap (length) c.methods-method-end.ensures in
    let most = c.loop-method.auto.method-end in
    let all = c.loop-method-test.false in
    all_early P n c.loop-method.typings.items (c.in-Some.method, c.in-Some.place) (omega (arith, many, most, all)) (subst (AreTyped P n c.loop-method.typings.items) c.in-Some.is c.loop-method.invariant)
