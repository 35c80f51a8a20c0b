use Rattle.std.proofs.Common.{◌≡◌, ℕ, ◌+◌, ◌-◌, get_or, Ok, subst, arith}
use Rattle.std.specs.Prelude.{zip}
use Rattle.std.proofs.lemmas.Result.{err_from_is_err_and}
use Rattle.jmodel.specs.format.Reading.{Fails}
use Rattle.dup_methods.specs.Duplicates.{duplicate_of}
use Rattle.program_typing.specs.Tables.{IsTableOf}
use Rattle.rewriter.specs.Rewritten.{original_of}
use Rattle.rewriter.proofs.Lists.{zipped_at}
use Rattle.rewriter.proofs.Duplicating.{pair_at, method_there, table_there, table_inside, no_more, goes_on, ends, done}
use Rattle.rewriter.proofs.duplicates.duplicate_each.Goals as goal

pub offset_bounds-typed-number : goal.offset_bounds-typed-number
offset_bounds-typed-number c =
    let at = method_there c.args.share.now.methods c.methods-methods.result.now c.loop-i.i c.index-methods-i.result c.methods-methods.ensures c.loop-i-test.true c.index-methods-i.is in
    let inside = table_inside c.args.typed.now.program.now c.args.typed.now.typings.now c.args.share.now.first c.loop-i.i c.first.result c.index-methods-i.result c.requires.ready.tables c.first.ensures
    (c.requires.share.stands c.loop-i.i c.index-methods-i.result at) in
    omega (arith, inside.0, inside.1, c.requires.ready.few)

pub bounds-typed-number : goal.bounds-typed-number
bounds-typed-number c =
    let at = method_there c.args.share.now.methods c.methods-methods.result.now c.loop-i.i c.index-methods-i.result c.methods-methods.ensures c.loop-i-test.true c.index-methods-i.is in
    let inside = table_inside c.args.typed.now.program.now c.args.typed.now.typings.now c.args.share.now.first c.loop-i.i c.first.result c.index-methods-i.result c.requires.ready.tables c.first.ensures
    (c.requires.share.stands c.loop-i.i c.index-methods-i.result at) in
    omega (arith, inside.0, inside.1)

pub duplicate_of-requires : goal.duplicate_of-requires
duplicate_of-requires c =
    let at = method_there c.args.share.now.methods c.methods-methods.result.now c.loop-i.i c.index-methods-i.result c.methods-methods.ensures c.loop-i-test.true c.index-methods-i.is in
    c.requires.ready.little (c.args.share.now.first + c.loop-i.i) c.index-methods-i.result (c.requires.share.stands c.loop-i.i c.index-methods-i.result at)

pub returns-in_err-duplicate_of : goal.returns-in_err-duplicate_of
returns-in_err-duplicate_of c = λ Ts are.
    let item = pair_at c.args.share.now.methods c.methods-methods.result.now c.args.share.now.members c.members-members.result.now c.loop-i.i c.index-methods-i.result c.index-members-i.result c.methods-methods.ensures c.members-members.ensures c.requires.share.members
    c.loop-i-test.true c.index-methods-i.is c.index-members-i.is in
    let at = method_there c.args.share.now.methods c.methods-methods.result.now c.loop-i.i c.index-methods-i.result c.methods-methods.ensures c.loop-i-test.true c.index-methods-i.is in
    let given = zipped_at (IsTableOf c.args.typed.now.program.now) c.args.share.now.methods Ts c.loop-i.i c.index-methods-i.result are at in
    let table = get_or c.args.typed.now.typings.now (c.first.result + c.loop-i.i) c.index-typed-number.result in
    let is_table = table_there c.args.typed.now.program.now c.args.typed.now.typings.now c.args.share.now.first c.loop-i.i c.first.result c.index-methods-i.result c.index-typed-number.result c.requires.ready.tables c.first.ensures
    (c.requires.share.stands c.loop-i.i c.index-methods-i.result at) c.index-typed-number.is in
    let left : c.saturating_sub-left.result ≡ c.args.room - c.loop-i.i = omega (arith, c.saturating_sub-left.ensures) in
    let fails = subst (λ (r : ℕ). Fails c.in_err-duplicate_of.field-0.0 (duplicate_of r (original_of c.args.typed.now.program.now c.args.class.now (c.index-methods-i.result, c.index-members-i.result.now) table) c.loop-i.pool)) left c.in_err-duplicate_of.ensures in
    let p = err_from_is_err_and c.from_residual.result c.from_residual.ensures.1 in
    rw (p.1, p.2) (ends c.args.typed.now.program.now c.args.class.now c.requires.ready.types c.args.room (zip c.args.share.now.methods c.args.share.now.members) Ts c.args.pool.now c.loop-i.i c.loop-i.copies.items c.loop-i.pool (c.loop-i.invariant Ts are)
    (c.index-methods-i.result, c.index-members-i.result.now) item table is_table given c.in_err-duplicate_of.field-0.0 fails)

pub loop-i-preserved : goal.loop-i-preserved
loop-i-preserved c = λ Ts are.
    let item = pair_at c.args.share.now.methods c.methods-methods.result.now c.args.share.now.members c.members-members.result.now c.loop-i.i c.index-methods-i.result c.index-members-i.result c.methods-methods.ensures c.members-members.ensures c.requires.share.members
    c.loop-i-test.true c.index-methods-i.is c.index-members-i.is in
    let at = method_there c.args.share.now.methods c.methods-methods.result.now c.loop-i.i c.index-methods-i.result c.methods-methods.ensures c.loop-i-test.true c.index-methods-i.is in
    let given = zipped_at (IsTableOf c.args.typed.now.program.now) c.args.share.now.methods Ts c.loop-i.i c.index-methods-i.result are at in
    let table = get_or c.args.typed.now.typings.now (c.first.result + c.loop-i.i) c.index-typed-number.result in
    let is_table = table_there c.args.typed.now.program.now c.args.typed.now.typings.now c.args.share.now.first c.loop-i.i c.first.result c.index-methods-i.result c.index-typed-number.result c.requires.ready.tables c.first.ensures
    (c.requires.share.stands c.loop-i.i c.index-methods-i.result at) c.index-typed-number.is in
    let left : c.saturating_sub-left.result ≡ c.args.room - c.loop-i.i = omega (arith, c.saturating_sub-left.ensures) in
    let gives = subst (λ (r : ℕ). duplicate_of r (original_of c.args.typed.now.program.now c.args.class.now (c.index-methods-i.result, c.index-members-i.result.now) table) c.loop-i.pool ≡ Ok (c.in_ok-duplicate_of.field-0, c.duplicate_of.new.pool)) left c.in_ok-duplicate_of.ensures in
    let step = goes_on c.args.typed.now.program.now c.args.class.now c.requires.ready.types c.args.room (zip c.args.share.now.methods c.args.share.now.members) Ts c.args.pool.now c.loop-i.i c.loop-i.copies.items c.loop-i.pool (c.loop-i.invariant Ts are)
    (c.index-methods-i.result, c.index-members-i.result.now) item table is_table given c.in_ok-duplicate_of.field-0 c.duplicate_of.new.pool gives in
    rw c.in_ok-push.ensures.items step

pub returns : goal.returns
returns c = λ Ts are.
    let none = no_more c.args.share.now.methods c.methods-methods.result.now c.args.share.now.members c.loop-i.i c.methods-methods.ensures c.loop-i-test.false in
    done c.args.typed.now.program.now c.args.class.now c.requires.ready.types c.args.room (zip c.args.share.now.methods c.args.share.now.members) Ts c.args.pool.now c.loop-i.i c.loop-i.copies.items c.loop-i.pool (c.loop-i.invariant Ts are) none
