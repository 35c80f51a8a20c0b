use Rattle.std.proofs.Common.{◌≡◌, rules, w32}
use mir.Val.{SFits}
use Rattle.std.proofs.lemmas.Int.{to_z-of_z}
use Rattle.std.proofs.lemmas.Result.{err_from_is_err_and}
use Rattle.objects.specs.declared.op.Width.TheVariants as width
use Rattle.machine.proofs.frame.Frame.plain.Goals as goal

pub returns-in-Constant-clause-does : goal.returns-in-Constant-clause-does
returns-in-Constant-clause-does c = λ P. rw c.in-Constant.is (c.constant.ensures.does P)

pub returns-in_ok-flow-in-Increment-clause-does : goal.returns-in_ok-flow-in-Increment-clause-does
returns-in_ok-flow-in-Increment-clause-does c =
    let f : SFits w32 c.in-Increment.n = search rules in
    λ P. rw c.in-Increment.is (simp to_z-of_z at (c.in_ok-flow-in-Increment.ensures.does P))

pub returns-in_err-flow-in-Increment-clause-does : goal.returns-in_err-flow-in-Increment-clause-does
returns-in_err-flow-in-Increment-clause-does c =
    let f : SFits w32 c.in-Increment.n = search rules in
    let p = err_from_is_err_and c.from_residual-in_err-flow-in-Increment.result c.from_residual-in_err-flow-in-Increment.ensures.1 in
    λ P. rw (p.1, p.2, c.in-Increment.is) (simp to_z-of_z at (c.in_err-flow-in-Increment.ensures.does P))

pub returns-in_ok-flow-in-Branch-clause-does : goal.returns-in_ok-flow-in-Branch-clause-does
returns-in_ok-flow-in-Branch-clause-does c = λ P. rw c.in-Branch.is (c.in_ok-flow-in-Branch.ensures.does P)

pub returns-in_err-flow-in-Branch-clause-does : goal.returns-in_err-flow-in-Branch-clause-does
returns-in_err-flow-in-Branch-clause-does c =
    let p = err_from_is_err_and c.from_residual-in_err-flow-in-Branch.result c.from_residual-in_err-flow-in-Branch.ensures.1 in
    λ P. rw (p.1, p.2, c.in-Branch.is) (c.in_err-flow-in-Branch.ensures.does P)

pub returns-in_ok-flow-in-BranchInts-clause-does : goal.returns-in_ok-flow-in-BranchInts-clause-does
returns-in_ok-flow-in-BranchInts-clause-does c = λ P. rw c.in-BranchInts.is (c.in_ok-flow-in-BranchInts.ensures.does P)

pub returns-in_err-flow-in-BranchInts-clause-does : goal.returns-in_err-flow-in-BranchInts-clause-does
returns-in_err-flow-in-BranchInts-clause-does c =
    let p = err_from_is_err_and c.from_residual-in_err-flow-in-BranchInts.result c.from_residual-in_err-flow-in-BranchInts.ensures.1 in
    λ P. rw (p.1, p.2, c.in-BranchInts.is) (c.in_err-flow-in-BranchInts.ensures.does P)

pub returns-in_ok-flow-in-BranchNull-clause-does : goal.returns-in_ok-flow-in-BranchNull-clause-does
returns-in_ok-flow-in-BranchNull-clause-does c = λ P. rw c.in-BranchNull.is (c.in_ok-flow-in-BranchNull.ensures.does P)

pub returns-in_err-flow-in-BranchNull-clause-does : goal.returns-in_err-flow-in-BranchNull-clause-does
returns-in_err-flow-in-BranchNull-clause-does c =
    let p = err_from_is_err_and c.from_residual-in_err-flow-in-BranchNull.result c.from_residual-in_err-flow-in-BranchNull.ensures.1 in
    λ P. rw (p.1, p.2, c.in-BranchNull.is) (c.in_err-flow-in-BranchNull.ensures.does P)

pub returns-in_ok-flow-in-BranchReferences-clause-does : goal.returns-in_ok-flow-in-BranchReferences-clause-does
returns-in_ok-flow-in-BranchReferences-clause-does c = λ P. rw c.in-BranchReferences.is (c.in_ok-flow-in-BranchReferences.ensures.does P)

pub returns-in_err-flow-in-BranchReferences-clause-does : goal.returns-in_err-flow-in-BranchReferences-clause-does
returns-in_err-flow-in-BranchReferences-clause-does c =
    let p = err_from_is_err_and c.from_residual-in_err-flow-in-BranchReferences.result c.from_residual-in_err-flow-in-BranchReferences.ensures.1 in
    λ P. rw (p.1, p.2, c.in-BranchReferences.is) (c.in_err-flow-in-BranchReferences.ensures.does P)

pub returns-in_ok-flow-in-Switch-clause-does : goal.returns-in_ok-flow-in-Switch-clause-does
returns-in_ok-flow-in-Switch-clause-does c = λ P. rw c.in-Switch.is (c.in_ok-flow-in-Switch.ensures.does P)

pub returns-in_err-flow-in-Switch-clause-does : goal.returns-in_err-flow-in-Switch-clause-does
returns-in_err-flow-in-Switch-clause-does c =
    let p = err_from_is_err_and c.from_residual-in_err-flow-in-Switch.result c.from_residual-in_err-flow-in-Switch.ensures.1 in
    λ P. rw (p.1, p.2, c.in-Switch.is) (c.in_err-flow-in-Switch.ensures.does P)

pub returns-in-Binary-Int-default-clause-does : goal.returns-in-Binary-Int-default-clause-does
returns-in-Binary-Int-default-clause-does c = λ P.
    let of : c.in-Binary-Int-default.field-0 ≡ width.Int = rw c.in-Binary-Int-default.is at c.in-Binary-Int-default.field-0-is in
    rw (c.in-Binary-Int-default.is, of) (c.add_ints.ensures.does P)

pub returns-in-Divide-Int-default-clause-does : goal.returns-in-Divide-Int-default-clause-does
returns-in-Divide-Int-default-clause-does c = λ P.
    let of : c.in-Divide-Int-default.field-0 ≡ width.Int = rw c.in-Divide-Int-default.is at c.in-Divide-Int-default.field-0-is in
    rw (c.in-Divide-Int-default.is, of) (c.divide_ints.ensures.does P)
