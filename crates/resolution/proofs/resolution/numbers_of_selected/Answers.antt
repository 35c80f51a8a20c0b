use Rattle.std.proofs.Common.{ℕ, List, subst}
use Rattle.std.proofs.lemmas.List.{take_all}
use Rattle.jmodel.specs.format.ClassFile.{Member}
use Rattle.resolution.specs.Resolving.{HasFirst, may_run}
use Rattle.resolution.proofs.Resolved.{first_more}
use Rattle.resolution.proofs.resolution.numbers_of_selected.Goals as goal

pub loop-number-preserved : goal.loop-number-preserved
loop-number-preserved c =
    let pool = c.args.pool.now in
    let i : ℕ = c.loop-number.number in
    let m = c.index-methods-number.result in
    first_more may_run pool c.args.methods.now i m c.loop-number.numbers c.note_selected.new.numbers c.loop-number-test.true c.index-methods-number.is c.loop-number.invariant
    c.in_ok-note_selected.ensures

pub returns : goal.returns
returns c = subst (λ (l : List Member). HasFirst may_run c.args.pool.now l c.loop-number.numbers) (take_all c.loop-number.number c.args.methods.now c.loop-number-test.false) c.loop-number.invariant
