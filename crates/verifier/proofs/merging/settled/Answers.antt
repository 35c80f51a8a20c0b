use Rattle.std.proofs.Common.{◌≡◌, IfOk, true, sym, subst}
use Rattle.verifier.specs.Order.{are_within}
use Rattle.verifier.proofs.Settled.{settled_is}
use Rattle.verifier.proofs.merging.settled.Goals as goal

pub returns-then-is_settled : goal.returns-then-is_settled
returns-then-is_settled c =
    let P = c.args.program.now in
    let h = c.args.entry.now in
    let l = subst (λ ts. are_within P ts ts ≡ true) c.locals.ensures (c.are_settled.ensures c.if-are_settled.true) in
    let s = subst (λ ts. are_within P ts ts ≡ true) c.stack.ensures (c.is_settled.ensures c.if-is_settled.true) in
    subst (λ v. IfOk c.share.result (λ h. h ≡ v)) (sym (settled_is P c.requires.types h l s)) c.share.ensures
