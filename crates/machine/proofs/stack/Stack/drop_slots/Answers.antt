use Rattle.std.proofs.Common.{◌≡◌, suc, sym, ◌∙◌, arith, ◌-◌, refl}
use Rattle.std.proofs.lemmas.Result.{err_from_is_err_and}
use Rattle.objects.specs.semantics.Step.{without, Wrong}
use Rattle.machine.proofs.stack.Stack.drop_slots.Goals as goal

pub loop-preserved : goal.loop-preserved
loop-preserved c = λ n e k.
    let h : without (suc n) c.loop.self k ≡ without c.args.count c.args.self.now k = c.loop.invariant (suc n) (omega arith) k in
    rw c.in_ok-take.ensures.take at h

pub returns : goal.returns
returns c = λ k. sym (c.loop.invariant 0 (omega arith) k)

pub returns-in_err-take : goal.returns-in_err-take
returns-in_err-take c =
    let p = err_from_is_err_and c.from_residual.result c.from_residual.ensures.1 in
    rw (p.1, p.2) (
      c.in_err-take.ensures.take.0,
      λ k.
          let h : without (suc (c.args.count - c.loop.counter - 1)) c.loop.self k ≡ without c.args.count c.args.self.now k = c.loop.invariant (suc (c.args.count - c.loop.counter - 1)) (omega arith) k in
          let z : without (suc (c.args.count - c.loop.counter - 1)) c.loop.self k ≡ Wrong = rw c.in_err-take.ensures.none refl in
          sym h ∙ z,
    )
