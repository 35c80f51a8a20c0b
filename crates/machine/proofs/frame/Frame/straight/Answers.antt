use Rattle.std.proofs.Common.{◌≡◌, ℤ, w32, arith, rules, subst, Ok, Err, ◌∙◌}
use mir.Val.{SFits}
use Rattle.std.proofs.lemmas.Int.{to_z-of_z}
use Rattle.std.proofs.lemmas.Result.{err_from_is_err_and}
use Rattle.machine.specs.declared.plain.Flow.TheVariants as flow
use Rattle.machine.specs.Meets.{HasOps, with_int}
use Rattle.machine.specs.Running.{Reaches, IsStraight}
use Rattle.machine.proofs.Going.{reaches_next, reaches_held, reaches_trans, straight_ends, straight_behind}
use Rattle.machine.proofs.frame.Frame.straight.Goals as goal

pub loop-self-preserved-in-Flow-Next : goal.loop-self-preserved-in-Flow-Next
loop-self-preserved-in-Flow-Next c = record {
  method = rw c.advance.ensures (c.in_ok-plain_in.ensures.place.0 ∙ c.loop-self.invariant.method);
  within = rw (c.advance.ensures, c.in_ok-plain_in.ensures.place.1) (let h = rw (c.in-Flow-Next.is, c.in-Flow-Next.field-0-is) at c.in_ok-plain_in.ensures.inside in omega arith);
  reaches = λ P k.
      let here : HasOps P c.loop-self.self.method c.args.ops.now = rw c.loop-self.invariant.method k in
      let next : c.in-Flow-Next.field-0 ≡ flow.Next = c.in-Flow-Next.field-0-is in
      reaches_next P c.args.self.now c.loop-self.self c.plain_in.new.self c.advance.new.self (c.loop-self.invariant.reaches P k)
      (λ fs. rw next at (rw c.in-Flow-Next.is at (c.in_ok-plain_in.ensures.does P fs here))) c.advance.ensures;
}

pub returns-in-Flow-clause-run : goal.returns-in-Flow-clause-run
returns-in-Flow-clause-run c = λ P k.
    let here : HasOps P c.loop-self.self.method c.args.ops.now = rw c.loop-self.invariant.method k in
    straight_ends P c.args.self.now c.loop-self.self c.plain_in.new.self (Ok c.in-Flow.flow) (c.loop-self.invariant.reaches P k)
    (λ fs. rw c.in-Flow.is at (c.in_ok-plain_in.ensures.does P fs here))

pub returns-in-Flow-clause-method : goal.returns-in-Flow-clause-method
returns-in-Flow-clause-method c = c.in_ok-plain_in.ensures.place.0 ∙ c.loop-self.invariant.method

pub returns-in-Flow-clause-within : goal.returns-in-Flow-clause-within
returns-in-Flow-clause-within c = rw c.in_ok-plain_in.ensures.place.1 c.loop-self.invariant.within

pub returns-in_err-flow-in-Int-clause-run : goal.returns-in_err-flow-in-Int-clause-run
returns-in_err-flow-in-Int-clause-run c = λ P k.
    let p = err_from_is_err_and c.from_residual-in_err-flow-in-Int.result c.from_residual-in_err-flow-in-Int.ensures.1 in
    let here : HasOps P c.loop-self.self.method c.args.ops.now = rw c.loop-self.invariant.method k in
    let held : Reaches P c.args.self.now (with_int c.in-Int.x c.advance-in-Int.new.self) =
    reaches_held P c.args.self.now c.loop-self.self c.plain_in.new.self c.in-Int.x c.advance-in-Int.new.self (c.loop-self.invariant.reaches P k)
    (λ fs. rw c.in-Int.is at (c.in_ok-plain_in.ensures.does P fs here)) c.advance-in-Int.ensures in
    let fits : SFits w32 c.in-Int.x = search rules in
    let there : HasOps P c.advance-in-Int.new.self.method c.args.ops.now = rw (c.advance-in-Int.ensures, c.in_ok-plain_in.ensures.place.0) here in
    let run = subst (λ (z : ℤ). IsStraight P (with_int z c.advance-in-Int.new.self) c.straight_over.new.self (Err c.in_err-flow-in-Int.field-0.0))
    (to_z-of_z w32 c.in-Int.x fits) (c.in_err-flow-in-Int.ensures.run P there) in
    rw (p.1, p.2) (straight_behind P c.args.self.now (with_int c.in-Int.x c.advance-in-Int.new.self) c.straight_over.new.self held (Err c.in_err-flow-in-Int.field-0.0) run)

pub returns-in_default-clause-run : goal.returns-in_default-clause-run
returns-in_default-clause-run c = λ P k.
    let here : HasOps P c.loop-self.self.method c.args.ops.now = rw c.loop-self.invariant.method k in
    let held : Reaches P c.args.self.now (with_int c.in-Int.x c.advance-in-Int.new.self) =
    reaches_held P c.args.self.now c.loop-self.self c.plain_in.new.self c.in-Int.x c.advance-in-Int.new.self (c.loop-self.invariant.reaches P k)
    (λ fs. rw c.in-Int.is at (c.in_ok-plain_in.ensures.does P fs here)) c.advance-in-Int.ensures in
    let fits : SFits w32 c.in-Int.x = search rules in
    let there : HasOps P c.advance-in-Int.new.self.method c.args.ops.now = rw (c.advance-in-Int.ensures, c.in_ok-plain_in.ensures.place.0) here in
    let run = subst (λ (z : ℤ). IsStraight P (with_int z c.advance-in-Int.new.self) c.straight_over.new.self (Ok c.in_ok-flow-in-Int.flow))
    (to_z-of_z w32 c.in-Int.x fits) (c.in_ok-flow-in-Int.ensures.run P there) in
    straight_behind P c.args.self.now (with_int c.in-Int.x c.advance-in-Int.new.self) c.straight_over.new.self held (Ok c.in_ok-flow-in-Int.flow) run

pub returns-in_default-clause-method : goal.returns-in_default-clause-method
returns-in_default-clause-method c = c.in_ok-flow-in-Int.ensures.method ∙ rw c.advance-in-Int.ensures (c.in_ok-plain_in.ensures.place.0 ∙ c.loop-self.invariant.method)

pub returns-in_default-clause-within : goal.returns-in_default-clause-within
returns-in_default-clause-within c = c.in_ok-flow-in-Int.ensures.within

pub loop-self-preserved : goal.loop-self-preserved
loop-self-preserved c = record {
  method = c.in_ok-flow-in-Int.ensures.method ∙ rw c.advance-in-Int.ensures (c.in_ok-plain_in.ensures.place.0 ∙ c.loop-self.invariant.method);
  within = c.in_ok-flow-in-Int.ensures.within;
  reaches = λ P k.
      let here : HasOps P c.loop-self.self.method c.args.ops.now = rw c.loop-self.invariant.method k in
      let held : Reaches P c.args.self.now (with_int c.in-Int.x c.advance-in-Int.new.self) =
      reaches_held P c.args.self.now c.loop-self.self c.plain_in.new.self c.in-Int.x c.advance-in-Int.new.self (c.loop-self.invariant.reaches P k)
      (λ fs. rw c.in-Int.is at (c.in_ok-plain_in.ensures.does P fs here)) c.advance-in-Int.ensures in
      let fits : SFits w32 c.in-Int.x = search rules in
      let there : HasOps P c.advance-in-Int.new.self.method c.args.ops.now = rw (c.advance-in-Int.ensures, c.in_ok-plain_in.ensures.place.0) here in
      let run = subst (λ (z : ℤ). IsStraight P (with_int z c.advance-in-Int.new.self) c.straight_over.new.self (Ok flow.Other))
      (to_z-of_z w32 c.in-Int.x fits) (rw c.in-Other.is at (c.in_ok-flow-in-Int.ensures.run P there)) in
      reaches_trans P c.args.self.now (with_int c.in-Int.x c.advance-in-Int.new.self) c.straight_over.new.self held run;
}

pub loop-self-preserved-in-Next : goal.loop-self-preserved-in-Next
loop-self-preserved-in-Next c = record {
  method = rw c.advance-in-Next.ensures (c.in_ok-flow-in-Int.ensures.method ∙ rw c.advance-in-Int.ensures (c.in_ok-plain_in.ensures.place.0 ∙ c.loop-self.invariant.method));
  within = rw c.advance-in-Next.ensures (let h = rw c.in-Next.is at c.in_ok-flow-in-Int.ensures.inside in omega arith);
  reaches = λ P k.
      let here : HasOps P c.loop-self.self.method c.args.ops.now = rw c.loop-self.invariant.method k in
      let held : Reaches P c.args.self.now (with_int c.in-Int.x c.advance-in-Int.new.self) =
      reaches_held P c.args.self.now c.loop-self.self c.plain_in.new.self c.in-Int.x c.advance-in-Int.new.self (c.loop-self.invariant.reaches P k)
      (λ fs. rw c.in-Int.is at (c.in_ok-plain_in.ensures.does P fs here)) c.advance-in-Int.ensures in
      let fits : SFits w32 c.in-Int.x = search rules in
      let there : HasOps P c.advance-in-Int.new.self.method c.args.ops.now = rw (c.advance-in-Int.ensures, c.in_ok-plain_in.ensures.place.0) here in
      let run = subst (λ (z : ℤ). IsStraight P (with_int z c.advance-in-Int.new.self) c.straight_over.new.self (Ok flow.Next))
      (to_z-of_z w32 c.in-Int.x fits) (rw c.in-Next.is at (c.in_ok-flow-in-Int.ensures.run P there)) in
      reaches_next P c.args.self.now run.frame c.straight_over.new.self c.advance-in-Next.new.self
      (reaches_trans P c.args.self.now (with_int c.in-Int.x c.advance-in-Int.new.self) run.frame held run.reaches) run.does c.advance-in-Next.ensures;
}
