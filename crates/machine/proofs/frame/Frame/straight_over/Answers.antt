use Rattle.std.proofs.Common.{◌≡◌, ℤ, w32, to_z, of_z, arith, rules, sym, subst, refl, Ok, Err, ◌∙◌}
use mir.Val.{SFits}
use Rattle.std.proofs.lemmas.Int.{to_z-of_z}
use Rattle.std.proofs.lemmas.Result.{err_from_is_err_and}
use Rattle.machine.specs.Meets.{HasOps, with_int}
use Rattle.machine.specs.Running.{Reaches, IsStraight}
use Rattle.machine.proofs.Going.{reaches_held, reaches_next, reaches_trans, straight_behind, straight_ends}
use Rattle.machine.proofs.frame.Frame.straight_over.Goals as goal

pub returns-in_err-x-clause-run : goal.returns-in_err-x-clause-run
returns-in_err-x-clause-run c = λ P k.
    let p = err_from_is_err_and c.from_residual.result c.from_residual.ensures.1 in
    let here : HasOps P c.loop-x.self.method c.args.ops.now = rw c.loop-x.invariant.method k in
    let top = to_z w32 c.loop-x.top-bits in
    let reached = subst (λ (z : ℤ). Reaches P (with_int z c.args.self.now) (with_int top c.loop-x.self)) (to_z-of_z w32 c.args.held c.ranges.held) (c.loop-x.invariant.reaches P k) in
    rw (p.1, p.2) (straight_ends P (with_int c.args.held c.args.self.now) (with_int top c.loop-x.self) c.plain_over_in.new.self (Err c.in_err-x.field-0.0) reached
    (λ fs. c.in_err-x.ensures.does P fs here))

pub returns-in-Flow-clause-run : goal.returns-in-Flow-clause-run
returns-in-Flow-clause-run c = λ P k.
    let here : HasOps P c.loop-x.self.method c.args.ops.now = rw c.loop-x.invariant.method k in
    let top = to_z w32 c.loop-x.top-bits in
    let reached = subst (λ (z : ℤ). Reaches P (with_int z c.args.self.now) (with_int top c.loop-x.self)) (to_z-of_z w32 c.args.held c.ranges.held) (c.loop-x.invariant.reaches P k) in
    straight_ends P (with_int c.args.held c.args.self.now) (with_int top c.loop-x.self) c.plain_over_in.new.self (Ok c.in-Flow.flow) reached
    (λ fs. rw c.in-Flow.is at (c.in_ok-x.ensures.does P fs here))

pub loop-x-preserved-in-Int : goal.loop-x-preserved-in-Int
loop-x-preserved-in-Int c = record {
  method = rw c.advance.ensures (c.in_ok-x.ensures.place.0 ∙ c.loop-x.invariant.method);
  onward = rw (c.advance.ensures, c.in_ok-x.ensures.place.1) (omega arith);
  within = rw (c.advance.ensures, c.in_ok-x.ensures.place.1) (let h = rw c.in-Int.is at c.in_ok-x.ensures.inside in omega arith);
  reaches = λ P k.
      let here : HasOps P c.loop-x.self.method c.args.ops.now = rw c.loop-x.invariant.method k in
      let start = with_int (to_z w32 (of_z w32 c.args.held)) c.args.self.now in
      let fits : SFits w32 c.in-Int.x = search rules in
      subst (λ (z : ℤ). Reaches P start (with_int z c.advance.new.self)) (sym (to_z-of_z w32 c.in-Int.x fits))
      (reaches_held P start (with_int (to_z w32 c.loop-x.top-bits) c.loop-x.self) c.plain_over_in.new.self c.in-Int.x c.advance.new.self
      (c.loop-x.invariant.reaches P k) (λ fs. rw c.in-Int.is at (c.in_ok-x.ensures.does P fs here)) c.advance.ensures);
}

pub returns-in_err-x-in-Pair-clause-run : goal.returns-in_err-x-in-Pair-clause-run
returns-in_err-x-in-Pair-clause-run c = λ P k.
    let p = err_from_is_err_and c.from_residual-in_err-x-in-Pair.result c.from_residual-in_err-x-in-Pair.ensures.1 in
    let here : HasOps P c.loop-x.self.method c.args.ops.now = rw c.loop-x.invariant.method k in
    let there : HasOps P c.advance-in-Pair.new.self.method c.args.ops.now = rw (c.advance-in-Pair.ensures, c.in_ok-x.ensures.place.0) here in
    let fits : SFits w32 c.in-Pair.y = search rules in
    let top = to_z w32 c.loop-x.top-bits in
    let start = with_int c.args.held c.args.self.now in
    let two = with_int c.in-Pair.y (with_int top c.advance-in-Pair.new.self) in
    let reached = subst (λ (z : ℤ). Reaches P (with_int z c.args.self.now) (with_int top c.loop-x.self)) (to_z-of_z w32 c.args.held c.ranges.held) (c.loop-x.invariant.reaches P k) in
    let both : Reaches P start two = reaches_next P start (with_int top c.loop-x.self) (with_int c.in-Pair.y (with_int top c.plain_over_in.new.self)) two reached
    (λ fs. rw c.in-Pair.is at (c.in_ok-x.ensures.does P fs here)) (rw c.advance-in-Pair.ensures refl) in
    let run = rw (to_z-of_z w32 c.in-Pair.y fits) at (c.in_err-x-in-Pair.ensures.run P there) in
    rw (p.1, p.2) (straight_behind P start two c.straight_over_two.new.self both (Err c.in_err-x-in-Pair.field-0.0) run)

pub returns-in-Flow-2-clause-run : goal.returns-in-Flow-2-clause-run
returns-in-Flow-2-clause-run c = λ P k.
    let here : HasOps P c.loop-x.self.method c.args.ops.now = rw c.loop-x.invariant.method k in
    let there : HasOps P c.advance-in-Pair.new.self.method c.args.ops.now = rw (c.advance-in-Pair.ensures, c.in_ok-x.ensures.place.0) here in
    let fits : SFits w32 c.in-Pair.y = search rules in
    let top = to_z w32 c.loop-x.top-bits in
    let start = with_int c.args.held c.args.self.now in
    let two = with_int c.in-Pair.y (with_int top c.advance-in-Pair.new.self) in
    let reached = subst (λ (z : ℤ). Reaches P (with_int z c.args.self.now) (with_int top c.loop-x.self)) (to_z-of_z w32 c.args.held c.ranges.held) (c.loop-x.invariant.reaches P k) in
    let both : Reaches P start two = reaches_next P start (with_int top c.loop-x.self) (with_int c.in-Pair.y (with_int top c.plain_over_in.new.self)) two reached
    (λ fs. rw c.in-Pair.is at (c.in_ok-x.ensures.does P fs here)) (rw c.advance-in-Pair.ensures refl) in
    let run = subst (λ (z : ℤ). IsStraight P (with_int z (with_int top c.advance-in-Pair.new.self)) c.straight_over_two.new.self (Ok c.in-Flow-2.flow)) (to_z-of_z w32 c.in-Pair.y fits)
    (rw c.in-Flow-2.is at (c.in_ok-x-in-Pair.ensures.run P there)) in
    straight_behind P start two c.straight_over_two.new.self both (Ok c.in-Flow-2.flow) run

pub loop-x-preserved : goal.loop-x-preserved
loop-x-preserved c = record {
  method = c.in_ok-x-in-Pair.ensures.method ∙ rw c.advance-in-Pair.ensures (c.in_ok-x.ensures.place.0 ∙ c.loop-x.invariant.method);
  onward = let h = rw (c.advance-in-Pair.ensures, c.in_ok-x.ensures.place.1) at c.in_ok-x-in-Pair.ensures.onward in omega arith;
  within = c.in_ok-x-in-Pair.ensures.within;
  reaches = λ P k.
      let here : HasOps P c.loop-x.self.method c.args.ops.now = rw c.loop-x.invariant.method k in
      let there : HasOps P c.advance-in-Pair.new.self.method c.args.ops.now = rw (c.advance-in-Pair.ensures, c.in_ok-x.ensures.place.0) here in
      let fits : SFits w32 c.in-Pair.y = search rules in
      let top = to_z w32 c.loop-x.top-bits in
      let start = with_int c.args.held c.args.self.now in
      let two = with_int c.in-Pair.y (with_int top c.advance-in-Pair.new.self) in
      let reached = subst (λ (z : ℤ). Reaches P (with_int z c.args.self.now) (with_int top c.loop-x.self)) (to_z-of_z w32 c.args.held c.ranges.held) (c.loop-x.invariant.reaches P k) in
      let both : Reaches P start two = reaches_next P start (with_int top c.loop-x.self) (with_int c.in-Pair.y (with_int top c.plain_over_in.new.self)) two reached
      (λ fs. rw c.in-Pair.is at (c.in_ok-x.ensures.does P fs here)) (rw c.advance-in-Pair.ensures refl) in
      let run = rw (to_z-of_z w32 c.in-Pair.y fits) at (rw c.in-Int-2.is at (c.in_ok-x-in-Pair.ensures.run P there)) in
      let fits_one : SFits w32 c.in-Int-2.x = search rules in
      rw (to_z-of_z w32 c.args.held c.ranges.held, to_z-of_z w32 c.in-Int-2.x fits_one) (reaches_trans P start two (with_int c.in-Int-2.x c.straight_over_two.new.self) both run);
}
