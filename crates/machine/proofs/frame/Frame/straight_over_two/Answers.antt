use Rattle.std.proofs.Common.{◌≡◌, ℤ, w32, to_z, of_z, arith, rules, refl, sym, ap, subst, [], Ok, Err, ◌∙◌}
use mir.Val.{SFits}
use Rattle.std.proofs.lemmas.Int.{to_z-of_z}
use Rattle.std.proofs.lemmas.Result.{err_from_is_err_and}
use Rattle.objects.specs.semantics.Step.{Frame}
use Rattle.machine.specs.Meets.{HasOps, with_int}
use Rattle.machine.specs.Running.{Reaches}
use Rattle.machine.proofs.Going.{reaches_held, reaches_next, straight_ends}
use Rattle.machine.proofs.frame.Frame.straight_over_two.Goals as goal

pub returns-in_err-z-clause-run : goal.returns-in_err-z-clause-run
returns-in_err-z-clause-run c = λ P k.
    let p = err_from_is_err_and c.from_residual.result c.from_residual.ensures.1 in
    let here : HasOps P c.loop-z.self.method c.args.ops.now = rw c.loop-z.invariant.method k in
    let start = with_int c.args.upper (with_int c.args.lower c.args.self.now) in
    let two = with_int (to_z w32 c.loop-z.y-bits) (with_int (to_z w32 c.loop-z.x-bits) c.loop-z.self) in
    let reached : Reaches P start two = simp (to_z-of_z, c.ranges.upper, c.ranges.lower) at (c.loop-z.invariant.reaches P k) in
    rw (p.1, p.2) (straight_ends P start two c.plain_over_two_in.new.self (Err c.in_err-z.field-0.0) reached (λ fs. c.in_err-z.ensures.does P fs here))

pub returns-in-Int-clause-run : goal.returns-in-Int-clause-run
returns-in-Int-clause-run c = λ P k.
    let here : HasOps P c.loop-z.self.method c.args.ops.now = rw c.loop-z.invariant.method k in
    let start = with_int c.args.upper (with_int c.args.lower c.args.self.now) in
    let two = with_int (to_z w32 c.loop-z.y-bits) (with_int (to_z w32 c.loop-z.x-bits) c.loop-z.self) in
    let reached : Reaches P start two = simp (to_z-of_z, c.ranges.upper, c.ranges.lower) at (c.loop-z.invariant.reaches P k) in
    let fits : SFits w32 c.in-Int.z = search rules in
    rw (to_z-of_z w32 c.in-Int.z fits) (reaches_held P start two c.plain_over_two_in.new.self c.in-Int.z c.advance.new.self reached (λ fs. rw c.in-Int.is at (c.in_ok-z.ensures.does P fs here)) c.advance.ensures)

pub returns-in-Flow-clause-run : goal.returns-in-Flow-clause-run
returns-in-Flow-clause-run c = λ P k.
    let here : HasOps P c.loop-z.self.method c.args.ops.now = rw c.loop-z.invariant.method k in
    let start = with_int c.args.upper (with_int c.args.lower c.args.self.now) in
    let two = with_int (to_z w32 c.loop-z.y-bits) (with_int (to_z w32 c.loop-z.x-bits) c.loop-z.self) in
    let reached : Reaches P start two = simp (to_z-of_z, c.ranges.upper, c.ranges.lower) at (c.loop-z.invariant.reaches P k) in
    straight_ends P start two c.plain_over_two_in.new.self (Ok c.in-Flow.flow) reached (λ fs. rw c.in-Flow.is at (c.in_ok-z.ensures.does P fs here))

pub returns-in-Under-clause-run : goal.returns-in-Under-clause-run
returns-in-Under-clause-run c = λ P k.
    let here : HasOps P c.loop-z.self.method c.args.ops.now = rw c.loop-z.invariant.method k in
    let start = with_int c.args.upper (with_int c.args.lower c.args.self.now) in
    let two = with_int (to_z w32 c.loop-z.y-bits) (with_int (to_z w32 c.loop-z.x-bits) c.loop-z.self) in
    let reached : Reaches P start two = simp (to_z-of_z, c.ranges.upper, c.ranges.lower) at (c.loop-z.invariant.reaches P k) in
    let same : with_int (to_z w32 c.loop-z.y-bits) c.plain_over_two_in.new.self ≡ two = rw c.in-Under.is at (c.in_ok-z.ensures.does P [] here) in
    rw same reached

pub loop-z-preserved-in-Some : goal.loop-z-preserved-in-Some
loop-z-preserved-in-Some c = record {
  method = rw (c.advance-in-Some.ensures, c.advance-in-Third.ensures) (c.in_ok-z.ensures.place.0 ∙ c.loop-z.invariant.method);
  onward = rw (c.advance-in-Some.ensures, c.advance-in-Third.ensures, c.in_ok-z.ensures.place.1) (omega arith);
  within = rw c.advance-in-Some.ensures (let h = c.in-Some.ensures.inside in omega arith);
  reaches = λ P k.
      let here : HasOps P c.loop-z.self.method c.args.ops.now = rw c.loop-z.invariant.method k in
      let start = with_int c.args.upper (with_int c.args.lower c.args.self.now) in
      let two = with_int (to_z w32 c.loop-z.y-bits) (with_int (to_z w32 c.loop-z.x-bits) c.loop-z.self) in
      let reached : Reaches P start two = simp (to_z-of_z, c.ranges.upper, c.ranges.lower) at (c.loop-z.invariant.reaches P k) in
      let fits : SFits w32 c.in-Third.z = search rules in
      let below = with_int (to_z w32 c.loop-z.x-bits) c.advance-in-Third.new.self in
      let three = with_int c.in-Third.z (with_int (to_z w32 c.loop-z.y-bits) below) in
      let all : Reaches P start three = reaches_next P start two (with_int c.in-Third.z (with_int (to_z w32 c.loop-z.y-bits) (with_int (to_z w32 c.loop-z.x-bits) c.plain_over_two_in.new.self))) three reached
      (λ fs. rw c.in-Third.is at (c.in_ok-z.ensures.does P fs here)) (rw c.advance-in-Third.ensures refl) in
      let fits_both : SFits w32 c.in-Some.combined = search rules in
      let there : HasOps P c.advance-in-Third.new.self.method c.args.ops.now = rw (c.advance-in-Third.ensures, c.in_ok-z.ensures.place.0) here in
      let onto : Reaches P start (with_int c.in-Some.combined (with_int (to_z w32 c.loop-z.x-bits) c.advance-in-Some.new.self)) =
      reaches_next P start three (with_int c.in-Some.combined below) (with_int c.in-Some.combined (with_int (to_z w32 c.loop-z.x-bits) c.advance-in-Some.new.self)) all
      (λ fs. rw (to_z-of_z w32 c.in-Third.z fits) at (c.in-Some.ensures.does P below fs there refl)) (rw c.advance-in-Some.ensures refl) in
      rw (to_z-of_z w32 c.args.upper c.ranges.upper, to_z-of_z w32 c.args.lower c.ranges.lower, to_z-of_z w32 c.in-Some.combined fits_both) onto;
}

pub returns-in_err-put-in-None-clause-run : goal.returns-in_err-put-in-None-clause-run
returns-in_err-put-in-None-clause-run c = λ P k.
    let p = err_from_is_err_and c.from_residual-in_err-put-in-None.result c.from_residual-in_err-put-in-None.ensures.1 in
    let here : HasOps P c.loop-z.self.method c.args.ops.now = rw c.loop-z.invariant.method k in
    let start = with_int c.args.upper (with_int c.args.lower c.args.self.now) in
    let two = with_int (to_z w32 c.loop-z.y-bits) (with_int (to_z w32 c.loop-z.x-bits) c.loop-z.self) in
    let reached : Reaches P start two = simp (to_z-of_z, c.ranges.upper, c.ranges.lower) at (c.loop-z.invariant.reaches P k) in
    let fits : SFits w32 c.in-Third.z = search rules in
    let below = with_int (to_z w32 c.loop-z.x-bits) c.advance-in-Third.new.self in
    let three = with_int c.in-Third.z (with_int (to_z w32 c.loop-z.y-bits) below) in
    let all : Reaches P start three = reaches_next P start two (with_int c.in-Third.z (with_int (to_z w32 c.loop-z.y-bits) (with_int (to_z w32 c.loop-z.x-bits) c.plain_over_two_in.new.self))) three reached
    (λ fs. rw c.in-Third.is at (c.in_ok-z.ensures.does P fs here)) (rw c.advance-in-Third.ensures refl) in
    rw (p.1, p.2) (record { frame = three; reaches = all; does = λ fs. tt })

pub loop-z-preserved : goal.loop-z-preserved
loop-z-preserved c = record {
  method = ap (λ (f : Frame). f.method) c.self.view_is ∙ rw c.advance-in-Third.ensures (c.in_ok-z.ensures.place.0 ∙ c.loop-z.invariant.method);
  onward = rw (ap (λ (f : Frame). f.pc) c.self.view_is, c.advance-in-Third.ensures, c.in_ok-z.ensures.place.1) (omega arith);
  within = rw (ap (λ (f : Frame). f.pc) c.self.view_is, c.advance-in-Third.ensures, c.in_ok-z.ensures.place.1) (let h = rw c.in-Third.is at c.in_ok-z.ensures.inside in omega arith);
  reaches = λ P k.
      let here : HasOps P c.loop-z.self.method c.args.ops.now = rw c.loop-z.invariant.method k in
      let start = with_int c.args.upper (with_int c.args.lower c.args.self.now) in
      let two = with_int (to_z w32 c.loop-z.y-bits) (with_int (to_z w32 c.loop-z.x-bits) c.loop-z.self) in
      let reached : Reaches P start two = simp (to_z-of_z, c.ranges.upper, c.ranges.lower) at (c.loop-z.invariant.reaches P k) in
      let fits : SFits w32 c.in-Third.z = search rules in
      let below = with_int (to_z w32 c.loop-z.x-bits) c.advance-in-Third.new.self in
      let three = with_int c.in-Third.z (with_int (to_z w32 c.loop-z.y-bits) below) in
      let all : Reaches P start three = reaches_next P start two (with_int c.in-Third.z (with_int (to_z w32 c.loop-z.y-bits) (with_int (to_z w32 c.loop-z.x-bits) c.plain_over_two_in.new.self))) three reached
      (λ fs. rw c.in-Third.is at (c.in_ok-z.ensures.does P fs here)) (rw c.advance-in-Third.ensures refl) in
      rw (to_z-of_z w32 c.args.upper c.ranges.upper, to_z-of_z w32 c.args.lower c.ranges.lower, to_z-of_z w32 c.in-Third.z fits, c.in_ok-put-in-None.ensures)
      (subst (λ (f : Frame). Reaches P start (with_int c.in-Third.z (with_int (to_z w32 c.loop-z.y-bits) (with_int (to_z w32 c.loop-z.x-bits) f)))) (sym c.self.view_is) all);
}
