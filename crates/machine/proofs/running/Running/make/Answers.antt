use Rattle.std.proofs.Common.{◌+◌, [], ◌∷◌, refl, sym, arith, inr}
use Rattle.objects.specs.declared.event.Event.TheVariants as event
use Rattle.std.proofs.lemmas.Result.{err_from_is_err_and}
use Rattle.objects.specs.rewriting.Attempt.{Gives, Refuses, access}
use Rattle.machine.specs.Machine.{bounds_of}
use Rattle.machine.proofs.Turning.{turn_of, lands_as}
use Rattle.machine.specs.Running.{Saw}
use Rattle.machine.proofs.Knowing.{knew_open}
use Rattle.machine.proofs.Making.{make_fails, make_full, make_given, make_refused, full_tells, given_tells, refused_tells}
use Rattle.machine.proofs.Ways.{grows_same, nothing_told}
use Rattle.machine.proofs.running.Running.make.Goals as goal

pub returns-in_default-clause-run : goal.returns-in_default-clause-run
returns-in_default-clause-run g c = λ h n r w k used a s.
    let B = bounds_of c.args.limits in
    let full = (rw c.in_default.is at c.place.ensures.full) refl in (
      r,
      w,
      rw c.requires.stage s,
      (
        Gives 0,
        make_full c.args.program.now B c.args.making.of c.args.making.length c.args.making.made c.args.self.now w r c.in_ok-object.object c.in_ok-object.ensures (Gives 0) full,
        ([], sym (full_tells c.args.program.now B c.args.making.of c.args.making.length c.args.self.now c.in_ok-object.object c.in_ok-object.ensures (Gives 0) full), tt, grows_same (g.G.Gate.told c.args.gate.now)),
      ),
    )

pub returns-in-Ok-clause-run : goal.returns-in-Ok-clause-run
returns-in-Ok-clause-run g c = λ h n r w k used a s.
    let B = bounds_of c.args.limits in
    let at = c.in-Some.reference in
    let x = c.in_ok-object.object in
    let there = c.in-Some.ensures.there in
    turn_of B _ _ _ _ _ _ r (access at x.header ∷ w) (Gives 0)
    (rw (c.settle_made.ensures.stage, c.settle_made.ensures.tried) (record { conflicts = s.conflicts; later = s.later; stands = c.in-Ok.ensures.run h s.conflicts r w s.stands; tries = s.tries; idle = tt; knew = s.knew }))
    (lands_as B _ _ c.settle_made.new.self c.settle_made.result r (access at x.header ∷ w) (make_given c.args.program.now B c.args.making.of c.args.making.length c.args.making.made c.args.self.now w r x c.in_ok-object.ensures at there.0 there.1)
    (c.settle_made.ensures.run B (access at x.header ∷ w) r))
    (event.Wrote at ∷ [], sym (given_tells c.args.program.now B c.args.making.of c.args.making.length c.args.self.now x c.in_ok-object.ensures at there.0 there.1), tt, c.at.ensures)

pub returns-in-Err-Conflict-clause-run : goal.returns-in-Err-Conflict-clause-run
returns-in-Err-Conflict-clause-run g c = λ h n r w k used a s.
    let B = bounds_of c.args.limits in
    let there = c.in-Some.ensures.there in
    let t = s.tries in
    let l = s.later in
    turn_of B _ _ _ _ _ _ r w Refuses
    (rw (c.doom.ensures.stage, c.doom.ensures.tried) (record { conflicts = s.conflicts + 1; later = omega arith; stands = (rw c.in-Err-Conflict.field-0-is at c.in-Err-Conflict.ensures.run) h s.conflicts r w s.stands; tries = omega arith; idle = tt; knew = inr (knew_open (Saw g.E.Engine.is_shared g.E.Engine.begins g.E.Engine.allows h k used) c.args.self.now.tried r s.knew) }))
    (lands_as B _ _ c.doom.new.self c.doom.result r w (make_refused c.args.program.now B c.args.making.of c.args.making.length c.args.making.made c.args.self.now w r c.in_ok-object.object c.in_ok-object.ensures there.0) (c.doom.ensures.run B r w))
    ([], sym (refused_tells c.args.program.now B c.args.making.of c.args.making.length c.args.self.now c.in_ok-object.object c.in_ok-object.ensures there.0), tt, grows_same (g.G.Gate.told c.args.gate.now))

pub returns-in_err-object-clause-run : goal.returns-in_err-object-clause-run
returns-in_err-object-clause-run g c = λ h n r w k used a s.
    let p = err_from_is_err_and c.from_residual.result c.from_residual.ensures.1 in
    rw (p.1, p.2) (make_fails c.args.program.now (bounds_of c.args.limits) c.args.making.of c.args.making.length c.args.making.made c.args.self.now c.args.self.now w r _ _ c.in_err-object.field-0.0 c.in_err-object.ensures
    (grows_same (g.G.Gate.told c.args.gate.now)) (rw c.requires.stage s))

pub returns-in-Err-NoMemory-clause-run : goal.returns-in-Err-NoMemory-clause-run
returns-in-Err-NoMemory-clause-run g c = λ h n r w k used a s.
    let st = (rw c.in-Err-NoMemory.field-0-is at c.in-Err-NoMemory.ensures.run) h s.conflicts r w s.stands in
    (r, w, rw c.requires.stage (record { conflicts = s.conflicts; later = s.later; stands = st; tries = s.tries; idle = tt; knew = s.knew }), nothing_told _ (grows_same (g.G.Gate.told c.args.gate.now)))
