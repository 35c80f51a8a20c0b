use Rattle.std.proofs.Common.{◌+◌, [], ◌∷◌, arith, inr, refl}
use Rattle.objects.specs.declared.event.Event.TheVariants as event
use Rattle.objects.specs.rewriting.Attempt.{Gives, Refuses, recorded, written}
use Rattle.machine.proofs.Ways.{none_told}
use Rattle.machine.proofs.Turning.{turn_of}
use Rattle.machine.specs.Running.{Saw}
use Rattle.machine.proofs.Knowing.{knew_open}
use Rattle.machine.proofs.running.Running.raise_by_type.Goals as goal

pub returns-in-Ok-clause-run : goal.returns-in-Ok-clause-run
returns-in-Ok-clause-run g c = λ h n r w k used a s B.
    let st = c.in-Ok.ensures.run h s.conflicts r w s.stands in
    let o = c.args.exception in
    let seen = g.met.E.Engine.snapshot c.read_header.new.engine h s.conflicts (recorded (written w o) o c.in-Ok.header r) w k used st.1 c.in-Ok.ensures.open (c.in-Ok.ensures.awaits k used a) in
    turn_of B _ _ _ _ _ _ (recorded (written w o) o c.in-Ok.header r) w (Gives c.in-Ok.header)
    (rw (c.throw_known.ensures.stage, c.throw_known.ensures.tried) (record { conflicts = s.conflicts; later = s.later; stands = st.1; tries = s.tries; idle = tt; knew = inr seen }))
    (rw (← st.0) (rw c.type_of.ensures at (c.throw_known.ensures.run B w (recorded (written w o) o c.in-Ok.header r))))
    (event.Looked o ∷ event.Loaded o ∷ event.Checked o ∷ [], refl, tt, c.in-Ok.ensures.told)

pub returns-in-Err-Conflict-clause-run : goal.returns-in-Err-Conflict-clause-run
returns-in-Err-Conflict-clause-run g c = λ h n r w k used a s B.
    let t = s.tries in
    let l = s.later in
    turn_of B _ _ _ _ _ _ r w Refuses
    (rw (c.doom.ensures.stage, c.doom.ensures.tried) (record { conflicts = s.conflicts + 1; later = omega arith; stands = (rw c.in-Err-Conflict.field-0-is at c.in-Err-Conflict.ensures.run) h s.conflicts r w s.stands; tries = omega arith; idle = tt; knew = inr (knew_open (Saw g.E.Engine.is_shared g.E.Engine.begins g.E.Engine.allows h k used) c.args.self.now.tried r s.knew) }))
    (c.doom.ensures.run B r w)
    c.in-Err-Conflict.ensures.told

pub returns-in-Err-NoMemory-clause-run : goal.returns-in-Err-NoMemory-clause-run
returns-in-Err-NoMemory-clause-run g c = λ h n r w k used a s B.
    let st = (rw c.in-Err-NoMemory.field-0-is at c.in-Err-NoMemory.ensures.run) h s.conflicts r w s.stands in
    (r, w, rw c.requires.stage (record { conflicts = s.conflicts; later = s.later; stands = st; tries = s.tries; idle = tt; knew = s.knew }), none_told _ _ c.in-Err-NoMemory.ensures.told)
