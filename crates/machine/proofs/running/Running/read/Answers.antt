use Rattle.std.proofs.Common.{◌+◌, [], ◌∷◌, arith, refl, inr}
use Rattle.objects.specs.declared.event.Event.TheVariants as event
use Rattle.objects.specs.rewriting.Attempt.{Gives, Refuses, recorded, written}
use Rattle.machine.specs.Running.{Saw, frames, meter}
use Rattle.machine.proofs.Ways.{grows_trans}
use Rattle.machine.proofs.Turning.{turn_of, reads, lands_as}
use Rattle.machine.proofs.Knowing.{knew_open}
use Rattle.machine.proofs.running.Running.read.Goals as goal

pub returns-in-Ok-clause-run : goal.returns-in-Ok-clause-run
returns-in-Ok-clause-run g c = λ h n r w k used a s B.
    let st = c.in-Ok.ensures.run h s.conflicts r w (c.raw-raw.ensures.run h s.conflicts r w s.stands) in
    let seen = g.met.E.Engine.snapshot c.on_read.new.self h s.conflicts (recorded (written w c.address-address.result) c.address-address.result c.in-Ok.word r) w k used st.1 c.in-Ok.ensures.open (c.in-Ok.ensures.awaits k used (c.raw-raw.ensures.awaits k used a)) in
    turn_of B _ _ _ _ _ _ (recorded (written w c.address-address.result) c.address-address.result c.in-Ok.word r) w (Gives c.in-Ok.word)
    (rw (c.resume_with.ensures.stage, c.resume_with.ensures.tried, c.requires.stage) (record { conflicts = s.conflicts; later = s.later; stands = st.1; tries = s.tries; idle = tt; knew = inr seen }))
    (lands_as B _ _ c.resume_with.new.self c.resume_with.result (recorded (written w c.address-address.result) c.address-address.result c.in-Ok.word r) w
    (reads c.args.place c.args.word_type c.args.program.now (frames c.args.self.now) (meter c.args.self.now) w r c.address-address.result c.in-Ok.word c.address-address.ensures st.0)
    (rw (c.requires.stage, c.value_of.ensures) at (c.resume_with.ensures.run B (recorded (written w c.address-address.result) c.address-address.result c.in-Ok.word r) w))) (
      event.Loaded c.address-address.result ∷ event.Checked c.address-address.result ∷ [],
      rw c.address-address.ensures refl,
      tt,
      grows_trans _ _ _ (event.Loaded c.address-address.result ∷ []) (event.Checked c.address-address.result ∷ []) c.at.ensures c.at-in-Ok.ensures,
    )

pub returns-in-Err-Conflict-clause-run : goal.returns-in-Err-Conflict-clause-run
returns-in-Err-Conflict-clause-run g c = λ h n r w k used a s B.
    let t = s.tries in
    let l = s.later in
    turn_of B _ _ _ _ _ _ r w Refuses
    (rw (c.doom.ensures.stage, c.doom.ensures.tried) (record { conflicts = s.conflicts + 1; later = omega arith; stands = (rw c.in-Err-Conflict.field-0-is at c.in-Err-Conflict.ensures.run) h s.conflicts r w (c.raw-raw.ensures.run h s.conflicts r w s.stands); tries = omega arith; idle = tt; knew = inr (knew_open (Saw g.E.Engine.is_shared g.E.Engine.begins g.E.Engine.allows h k used) c.args.self.now.tried r s.knew) }))
    (c.doom.ensures.run B r w)
    (event.Loaded c.address-address.result ∷ [], rw c.address-address.ensures refl, tt, c.at.ensures)

pub returns-in-Err-NoMemory-clause-run : goal.returns-in-Err-NoMemory-clause-run
returns-in-Err-NoMemory-clause-run g c = λ h n r w k used a s B.
    let st = (rw c.in-Err-NoMemory.field-0-is at c.in-Err-NoMemory.ensures.run) h s.conflicts r w (c.raw-raw.ensures.run h s.conflicts r w s.stands) in (
      r,
      w,
      rw c.requires.stage (record { conflicts = s.conflicts; later = s.later; stands = st; tries = s.tries; idle = tt; knew = s.knew }),
      record { events = event.Loaded c.address-address.result ∷ []; no_entry = tt; told = c.at.ensures },
    )
