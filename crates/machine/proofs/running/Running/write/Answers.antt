use Rattle.std.proofs.Common.{◌+◌, [], ◌∷◌, arith, refl, inr}
use Rattle.objects.specs.declared.event.Event.TheVariants as event
use Rattle.objects.specs.rewriting.Attempt.{Gives, Refuses, access, address}
use Rattle.machine.proofs.Ways.{grows_same}
use Rattle.machine.proofs.Turning.{turn_of}
use Rattle.machine.specs.Running.{Saw}
use Rattle.machine.proofs.Knowing.{knew_open}
use Rattle.machine.proofs.running.Running.write.Goals as goal

pub returns-in-Ok-clause-run : goal.returns-in-Ok-clause-run
returns-in-Ok-clause-run g c = λ h n r w k used a s B.
    let st = rw c.address-address.ensures at (c.in-Ok.ensures.run h s.conflicts r w s.stands) in
    (r, access (address c.args.place) c.args.word ∷ w, rw c.requires.stage (record { conflicts = s.conflicts; later = s.later; stands = st; tries = s.tries; idle = tt; knew = s.knew }), (Gives 0, rw (c.requires.stage, c.advance.ensures) refl, (event.Wrote c.address-address.result ∷ [], rw c.address-address.ensures refl, tt, c.at.ensures)))

pub returns-in-Err-Conflict-clause-run : goal.returns-in-Err-Conflict-clause-run
returns-in-Err-Conflict-clause-run g c = λ h n r w k used a s B.
    let t = s.tries in
    let l = s.later in
    turn_of B _ _ _ _ _ _ r w Refuses
    (rw (c.doom.ensures.stage, c.doom.ensures.tried) (record { conflicts = s.conflicts + 1; later = omega arith; stands = (rw c.in-Err-Conflict.field-0-is at c.in-Err-Conflict.ensures.run) h s.conflicts r w s.stands; tries = omega arith; idle = tt; knew = inr (knew_open (Saw g.E.Engine.is_shared g.E.Engine.begins g.E.Engine.allows h k used) c.args.self.now.tried r s.knew) }))
    (c.doom.ensures.run B r w) ([], refl, tt, grows_same (g.G.Gate.told c.args.gate.now))
