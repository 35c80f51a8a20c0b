use Rattle.std.proofs.Common.{Ok, refl}
use Rattle.objects.specs.rewriting.Events.{Grows}
use Rattle.machine.specs.Machine.{bounds_of, AddsNone, Begins}
use Rattle.machine.specs.Running.{Saw}
use Rattle.machine.proofs.Soundly.{sound_call}
use Rattle.machine.proofs.Opaquely.{opaque_of, typed_call}
use Rattle.machine.proofs.Ends.{adds_of, tells_of, tries_of, end_of_call, stuck_of_call}
use Rattle.machine.proofs.machine.Machine.call.Goals as goal

pub returns-in-Ok-clause-run : goal.returns-in-Ok-clause-run
returns-in-Ok-clause-run g c = λ h n k s aw em ea may.
    adds_of c.args.program.now (bounds_of c.args.limits) k (g.E.Engine.awaits c.args.tx.now) g.E.Engine.allows (Begins (g.E.Engine.attempts c.args.tx.now) (g.E.Engine.attempts c.attempts.new.tx)) (Grows (g.G.Gate.told c.args.gate.now) (g.G.Gate.told c.attempts.new.gate)) (g.E.Engine.stands c.attempts.new.tx) h n (Saw g.E.Engine.is_shared g.E.Engine.begins g.E.Engine.allows h k c.args.limits.room.used) c.in-Ok.end aw may
    (end_of_call c.args.program.now (bounds_of c.args.limits) k c.args.method c.args.args.now (g.E.Engine.awaits c.args.tx.now) g.E.Engine.allows (Begins (g.E.Engine.attempts c.args.tx.now) (g.E.Engine.attempts c.attempts.new.tx)) (Grows (g.G.Gate.told c.args.gate.now) (g.G.Gate.told c.attempts.new.gate)) (g.E.Engine.stands c.attempts.new.tx) h n (AddsNone (g.E.Engine.stands c.attempts.new.tx h) n) (Saw g.E.Engine.is_shared g.E.Engine.begins g.E.Engine.allows h k c.args.limits.room.used) (Ok c.in-Ok.end) em ea (c.in-Ok.ensures.run h n k s aw))

pub returns-in-Err-NoMemory-clause-run : goal.returns-in-Err-NoMemory-clause-run
returns-in-Err-NoMemory-clause-run g c = λ h n k s aw em ea may.
    rw c.unplaced.ensures (((rw c.in-Err-NoMemory.field-0-is at c.in-Err-NoMemory.ensures.run) h n k s aw).0, record { unstamped = refl; unused = refl })

pub returns-in-Err-Wrong-clause-run : goal.returns-in-Err-Wrong-clause-run
returns-in-Err-Wrong-clause-run g c = λ h n k s aw em ea may.
    let t = (rw c.in-Err-Wrong.field-0-is at c.in-Err-Wrong.ensures.run) h n k s aw in
    (t.0, (t.1.reads, stuck_of_call c.args.program.now (bounds_of c.args.limits) k c.args.method c.args.args.now t.1.reads em ea t.1.comes))

pub returns-in-Ok-clause-attempts : goal.returns-in-Ok-clause-attempts
returns-in-Ok-clause-attempts g c = λ h n j k s aw em ea may a.
    tries_of c.args.program.now (bounds_of c.args.limits) k (g.E.Engine.awaits c.args.tx.now) g.E.Engine.allows (g.E.Engine.attempts c.args.tx.now) (g.E.Engine.attempts c.attempts.new.tx) (Grows (g.G.Gate.told c.args.gate.now) (g.G.Gate.told c.attempts.new.gate)) (g.E.Engine.stands c.attempts.new.tx) h n j (Saw g.E.Engine.is_shared g.E.Engine.begins g.E.Engine.allows h k c.args.limits.room.used) c.in-Ok.end aw may a
    (end_of_call c.args.program.now (bounds_of c.args.limits) k c.args.method c.args.args.now (g.E.Engine.awaits c.args.tx.now) g.E.Engine.allows (Begins (g.E.Engine.attempts c.args.tx.now) (g.E.Engine.attempts c.attempts.new.tx)) (Grows (g.G.Gate.told c.args.gate.now) (g.G.Gate.told c.attempts.new.gate)) (g.E.Engine.stands c.attempts.new.tx) h n (AddsNone (g.E.Engine.stands c.attempts.new.tx h) n) (Saw g.E.Engine.is_shared g.E.Engine.begins g.E.Engine.allows h k c.args.limits.room.used) (Ok c.in-Ok.end) em ea (c.in-Ok.ensures.run h n k s aw))

pub returns-in-Err-Wrong-clause-sound : goal.returns-in-Err-Wrong-clause-sound
returns-in-Err-Wrong-clause-sound g c = λ P Ts h n k typed s aw own leads over.
    let t = (rw c.in-Err-Wrong.field-0-is at c.in-Err-Wrong.ensures.run) h n k s aw in
    absurd (sound_call P Ts c.args.program.now c.args.limits c.args.method c.args.args.now g.E.Engine.is_shared g.E.Engine.begins g.E.Engine.allows h k typed own leads over t.1)

pub returns-in-Ok-clause-told : goal.returns-in-Ok-clause-told
returns-in-Ok-clause-told g c = λ h n k s aw em ea may.
    tells_of c.args.program.now (bounds_of c.args.limits) k (g.E.Engine.awaits c.args.tx.now) g.E.Engine.allows (Begins (g.E.Engine.attempts c.args.tx.now) (g.E.Engine.attempts c.attempts.new.tx)) (Grows (g.G.Gate.told c.args.gate.now) (g.G.Gate.told c.attempts.new.gate)) (g.E.Engine.stands c.attempts.new.tx) h n (Saw g.E.Engine.is_shared g.E.Engine.begins g.E.Engine.allows h k c.args.limits.room.used) c.in-Ok.end aw may
    (end_of_call c.args.program.now (bounds_of c.args.limits) k c.args.method c.args.args.now (g.E.Engine.awaits c.args.tx.now) g.E.Engine.allows (Begins (g.E.Engine.attempts c.args.tx.now) (g.E.Engine.attempts c.attempts.new.tx)) (Grows (g.G.Gate.told c.args.gate.now) (g.G.Gate.told c.attempts.new.gate)) (g.E.Engine.stands c.attempts.new.tx) h n (AddsNone (g.E.Engine.stands c.attempts.new.tx h) n) (Saw g.E.Engine.is_shared g.E.Engine.begins g.E.Engine.allows h k c.args.limits.room.used) (Ok c.in-Ok.end) em ea (c.in-Ok.ensures.run h n k s aw))

pub returns-in-Err-NoMemory-clause-told : goal.returns-in-Err-NoMemory-clause-told
returns-in-Err-NoMemory-clause-told g c = λ h n k s aw em ea may.
    rw c.unplaced.ensures ((rw c.in-Err-NoMemory.field-0-is at c.in-Err-NoMemory.ensures.run) h n k s aw).1

pub returns-in-Err-Wrong-clause-told : goal.returns-in-Err-Wrong-clause-told
returns-in-Err-Wrong-clause-told g c = λ h n k s aw em ea may.
    ((rw c.in-Err-Wrong.field-0-is at c.in-Err-Wrong.ensures.run) h n k s aw).2

pub returns-in-Ok-clause-prefixes : goal.returns-in-Ok-clause-prefixes
returns-in-Ok-clause-prefixes g c = λ P Ts h n k typed s aw em ea own may leads over.
    opaque_of P Ts c.args.program.now c.args.limits g.E.Engine.begins g.E.Engine.allows k (typed_call P Ts c.args.program.now k c.args.method c.args.args.now em ea typed) own over g.E.Engine.is_shared h leads
    (g.E.Engine.awaits c.args.tx.now) (Begins (g.E.Engine.attempts c.args.tx.now) (g.E.Engine.attempts c.attempts.new.tx)) (Grows (g.G.Gate.told c.args.gate.now) (g.G.Gate.told c.attempts.new.gate)) (g.E.Engine.stands c.attempts.new.tx) n c.in-Ok.end aw may
    (end_of_call c.args.program.now (bounds_of c.args.limits) k c.args.method c.args.args.now (g.E.Engine.awaits c.args.tx.now) g.E.Engine.allows (Begins (g.E.Engine.attempts c.args.tx.now) (g.E.Engine.attempts c.attempts.new.tx)) (Grows (g.G.Gate.told c.args.gate.now) (g.G.Gate.told c.attempts.new.gate)) (g.E.Engine.stands c.attempts.new.tx) h n (AddsNone (g.E.Engine.stands c.attempts.new.tx h) n) (Saw g.E.Engine.is_shared g.E.Engine.begins g.E.Engine.allows h k c.args.limits.room.used) (Ok c.in-Ok.end) em ea (c.in-Ok.ensures.run h n k s aw))

pub returns-in-Err-NoMemory-clause-prefixes : goal.returns-in-Err-NoMemory-clause-prefixes
returns-in-Err-NoMemory-clause-prefixes g c = λ P Ts h n k typed s aw em ea own may leads over. rw c.unplaced.ensures tt
