use Rattle.std.proofs.Common.{◌≡◌, ◌+◌, [], ◌∷◌, arith, inr, refl, sym, ap, ◌∙◌, ℕ}
use Rattle.std.proofs.lemmas.Result.{err_from_is_err_and}
use Rattle.objects.specs.declared.event.Event.TheVariants as event
use Rattle.objects.specs.semantics.State.{type_in, length_in}
use Rattle.objects.specs.semantics.Step.{told}
use Rattle.objects.specs.rewriting.Attempt.{Gives, Refuses, recorded, written, heads, followed}
use Rattle.machine.specs.Running.{Saw, frames, meter}
use Rattle.machine.proofs.Ways.{grows_same, told_as, none_told, nothing_told}
use Rattle.machine.proofs.Turning.{heads_other, heads_plain, headed_of, head_tells, plain_tells}
use Rattle.machine.proofs.Knowing.{knew_open}
use Rattle.machine.proofs.running.Running.head_open.Goals as goal

pub returns-then-loads_plain-clause-run : goal.returns-then-loads_plain-clause-run
returns-then-loads_plain-clause-run g c = λ h n r w k used a s.
    let P = c.args.program.now in (
      r,
      w,
      rw c.requires.stage s,
      (
        Gives 0,
        rw (c.requires.stage, c.in_ok-resume.ensures) (heads_plain (Gives 0) P c.args.how c.args.object (frames c.args.self.now) (meter c.args.self.now) w r (sym c.loads_plain.ensures ∙ c.if-loads_plain.true)),
        ([], plain_tells c.args.how (Gives 0) c.args.object (sym c.loads_plain.ensures ∙ c.if-loads_plain.true), tt, grows_same (g.G.Gate.told c.args.gate.now)),
      ),
    )

pub returns-in-Ok-clause-run : goal.returns-in-Ok-clause-run
returns-in-Ok-clause-run g c = λ h n r w k used a s.
    let P = c.args.program.now in
    let o = c.args.object in
    let x = c.in-Ok.header in
    let fs = frames c.args.self.now in
    let m = meter c.args.self.now in
    let st = c.in-Ok.ensures.run h s.conflicts r w s.stands in
    let seen = g.met.E.Engine.snapshot c.read_header.new.engine h s.conflicts (recorded (written w o) o x r) w k used st.1 c.in-Ok.ensures.open (c.in-Ok.ensures.awaits k used a) in
    let reads : heads (Gives x) P c.args.how o fs m w r ≡ followed (told P c.args.how o (type_in x) (length_in x) fs) m w (recorded (written w o) o x r)
    = heads_other (Gives x) P c.args.how o fs m w r (sym c.loads_plain.ensures ∙ c.if-loads_plain.false) ∙ ap (λ (y : ℕ). followed (told P c.args.how o (type_in y) (length_in y) fs) m w (recorded (written w o) o x r)) (sym st.0) in
    headed_of _ _ _ _ _ _ _ (recorded (written w o) o x r) w (Gives x) reads
    (rw (c.go_by.ensures.stage, c.go_by.ensures.tried, c.requires.stage) (record { conflicts = s.conflicts; later = s.later; stands = st.1; tries = s.tries; idle = tt; knew = inr seen }))
    (c.go_by.ensures.run w (recorded (written w o) o x r))
    (event.Looked o ∷ event.Loaded o ∷ event.Checked o ∷ [], head_tells c.args.how (Gives x) o _ (sym c.loads_plain.ensures ∙ c.if-loads_plain.false) refl, tt, c.in-Ok.ensures.told)

pub returns-in-Err-Conflict-clause-run : goal.returns-in-Err-Conflict-clause-run
returns-in-Err-Conflict-clause-run g c = λ h n r w k used a s.
    let P = c.args.program.now in
    let o = c.args.object in
    let t = s.tries in
    let l = s.later in
    headed_of _ _ _ _ _ _ _ r w Refuses (heads_other Refuses P c.args.how o (frames c.args.self.now) (meter c.args.self.now) w r (sym c.loads_plain.ensures ∙ c.if-loads_plain.false))
    (rw (c.refuse_head.ensures.stage, c.refuse_head.ensures.tried) (record { conflicts = s.conflicts + 1; later = omega arith; stands = (rw c.in-Err-Conflict.field-0-is at c.in-Err-Conflict.ensures.run) h s.conflicts r w s.stands; tries = omega arith; idle = tt; knew = inr (knew_open (Saw g.E.Engine.is_shared g.E.Engine.begins g.E.Engine.allows h k used) c.args.self.now.tried r s.knew) }))
    (c.refuse_head.ensures.run w r)
    (told_as _ _ _ _ (λ es t. head_tells c.args.how Refuses o es (sym c.loads_plain.ensures ∙ c.if-loads_plain.false) t) (λ es t. t) c.in-Err-Conflict.ensures.told)

pub returns-clause-run : goal.returns-clause-run
returns-clause-run g c = λ h n r w k used a s.
    let st = (rw c.in-Err-NoMemory.field-0-is at c.in-Err-NoMemory.ensures.run) h s.conflicts r w s.stands in
    (r, w, rw c.requires.stage (record { conflicts = s.conflicts; later = s.later; stands = st; tries = s.tries; idle = tt; knew = s.knew }), none_told _ _ c.in-Err-NoMemory.ensures.told)

pub returns-in_err-resume-clause-run : goal.returns-in_err-resume-clause-run
returns-in_err-resume-clause-run g c = λ h n r w k used a s.
    let p = err_from_is_err_and c.from_residual.result c.from_residual.ensures.1 in
    rw (p.1, p.2) (r, w, rw c.requires.stage s, nothing_told _ (grows_same (g.G.Gate.told c.args.gate.now)))
