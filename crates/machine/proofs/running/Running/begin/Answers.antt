use Rattle.std.proofs.Common.{◌≡◌, inr, [], ◌∷◌, true, nat_lt, min, arith, refl}
use Rattle.std.proofs.lemmas.Bool.Decides.{nat_tests}
use Rattle.std.proofs.lemmas.Grind.{common_steps}
use Rattle.objects.specs.declared.event.Event.TheVariants as event
use Rattle.objects.specs.rewriting.Attempt.{count_of, begun, Gives}
use Rattle.machine.proofs.running.Running.begin.Goals as goal

pub returns-clause-run : goal.returns-clause-run
returns-clause-run g c = λ h n r w k used a s P.
    let e : nat_lt c.args.self.now.tried (min (count_of c.args.retries) c.args.limits.attempts) ≡ true = grind (arith, nat_tests, common_steps) in
    let stood = rw s.idle.0 at (rw s.idle.1 at s.stands) in
    let st = c.begin.ensures.run h s.conflicts stood in
    let t = s.tries in
    ([], [], record { conflicts = s.conflicts; later = s.later; stands = st; tries = omega arith; idle = tt; knew = inr (g.met.E.Engine.snapshot c.begin.new.self h s.conflicts [] [] k used st c.begin.ensures.open (c.begin.ensures.awaits k used a)) }, (Gives 0, rw (e, begun, c.advance.ensures) refl, (event.Began ∷ [], rw e refl, tt, c.at.ensures)))
