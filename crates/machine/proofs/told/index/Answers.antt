use Rattle.std.proofs.Common.{◌≡◌, ◌∷◌, ◌+◌, ◌<◌, ◌^◌, pos, ◌∙◌, arith, rules}
use Rattle.std.proofs.lemmas.Grind.{common_steps}
use Rattle.std.proofs.lemmas.Int.{ints}
use Rattle.objects.specs.semantics.State.{type_in, length_in}
use Rattle.machine.proofs.Indexing.{indexed, asked_on}
use Rattle.machine.proofs.told.index.Goals as goal

pub returns-clause-step : goal.returns-clause-step
returns-clause-step c = λ fs.
    let t = c.args.array in
    let k = c.in-Ok.index in
    let is : c.args.index ≡ pos c.in-Ok.index = first_of (search rules, cc, grind (arith, common_steps, ints)) in
    let within : c.in-Ok.index < length_in c.args.array.header = first_of (omega arith, grind (arith, common_steps)) in
    let address : c.args.array.object + (c.in-Ok.index + 1) < 2 ^ 64 = first_of (search rules, grind (arith, common_steps)) in
    asked_on c.stored.result (c.args.frame.now ∷ fs) _ c.stored.ensures.on
    (indexed c.args.program.now t.object (type_in t.header) (length_in t.header) k c.args.index c.args.element (c.args.frame.now ∷ fs) is within address
    ∙ rw (c.kept_in.ensures, c.type_of-of.ensures) at (c.stored.ensures.step (c.args.frame.now ∷ fs)))
