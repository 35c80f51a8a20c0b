use Rattle.std.proofs.Common.{◌≡◌, ℕ, ◌+◌, None, drop, get_or, Option, sym, ap, ◌∙◌}
use Rattle.std.specs.Option.{option_copied}
use Rattle.std.specs.Ordering.{nat_cmp}
use Rattle.std.specs.BTreeMap.{get}
use Rattle.objects.specs.semantics.Program.{or_else}
use Rattle.hierarchy.specs.Selecting.{first_upward}
use Rattle.hierarchy.proofs.Each.{item_at}
use Rattle.hierarchy.proofs.selection.first_upward.Goals as goal

pub returns-in-Some : goal.returns-in-Some
returns-in-Some c =
    let numbers = c.args.numbers.now in
    let i : ℕ = c.loop-class.class-index in
    let item = item_at c.args.classes.now i 0 c.loop-class-test.true in
    ap (λ (o : Option ℕ). or_else o (first_upward numbers (drop (i + 1) c.args.classes.now))) c.in-Some.ensures.value ∙ sym (ap (first_upward numbers) item) ∙ c.loop-class.invariant

pub loop-class-preserved : goal.loop-class-preserved
loop-class-preserved c =
    let numbers = c.args.numbers.now in
    let i : ℕ = c.loop-class.class-index in
    let item = item_at c.args.classes.now i 0 c.loop-class-test.true in
    let none : get nat_cmp numbers (get_or c.args.classes.now i 0) ≡ None = sym c.get.ensures.value ∙ ap (λ o. option_copied o) c.in_default.is in
    sym (ap (λ (o : Option ℕ). or_else o (first_upward numbers (drop (i + 1) c.args.classes.now))) none) ∙ sym (ap (first_upward numbers) item) ∙ c.loop-class.invariant
