use Rattle.std.proofs.Common.{ℕ, List, sym, ap, ◌∙◌}
use Rattle.std.specs.BTreeMap.{BTreeMap}
use Rattle.objects.specs.semantics.Program.{Method}
use Rattle.hierarchy.specs.Selecting.{place_in, first_at}
use Rattle.hierarchy.proofs.GroupPlaces.{more_firsts}
use Rattle.hierarchy.proofs.selection.firsts_of.Goals as goal
use Rattle.hierarchy.proofs.selection.firsts_of.Goals.{in-Some+in_ok-note_under, in_default}

pub loop-number-preserved : goal.loop-number-preserved
loop-number-preserved c =
    let place = place_in c.args.groups.now c.args.classes.now in
    let ms : List Method = c.args.methods.now in
    let n : ℕ = c.loop-number.number in
    let k : Method = c.index-methods-number.result in
    elim c.match-place_of.branch [
      | in-Some+in_ok-note_under w ↦ λ g d. ap (λ (f : BTreeMap ℕ (BTreeMap ℕ ℕ)). first_at f g d) w.firsts-is
          ∙ more_firsts c.loop-number.firsts w.note_under.new.firsts place ms n k c.loop-number-test.true c.index-methods-number.is c.loop-number.invariant _ (sym c.place_of.ensures ∙ w.in-Some.is) w.in_ok-note_under.ensures g d
      | in_default w ↦ λ g d. more_firsts c.loop-number.firsts c.match-place_of.firsts place ms n k c.loop-number-test.true c.index-methods-number.is c.loop-number.invariant _ (sym c.place_of.ensures ∙ w.in_default.is)
          (λ g d. ap (λ (f : BTreeMap ℕ (BTreeMap ℕ ℕ)). first_at f g d) w.firsts-is) g d
    ]
