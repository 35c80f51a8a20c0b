use Rattle.std.proofs.Common.{◌≡◌, ℕ, List, [], ◌++◌, ◌+◌, Option, Vec, Global, take, sym, ap, ◌∙◌}
use Rattle.std.specs.List.{filter_map, cons_option}
use Rattle.std.proofs.lemmas.List.{append-nil}
use Rattle.hierarchy.specs.Names.{number_of}
use Rattle.hierarchy.specs.Selecting.{class_of, numbers_upward}
use Rattle.hierarchy.proofs.Each.{filter_map_next}
use Rattle.hierarchy.proofs.selection.lineage_numbers.Goals as goal
use Rattle.hierarchy.proofs.selection.lineage_numbers.Goals.{in-Some+in_ok-push, in_default}

pub loop-class-preserved : goal.loop-class-preserved
loop-class-preserved c =
    let at : List ℕ → Option ℕ = λ n. number_of c.args.classes.now (class_of n) in
    let i : ℕ = c.loop-class.class-index in
    let before : List ℕ = c.loop-class.numbers.items in
    let found : c.get.result ≡ at c.class-item.result = c.get.ensures ∙ ap at c.as_slice.ensures in
    let next : numbers_upward c.args.classes.now (take (i + 1) c.args.lineage.now) ≡ before ++ cons_option c.get.result [] =
    filter_map_next at c.args.lineage.now i c.class-item.result c.loop-class-test.true c.class-item.is
    ∙ ap (λ (o : Option ℕ). filter_map at (take i c.args.lineage.now) ++ cons_option o []) (sym found) ∙ ap (λ (l : List ℕ). l ++ cons_option c.get.result []) (sym c.loop-class.invariant) in
    elim c.match-get.branch [
      | in-Some+in_ok-push w ↦ ap (λ (v : Vec ℕ Global). v.items) w.numbers-is ∙ w.in_ok-push.ensures.items ∙ sym (next ∙ ap (λ (o : Option ℕ). before ++ cons_option o []) w.in-Some.is)
      | in_default w ↦ ap (λ (v : Vec ℕ Global). v.items) w.numbers-is ∙ sym (next ∙ ap (λ (o : Option ℕ). before ++ cons_option o []) w.in_default.is ∙ append-nil before)
    ]
