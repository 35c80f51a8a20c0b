use Rattle.std.proofs.Common.{◌≡◌, ℕ, ◌+◌, ◌++◌, ◌∷◌, List, Some, drop, sym, ap, ◌∙◌}
use Rattle.std.specs.Prelude.{filter, slice_get}
use Rattle.std.proofs.lemmas.Option.{slice_get-get_or}
use Rattle.objects.specs.semantics.Program.{Method, method_at}
use Rattle.objects.specs.linking.Linking.{numbers_from}
use Rattle.hierarchy.proofs.Each.{item_is}
use Rattle.heap_layout.specs.Starting.{is_initialiser_at}
use Rattle.heap_layout.proofs.Beginning.{one_put, one_passed}
use Rattle.heap_layout.proofs.starting.initialisers.Goals as goal
use Rattle.heap_layout.proofs.starting.initialisers.Goals.{then-is_initialiser+in_ok-push, else-is_initialiser}

pub loop-number-preserved : goal.loop-number-preserved
loop-number-preserved c =
    let P = c.args.program.now in
    let methods = c.methods-method-items.result.now in
    let n : ℕ = c.loop-number.number in
    let k : Method = c.method-item.result in
    let same = c.methods-method-items.ensures in
    let others : List Method = drop (n + 1) P.methods in
    let item : drop n P.methods ≡ k ∷ others =
    sym (ap (λ (l : List Method). drop n l) same) ∙ item_is methods n k c.loop-number-test.true c.method-item.is ∙ ap (λ (l : List Method). k ∷ drop (n + 1) l) same in
    let there : method_at P n ≡ Some k =
    ap (λ (l : List Method). slice_get l n) (sym same) ∙ slice_get-get_or methods n k c.loop-number-test.true ∙ ap (λ (m : Method). Some m) (sym c.method-item.is) in
    let before = c.loop-number.numbers.items in
    let so_far = sym (ap (λ (l : List Method). before ++ filter (is_initialiser_at P) (numbers_from n l)) item) ∙ c.loop-number.invariant in
    let after = c.if-is_initialiser.numbers.items in
    elim c.if-is_initialiser.branch [
      | then-is_initialiser+in_ok-push w ↦ one_put P n k others before after _ there so_far (sym c.is_initialiser.ensures ∙ w.if-is_initialiser.true) (ap (λ v. v.items) w.numbers-is ∙ w.in_ok-push.ensures.items)
      | else-is_initialiser w ↦ one_passed P n k others before after _ there so_far (sym c.is_initialiser.ensures ∙ w.if-is_initialiser.false) (ap (λ v. v.items) w.numbers-is)
    ]
