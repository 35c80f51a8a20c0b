use Rattle.std.proofs.Common.{◌≡◌, ◌++◌, ◌∷◌, [], ◌∙◌, List, ℕ, codes, ap, sym, append_assoc}
use Rattle.std.specs.Fmt.{decimal}
use Rattle.jmodel.specs.history.Output.{◌and◌, line}
use Rattle.deuce.specs.Rewritten.{counts_text}
use Rattle.deuce.proofs.Lists.{on_ok}
use Rattle.deuce.proofs.outcome.counts.Goals as goal

pub returns : goal.returns
returns c =
    let classes = decimal c.args.classes in
    let taken = decimal c.args.taken in
    let marked = line (codes "atomic" and decimal c.args.marked) in
    let first = line (codes "classes" and classes) in
    let behind = codes "taken " ++ (taken ++ 10 ∷ marked) in
    let same : counts_text c.args.classes c.args.taken c.args.marked ≡ codes "classes " ++ (classes ++ 10 ∷ behind) =
    append_assoc first (line (codes "taken" and taken)) marked ∙ ap (λ (l : List ℕ). first ++ (codes "taken " ++ l)) (append_assoc taken (10 ∷ []) marked)
    ∙ ap (λ (l : List ℕ). codes "classes " ++ l) (append_assoc classes (10 ∷ []) behind) in
    on_ok c.from_slice.result _ _ (λ text is. is ∙ c.as_bytes.ensures.value ∙ c.in_ok-text.ensures.ok ∙ sym same) c.from_slice.ensures
