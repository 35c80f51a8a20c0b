use Rattle.std.proofs.Common.{List, ℕ, ◌++◌, map, ap, ◌∙◌}
use Rattle.std.proofs.lemmas.Result.{IfOk-from_err}
use Rattle.objects.specs.typing.TypeOrder.{descriptor_of}
use Rattle.heap_layout.proofs.instances.push_classes.Goals as goal

pub returns-in_err-push_described : goal.returns-in_err-push_described
returns-in_err-push_described c = IfOk-from_err _ _ c.from_residual-in_err-push_described.ensures.0

pub returns : goal.returns
returns c =
    c.in_ok-push_described.ensures
    ∙ ap (λ (l : List (List ℕ)). c.args.names.now.items ++ map (λ (n : List ℕ). c.args.front.now ++ descriptor_of n) l) (c.as_slice.ensures.value ∙ c.in_ok-classes.ensures)
