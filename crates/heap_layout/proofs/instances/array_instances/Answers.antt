use Rattle.std.proofs.lemmas.Result.{IfOk-from_err}
use Rattle.heap_layout.proofs.instances.array_instances.Goals as goal

pub returns-in_err-element_instances : goal.returns-in_err-element_instances
returns-in_err-element_instances c = IfOk-from_err _ _ c.from_residual.ensures.0

pub returns-in_err-from_slice : goal.returns-in_err-from_slice
returns-in_err-from_slice c = IfOk-from_err _ _ c.from_residual-in_err-from_slice.ensures.0

pub returns-in_err-push : goal.returns-in_err-push
returns-in_err-push c = IfOk-from_err _ _ c.from_residual-in_err-push.ensures.0
